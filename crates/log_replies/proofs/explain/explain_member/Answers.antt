use Rattle.cot_site.specs.Sites.{state_of}
use Rattle.log_replies.proofs.Traces.{trace_replied, nothing_replied}
use Rattle.log_replies.proofs.explain.explain_member.Goals as goal

pub returns-then-branch : goal.returns-then-branch
returns-then-branch c =
    trace_replied c.book-book.result.now.ops c.args.member.now (state_of c.args.site.now) c.in_ok-trace.field-0 c.new-lines.result.items
    c.trace.new.out.items c.deref.result.now c.args.out.now.items c.put_lines.new.out.items
    c.book-book.ensures c.known.ensures.valid c.known.ensures.cells c.ends_in_executed_form.ensures
    c.if-branch.true c.in_ok-trace.ensures.found c.new-lines.ensures.items c.in_ok-trace.ensures.lines c.deref.ensures.value
    c.in_ok-put_lines.ensures

pub returns : goal.returns
returns c =
    nothing_replied c.book-book.result.now.ops c.args.member.now (state_of c.args.site.now) c.in_ok-trace.field-0 c.args.out.now.items
    c.refuse_unknown.new.out.items
    c.book-book.ensures c.if-branch.false c.in_ok-trace.ensures.found c.in_ok-refuse_unknown.ensures
