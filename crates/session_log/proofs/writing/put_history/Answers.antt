use Rattle.std.proofs.Common.{[], sym, ◌∙◌, append-nil, arith}
use Rattle.context_diff.specs.Ops.{data_of}
use Rattle.context_diff.proofs.CallerLemmas.{complete}
use Rattle.cot_site.proofs.CallerLemmas.{formed_at}
use Rattle.session_log.proofs.Appending.{appended_more, appended_all}
use Rattle.session_log.proofs.writing.put_history.Goals as goal
use Rattle.wire_codec.proofs.CallerLemmas.{on_err, front_of_front, front_stays}

pub encode2-requires : goal.encode2-requires
encode2-requires c =
    formed_at c.args.book.now.ops c.loop-i.i (data_of c.in-Some.op.now) (complete c.args.book.now.ops c.known.ensures.valid).formed
    (sym c.in-Some.ensures)

pub loop-i-preserved : goal.loop-i-preserved
loop-i-preserved c =
    appended_more c.args.out.now.items c.loop-i.out.items c.encode2.new.out.items c.args.book.now.ops c.loop-i.i (data_of c.in-Some.op.now)
    c.loop-i.invariant (sym c.in-Some.ensures) c.in_ok-encode2-in-Some.ensures.ok

pub returns-in_err-encode2-in-Some-clause-err : goal.returns-in_err-encode2-in-Some-clause-err
returns-in_err-encode2-in-Some-clause-err c =
    on_err c.from_residual.result (front_of_front c.args.out.now.items c.loop-i.out.items c.encode2.new.out.items _ c.loop-i.invariant
    (front_stays c.loop-i.out.items [] c.encode2.new.out.items
    (c.in_err-encode2-in-Some.ensures.err ∙ sym (append-nil c.loop-i.out.items))))

pub returns-clause-ok : goal.returns-clause-ok
returns-clause-ok c =
    appended_all c.args.out.now.items c.loop-i.out.items c.args.book.now.ops c.loop-i.i c.loop-i.invariant
    (omega (arith, c.loop-i-test.false, c.len-i-end.ensures))
