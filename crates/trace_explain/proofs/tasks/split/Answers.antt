use Rattle.std.proofs.Common.{ap, ◌∙◌}
use Rattle.context_vector.specs.Contexts.{ContextData}
use Rattle.context_vector.specs.Vectors.{lowered}
use Rattle.trace_explain.proofs.DerivedForms.{short_history}
use Rattle.trace_explain.proofs.Smaller.{smaller, context_of_key}
use Rattle.trace_explain.proofs.Turned.{turn_split, tasks_put, last_of_key}
use Rattle.trace_explain.proofs.tasks.split.Goals as goal

pub returns : goal.returns
returns c =
    let s = short_history c.args.book.now.ops c.known.ensures.valid c.known.ensures.cells in
    let last =
    last_of_key c.args.book.now.ops c.args.key c.member_in-member.result c.in_ok-over.over c.context_in-2.result.now.set
    c.member_in-member.ensures c.context_in-2.ensures c.in_ok-over.ensures in
    let small =
    smaller c.last_may_be_taken_out.ensures c.args.book.now.ops c.known.ensures.valid c.args.key
    (context_of_key c.context_in.result.now.set c.args.key.context c.context_in.ensures c.known-2.ensures) c.requires.tasks.0
    c.in_ok-over.over last in
    let less = c.in_ok-context.ensures ∙ ap (λ (d : ContextData). lowered d c.in_ok-over.over) c.context_in-3.ensures in
    turn_split c.args.book.now.ops s c.args.key c.in_ok-over.over c.args.work.now c.add-3.new.self _ c.requires.derived c.requires.tasks
    c.requires.new c.requires.more last small
    (tasks_put c.args.key c.in_ok-over.over c.member_in-member.result c.in_ok-try_clone.field-0.set c.in_ok-context.context.set
    c.args.work.now c.add.new.self c.add-2.new.self c.add-3.new.self c.member_in-member.ensures (c.in_ok-try_clone.ensures ∙ less) less
    c.in_ok-add.ensures c.in_ok-add-2.ensures c.in_ok-add-3.ensures)
