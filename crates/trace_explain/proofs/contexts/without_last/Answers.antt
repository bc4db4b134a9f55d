use Rattle.std.proofs.Common.{sym, subst, ◌∙◌}
use Rattle.context_vector.specs.Contexts.{ContextData}
use Rattle.context_vector.specs.Vectors.{IsLastMember}
use Rattle.trace_explain.specs.Traces.{pair}
use Rattle.trace_explain.proofs.Smaller.{smaller}
use Rattle.trace_explain.proofs.contexts.without_last.Goals as goal

pub drop_last-requires-clause-member : goal.drop_last-requires-clause-member
drop_last-requires-clause-member c =
    (smaller c.last_may_be_taken_out.ensures c.args.book.now.ops c.known.ensures.valid (pair c.args.m.now c.args.context.now.set)
    c.known-2.ensures c.requires.added c.args.x.now c.requires.last).member

pub drop_last-requires-clause-last : goal.drop_last-requires-clause-last
drop_last-requires-clause-last c =
    let s = smaller c.last_may_be_taken_out.ensures c.args.book.now.ops c.known.ensures.valid (pair c.args.m.now c.args.context.now.set)
    c.known-2.ensures c.requires.added c.args.x.now c.requires.last in
    subst (λ (d : ContextData). IsLastMember d c.args.x.now) (sym (c.reserve.ensures.same ∙ c.in_ok-smaller.ensures)) s.last
