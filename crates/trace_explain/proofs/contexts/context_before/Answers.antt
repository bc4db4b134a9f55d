use Rattle.std.proofs.Common.{sym, ap, subst, ◌∙◌, arith}
use Rattle.std.proofs.lemmas.Bool.{both_ways}
use Rattle.context_vector.specs.Contexts.{ContextData, IsNextMember, raised}
use Rattle.transform_rec.specs.Histories.{MayBeAddedTo}
use Rattle.transform_rec.proofs.CallerLemmas.{known_generation}
use Rattle.trace_explain.proofs.Executed.{before_added, known_at, past_all, up_to_all, up_to_first, up_to_found, up_to_more, up_to_next}
use Rattle.trace_explain.proofs.contexts.context_before.Goals as goal

pub loop-i-init : goal.loop-i-init
loop-i-init c = up_to_first c.args.book.now.ops c.args.m.now c.new-context.result.set c.new-context.ensures

pub returns-then-are_same-clause-value : goal.returns-then-are_same-clause-value
returns-then-are_same-clause-value c =
    up_to_found c.args.book.now.ops c.args.m.now c.member_at-x.result c.loop-i.i c.loop-i.context.set c.member_at-x.ensures
    (c.are_same.ensures.0 c.if-are_same.true) c.loop-i.invariant

pub returns-then-are_same-clause-added : goal.returns-then-are_same-clause-added
returns-then-are_same-clause-added c =
    subst (λ (d : ContextData). MayBeAddedTo c.args.book.now.ops d c.args.m.now)
    (sym (up_to_found c.args.book.now.ops c.args.m.now c.member_at-x.result c.loop-i.i c.loop-i.context.set c.member_at-x.ensures
    (c.are_same.ensures.0 c.if-are_same.true) c.loop-i.invariant))
    (before_added c.args.book.now.ops c.known.ensures.valid c.args.m.now c.requires)

pub add_reserved-requires-clause-member : goal.add_reserved-requires-clause-member
add_reserved-requires-clause-member c =
    known_generation c.args.book.now.ops c.known.ensures.valid c.member_at-x.result
    (known_at c.args.book.now.ops c.loop-i.i c.member_at-x.result c.member_at-x.ensures)

pub add_reserved-requires-clause-next : goal.add_reserved-requires-clause-next
add_reserved-requires-clause-next c =
    subst (λ (d : ContextData). IsNextMember d c.member_at-x.result) (sym c.reserve.ensures.same)
    (up_to_next c.args.book.now.ops c.known.ensures.valid c.args.m.now c.member_at-x.result c.loop-i.i c.loop-i.context.set
    c.member_at-x.ensures c.loop-i.invariant)

pub loop-i-preserved : goal.loop-i-preserved
loop-i-preserved c =
    up_to_more c.args.book.now.ops c.args.m.now c.member_at-x.result c.loop-i.i c.loop-i.context.set c.add_reserved.new.self.set
    c.member_at-x.ensures (λ e. both_ways c.are_same.result c.if-are_same.false (c.are_same.ensures.1 e))
    (c.add_reserved.ensures.added ∙ ap (λ (d : ContextData). raised d c.member_at-x.result) c.reserve.ensures.same) c.loop-i.invariant

pub returns-clause-value : goal.returns-clause-value
returns-clause-value c =
    up_to_all c.args.book.now.ops c.args.m.now c.loop-i.i c.loop-i.context.set (past_all c.args.book.now.ops c.loop-i.i (omega arith))
    c.loop-i.invariant

pub returns-clause-added : goal.returns-clause-added
returns-clause-added c =
    subst (λ (d : ContextData). MayBeAddedTo c.args.book.now.ops d c.args.m.now)
    (sym (up_to_all c.args.book.now.ops c.args.m.now c.loop-i.i c.loop-i.context.set
    (past_all c.args.book.now.ops c.loop-i.i (omega arith)) c.loop-i.invariant))
    (before_added c.args.book.now.ops c.known.ensures.valid c.args.m.now c.requires)
