use Rattle.std.proofs.Common.{set, ap, subst, ◌∙◌, arith}
use Rattle.context_vector.specs.Code.Places.{IsPlace, IsGap}
use Rattle.std.specs.Prelude.{nat_lt}
use Rattle.context_vector.proofs.Counts.{count_in_gap, lower_at_place, remove_at_place}
use Rattle.context_vector.proofs.vector.counts.lower_site.Goals as goal

-- a site with a count has its pair
pub unreachable-requires : goal.unreachable-requires
unreachable-requires c =
    let gap = subst (λ ps. IsGap nat_lt ps c.args.site c.in-Err.field-0) c.as_slice.ensures.value c.in-Err.ensures.absent in
    omega (arith, c.requires.least, c.requires.last, count_in_gap c.args.counts.now.items c.args.site c.in-Err.field-0 gap)

pub returns-in-Ok : goal.returns-in-Ok
returns-in-Ok c =
    let place = subst (λ ps. IsPlace ps c.args.site c.in-Ok.at) c.as_slice.ensures.value c.in-Ok.ensures.found in
    c.remove.ensures.items ∙ remove_at_place c.args.counts.now.items c.args.site c.args.number c.in-Ok.at c.requires.rising place
    c.if-number-eq1.true

pub returns-in-Ok-2 : goal.returns-in-Ok-2
returns-in-Ok-2 c =
    let place = subst (λ ps. IsPlace ps c.args.site c.in-Ok.at) c.as_slice.ensures.value c.in-Ok.ensures.found in
    ap (λ p. set c.args.counts.now.items c.in-Ok.at p) c.new.ensures
    ∙ lower_at_place c.args.counts.now.items c.args.site c.args.number c.in-Ok.at c.requires.rising place c.if-number-eq1.false
