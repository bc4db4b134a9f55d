use Rattle.std.proofs.Common.{set, ap, subst, ◌∙◌, arith}
use Rattle.std.specs.List.{insert}
use Rattle.context_vector.specs.Code.Places.{IsPlace, IsGap}
use Rattle.std.specs.Prelude.{nat_lt}
use Rattle.context_vector.proofs.Counts.{count_in_gap, put_in_gap, put_at_place}
use Rattle.context_vector.proofs.vector.counts.put_site.Goals as goal

-- the room was made for a site that is not there
pub unreachable-requires : goal.unreachable-requires
unreachable-requires c =
    let gap = subst (λ ps. IsGap nat_lt ps c.args.site c.in-Err.at) c.as_slice.ensures.value c.in-Err.ensures.absent in
    let room = c.requires.room (count_in_gap c.args.counts.now.items c.args.site c.in-Err.at gap) in
    omega (arith, c.in-Err-insert.ensures.full, room)

pub returns-in-Ok : goal.returns-in-Ok
returns-in-Ok c =
    let place = subst (λ ps. IsPlace ps c.args.site c.in-Ok.at) c.as_slice.ensures.value c.in-Ok.ensures.found in
    ap (λ p. set c.args.counts.now.items c.in-Ok.at p) c.new-count.ensures
    ∙ put_at_place c.args.counts.now.items c.args.site c.args.number c.in-Ok.at c.requires.rising place

pub returns-in-Ok-insert : goal.returns-in-Ok-insert
returns-in-Ok-insert c =
    let gap = subst (λ ps. IsGap nat_lt ps c.args.site c.in-Err.at) c.as_slice.ensures.value c.in-Err.ensures.absent in
    c.in-Ok-insert.ensures.items ∙ (ap (λ p. insert c.args.counts.now.items c.in-Err.at p) c.new-count.ensures
    ∙ put_in_gap c.args.counts.now.items c.args.site c.args.number c.in-Err.at gap)
