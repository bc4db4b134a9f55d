use Rattle.std.proofs.Common.{drop}
use Rattle.context_vector.specs.Contexts.{has}
use Rattle.transform_rec.specs.Family.{size}
use Rattle.transform_rec.specs.Histories.{family_in}
use Rattle.transform_rec.specs.Code.Pending.{IsOnWay}
use Rattle.transform_rec.proofs.derivation.+transform.Given as goal

-- the number of members of the context
abbrev pub decreases-transform : goal.decreases-transform
decreases-transform g l = size (family_in l.book.now.ops (g.B.Bases.base_form l.bases.now)) (has l.to.now.set)

abbrev pub invariant-loop-x : goal.invariant-loop-x
invariant-loop-x g l =
    IsOnWay g.F.Include.over (family_in l.book.ops (g.B.Bases.base_form l.bases)) l.m (has l.to.set) (has l.context.set) l.form
    (drop l.x-index l.x-items)
