use Rattle.std.proofs.Common.{◌≡◌, ℕ, ◌<◌, true, drop, length}
use Rattle.std.specs.Prelude.{Some, slice_get}
use Rattle.op_name.specs.NameData.{NameData}
use Rattle.op_name.specs.declared.member.Member.TheVariants.{Original}
use Rattle.context_vector.specs.Contexts.{has}
use Rattle.context_diff.proofs.op.has_no_stray.Given as goal

-- the originals of the entries so far are there
abbrev pub invariant-loop-undone : goal.invariant-loop-undone
invariant-loop-undone l =
    (i : ℕ) × (l.left ≡ drop i l.context.set.entries)
    × ((j : ℕ) (e : NameData × ℕ) → j < i → slice_get l.context.set.entries j ≡ Some e → has l.context.set (Original e.0) ≡ true)

abbrev pub decreases-loop-undone : goal.decreases-loop-undone
decreases-loop-undone l = length l.left
