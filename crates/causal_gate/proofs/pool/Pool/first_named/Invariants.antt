use Rattle.std.proofs.Common.{◌≡◌, ℕ, ◌<◌, false}
use Rattle.std.specs.Prelude.{Some, slice_get}
use Rattle.op_name.specs.declared.member.Member.TheVariants.{Original}
use Rattle.op_name.specs.Members.{member_eq}
use Rattle.context_diff.specs.Operations.{OpData, member_of}
use Rattle.causal_gate.proofs.pool.Pool.first_named.Given as goal

-- none so far has the name
abbrev pub invariant-loop-i : goal.invariant-loop-i
invariant-loop-i l = (j : ℕ) (o : OpData) → j < l.i → slice_get l.self j ≡ Some o → member_eq (member_of o) (Original l.name) ≡ false
