-- Why a member was not added.
use Rattle.std.specs.Prelude.{◌≡◌}
use Rattle.op_name.specs.declared.member.Member.{Member}
use Rattle.context_vector.specs.Contexts.{ContextData, IsNextMember}
use Rattle.context_vector.specs.Vectors.{next_of}
use Rattle.context_vector.specs.declared.vector.AddBad.{AddBad}
use Rattle.context_vector.specs.declared.vector.AddBad.TheVariants.{NotNext, Memory}

-- the member is not the next one, and the answer names the next; or it is, and there was no memory for it
abbrev pub IsCause : ContextData → Member → AddBad → Type 0
IsCause c m (NotNext expected) = (¬ IsNextMember c m) × (expected ≡ next_of c m)
IsCause c m Memory = IsNextMember c m
