-- Derived forms in a family, by a short name.
use Rattle.std.proofs.Common.{Bool}
use Rattle.op_name.specs.declared.member.Member.{Member}
use Rattle.transform_rec.specs.Derived.{Derived, Deriving}

-- f is a derived form of m at C
abbrev pub IsForm : {F : Type 0} → Deriving F → Member → (Member → Bool) → F → Type 0
IsForm {F} d m C f = Derived d.inclusion.over d.family m C f
