-- Operations as the code has them: what contracts see of one, and the rules that it may break.
use Rattle.std.specs.Prelude.{Bool, false, ◌==◌, ◌&&◌}
use Rattle.op_name.specs.NameData.{name_eq}
use Rattle.context_vector.specs.Equality.{context_eq}
use Rattle.context_diff.specs.Operations.{OpData, inserting, deleting, undoing, context_of, IsInRange, KeepsOwn, KeepsTarget}
use Rattle.context_vector.specs.Contexts.{HasNoStray}
use Rattle.context_diff.specs.Letters.{letters_eq}
use Rattle.context_diff.specs.declared.op.Op.{Op}
use Rattle.context_diff.specs.declared.op.Op.TheVariants.{Insert, Delete, Undo}
use Rattle.context_diff.specs.declared.op.OpFault.{OpFault}
use Rattle.context_diff.specs.declared.op.OpFault.TheVariants.{Range, Own, Target, Stray}

-- the operation without the room that its context has
abbrev pub data_of : Op → OpData
data_of (Insert name place text context) = inserting name place text context.set
data_of (Delete name place context) = deleting name place context.set
data_of (Undo author target generation context) = undoing author target generation context.set

-- the operation keeps the rules before this one, and breaks it
abbrev pub IsFirstBroken : OpData → OpFault → Type 0
IsFirstBroken o Range = ¬ IsInRange o
IsFirstBroken o Own = IsInRange o × (¬ KeepsOwn o)
IsFirstBroken o Target = IsInRange o × KeepsOwn o × (¬ KeepsTarget o)
IsFirstBroken o Stray = IsInRange o × KeepsOwn o × KeepsTarget o × (¬ HasNoStray (context_of o))

-- the two are of one kind, and all their parts are equal, contexts as sets
abbrev pub op_eq : OpData → OpData → Bool
op_eq (inserting n p text c) (inserting m q other d) = name_eq n m && ((p == q) && (letters_eq text other && context_eq c d))
op_eq (inserting n p text c) (deleting m q d) = false
op_eq (inserting n p text c) (undoing a t g d) = false
op_eq (deleting n p c) (inserting m q other d) = false
op_eq (deleting n p c) (deleting m q d) = name_eq n m && ((p == q) && context_eq c d)
op_eq (deleting n p c) (undoing a t g d) = false
op_eq (undoing a t g c) (inserting m q other d) = false
op_eq (undoing a t g c) (deleting m q d) = false
op_eq (undoing a t g c) (undoing b u h d) = (a == b) && (name_eq t u && ((g == h) && context_eq c d))
