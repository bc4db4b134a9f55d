-- The index of waiting operations by name.
use Rattle.std.specs.Prelude.{◌≡◌, ℕ, Box, List}
use Rattle.std.specs.Option.{is_some}
use Rattle.std.specs.Map.{lookup}
use Rattle.op_name.specs.declared.member.Member.TheVariants.{Original}
use Rattle.op_name.specs.NameData.{NameData, name_eq}
use Rattle.context_diff.specs.Operations.{OpData}
use Rattle.context_diff.specs.Histories.{is_known}
use Rattle.context_diff.specs.Ops.{data_of}
use Rattle.context_diff.specs.declared.op.Op.{Op}

-- the operation of a box
abbrev pub op_in : {A : Type 0} → Box Op A → OpData
op_in b = data_of b.value

-- the index has the names of the inserts and deletes of the list, and no others
abbrev pub AreNamed : List (NameData × ℕ) → List OpData → Type 0
AreNamed es os = (n : NameData) → is_some (lookup (name_eq n) es) ≡ is_known os (Original n)
