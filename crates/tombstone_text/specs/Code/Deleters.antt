-- How the deletes that hit a cell are kept.
use Rattle.std.specs.Prelude.{◌≡◌, ℕ, Box, Vec, Option, Some, None, List, [], ◌∷◌, vec_capacity}
use Rattle.op_name.specs.NameData.{NameData}
use Rattle.tombstone_text.specs.declared.deleters.Kept.{Kept}
use Rattle.tombstone_text.specs.declared.deleters.Kept.TheVariants.{Nothing, One, More}

-- the entries of a cell's list
abbrev pub entries_in : Kept → List (NameData × ℕ)
entries_in Nothing = []
entries_in (One e) = e ∷ []
entries_in (More b) = b.value.items

-- the room of a list that waits to be used, 0 without one
abbrev pub room_in : {A B : Type 0} → Option (Box (Vec (NameData × ℕ) A) B) → ℕ
room_in None = 0
room_in (Some b) = vec_capacity b.value

-- what waits to be used is empty
abbrev pub IsEmptyIn : {A B : Type 0} → Option (Box (Vec (NameData × ℕ) A) B) → Type 0
IsEmptyIn None = Unit {0}
IsEmptyIn (Some b) = b.value.items ≡ []
