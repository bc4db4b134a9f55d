-- Marks: a value over a range of cells, made in a context; and what a collection of them keeps.
use Rattle.std.specs.Prelude.{◌≡◌, ℕ, ◌≤◌, Bool, true, List, [], ◌∷◌, ◌&&◌, ◌||◌, ◌==◌, nat_lt, length, Option, Some, None, if◌then◌else◌}
use Rattle.op_name.specs.NameData.{NameData, name_eq, name_lt}
use Rattle.context_vector.specs.Contexts.{ContextData, HasNoStray, entry_in, put_entry}
use Rattle.context_diff.specs.declared.op.TheConstants.{UNDO_ENTRIES}
use Rattle.context_diff.specs.Replays.{Cell}
use Rattle.ttf_form.specs.Families.{IsIn}
use Rattle.char_marks.specs.declared.value.Value.{Value}
use Rattle.char_marks.specs.declared.value.Value.TheVariants.{Bold, Italic, Colour}
use Rattle.char_marks.specs.declared.value.TheConstants.{COLOURS}

-- a mark: the cells from its place on, so many of them, among those that its context has get the value. The rank is greater than that
-- of each mark that its maker had
pub record MarkData : Type 0 where
  pub name : NameData
  pub rank : ℕ
  pub place : ℕ
  pub len : ℕ
  pub value : Value
  pub context : ContextData

-- a colour is at most COLOURS
abbrev pub IsInRange : Value → Type 0
IsInRange (Bold b) = Unit {0}
IsInRange (Italic b) = Unit {0}
IsInRange (Colour c) = c ≤ COLOURS

-- what a mark keeps by itself, whatever the history: rank and length from 1 on, a value in range, and a context that has the original of
-- each of its undo entries, and no more of these than an operation carries
pub record IsFormed (m : MarkData) : Type 0 where
  pub rank : 1 ≤ m.rank
  pub len : 1 ≤ m.len
  pub value : IsInRange m.value
  pub stray : HasNoStray m.context
  pub entries : length m.context.entries ≤ UNDO_ENTRIES

-- by rank, then by site and number: the last of the marks that cover a cell gives it its value
abbrev pub is_before : MarkData → MarkData → Bool
is_before m k = nat_lt m.rank k.rank || ((m.rank == k.rank) && name_lt m.name k.name)

-- ---- the mark state

-- a kept mark with the first and the last cell that it covers
pub record KeptData : Type 0 where
  pub mark : MarkData
  pub first : Cell
  pub last : Cell

-- the kept marks, by name, and for each name that was undone the greatest generation, by name
pub record MarksData : Type 0 where
  pub kept : List KeptData
  pub raised : List (NameData × ℕ)

-- no mark is kept, and none was undone
abbrev pub no_marks : MarksData
no_marks = record { kept = []; raised = [] }

-- the kept marks with one more, at its place by name
abbrev pub put_kept : KeptData → List KeptData → List KeptData
put_kept k [] = k ∷ []
put_kept k (x ∷ xs) = if name_lt x.mark.name k.mark.name then x ∷ put_kept k xs else k ∷ (x ∷ xs)

-- the kept mark of this name, if there is one
abbrev pub mark_named : List KeptData → NameData → Option MarkData
mark_named [] n = None
mark_named (k ∷ ks) n = if name_eq k.mark.name n then Some k.mark else mark_named ks n

-- names rise, so no two kept marks have one name
abbrev pub AreRising : List KeptData → Type 0
AreRising [] = Unit {0}
AreRising (k ∷ ks) = ((x : KeptData) → IsIn x ks → name_lt k.mark.name x.mark.name ≡ true) × AreRising ks

-- the generations with that of the name at least this one; a generation never falls
abbrev pub lifted : NameData → ℕ → List (NameData × ℕ) → List (NameData × ℕ)
lifted n g es = if nat_lt (entry_in es n) g then put_entry n g es else es

-- the same marks, with that generation lifted so
abbrev pub with_lifted : NameData → ℕ → MarksData → MarksData
with_lifted n g s = record { kept = s.kept; raised = lifted n g s.raised }
