-- The checkpoints that have a spelling. Whether the place of an original is among the cells before it is judged elsewhere.
use Rattle.std.specs.Prelude.{◌≡◌, ℕ, ◌+◌, ◌<◌, ◌≤◌, ◌^◌, true, List, [], ◌∷◌, length}
use Rattle.op_name.specs.NameData.{NameData, IsName}
use Rattle.op_name.specs.declared.member.Member.TheVariants.{Original}
use Rattle.context_vector.specs.Contexts.{ContextData, AreEntries, count_of, empty, has}
use Rattle.context_diff.specs.Operations.{IsLetters}
use Rattle.context_diff.specs.declared.op.TheConstants.{PLACES, UNDO_ENTRIES}
use Rattle.ttf_form.specs.Families.{IsIn}
use Rattle.flat_history.specs.Checkpoints.{Placed, inserted, deleted, Checkpoint, with_placed, with_all_placed}
use Rattle.wire_codec.specs.Reading.{Follow}
use Rattle.checkpoint_codec.specs.declared.undone.TheConstants.{GROUPS}

-- the original is in its ranges, and the next one of its site after those of the context
abbrev pub IsNextOriginal : ContextData → Placed → Type 0
IsNextOriginal c (inserted n p text) =
    IsName n.site n.number × (count_of c n.site + 1 ≡ n.number) × (p ≤ PLACES) × IsLetters text
IsNextOriginal c (deleted n p) = IsName n.site n.number × (count_of c n.site + 1 ≡ n.number) × (p ≤ PLACES)

-- so is each, after those before it
abbrev pub AreOriginals : ContextData → List Placed → Type 0
AreOriginals = Follow IsNextOriginal with_placed

-- the generations added up
abbrev pub sum_of : List (NameData × ℕ) → ℕ
sum_of [] = 0
sum_of (e ∷ es) = e.1 + sum_of es

-- few originals, each the next of its site; few undone names, rising, each one of the originals, whose generations add up to few
pub record IsSpelled (p : Checkpoint) : Type 0 where
  pub few : length p.originals < 2 ^ 32
  pub originals : AreOriginals empty p.originals
  pub names : length p.undone ≤ UNDO_ENTRIES
  pub undone : AreEntries p.undone
  pub known : (e : NameData × ℕ) → IsIn e p.undone → has (with_all_placed empty p.originals) (Original e.0) ≡ true
  pub groups : sum_of p.undone ≤ GROUPS
