-- Marks that a site makes itself: which one, or why none.
use Rattle.std.specs.Prelude.{◌≡◌, ℕ, ◌+◌, ◌-◌, ◌<◌, ◌≤◌, ◌==◌, max, List, [], ◌∷◌, Some, length, slice_get, if◌then◌else◌}
use Rattle.op_name.specs.NameData.{NameData}
use Rattle.op_name.specs.declared.name.TheConstants.{NUMBERS}
use Rattle.context_diff.specs.declared.op.TheConstants.{UNDO_ENTRIES}
use Rattle.context_diff.specs.Operations.{OpData}
use Rattle.context_diff.specs.Histories.{context_of_all}
use Rattle.context_diff.specs.Replays.{shown}
use Rattle.cot_site.specs.Views.{shown_places_of}
use Rattle.char_marks.specs.declared.value.Value.{Value}
use Rattle.char_marks.specs.declared.making.TheConstants.{RANKS}
use Rattle.char_marks.specs.declared.marks.MarkBad.{MarkBad}
use Rattle.char_marks.specs.declared.marks.MarkBad.TheVariants.{SpanOut, RankFull, NumberFull, ContextFull, Unknown, NotInForce, InForce, GenerationFull, Memory}
use Rattle.char_marks.specs.Marks.{MarkData, KeptData, IsFormed}

-- the greatest rank of the kept marks, 0 without any
abbrev pub greatest_rank : List KeptData → ℕ
greatest_rank [] = 0
greatest_rank (k ∷ ks) = max k.mark.rank (greatest_rank ks)

-- the number that the site gave, 0 for a name of another site
abbrev pub number_at : ℕ → NameData → ℕ
number_at s n = if n.site == s then n.number else 0

-- the greatest number of the site's kept marks, 0 without any
abbrev pub greatest_number : ℕ → List KeptData → ℕ
greatest_number s [] = 0
greatest_number s (k ∷ ks) = max (number_at s k.mark.name) (greatest_number s ks)

-- the mark from the v-th shown cell to the one count - 1 further on, with the hidden cells between them; it is named, ranked and made
-- after all that the site has
pub record IsMade (s : ℕ) (h : List OpData) (ks : List KeptData) (v count : ℕ) (value : Value) (m : MarkData) : Type 0 where
  pub within : v + count ≤ length (shown h)
  pub first : slice_get (shown_places_of h) v ≡ Some m.place
  pub last : slice_get (shown_places_of h) (v + count - 1) ≡ Some (m.place + m.len - 1)
  pub name : m.name ≡ record { site = s; number = greatest_number s ks + 1 }
  pub rank : m.rank ≡ greatest_rank ks + 1
  pub set : m.value ≡ value
  pub context : m.context ≡ context_of_all h
  pub formed : IsFormed m

-- each refusal with what it says: no cause before it holds
abbrev pub IsMakeRefusal : ℕ → List OpData → List KeptData → ℕ → ℕ → MarkBad → Type 0
IsMakeRefusal s h ks v count (SpanOut k) = (k ≡ length (shown h)) × (length (shown h) < v + count)
IsMakeRefusal s h ks v count RankFull = (v + count ≤ length (shown h)) × (RANKS ≤ greatest_rank ks)
IsMakeRefusal s h ks v count NumberFull =
    (v + count ≤ length (shown h)) × (greatest_rank ks < RANKS) × (NUMBERS ≤ greatest_number s ks)
IsMakeRefusal s h ks v count (ContextFull k) =
    (v + count ≤ length (shown h)) × (greatest_rank ks < RANKS) × (greatest_number s ks < NUMBERS)
    × (k ≡ length (context_of_all h).entries) × (UNDO_ENTRIES < k)
IsMakeRefusal s h ks v count (Unknown n) = ⊥
IsMakeRefusal s h ks v count (NotInForce g) = ⊥
IsMakeRefusal s h ks v count (InForce g) = ⊥
IsMakeRefusal s h ks v count GenerationFull = ⊥
IsMakeRefusal s h ks v count Memory =
    (v + count ≤ length (shown h)) × (greatest_rank ks < RANKS) × (greatest_number s ks < NUMBERS)
    × (length (context_of_all h).entries ≤ UNDO_ENTRIES)
