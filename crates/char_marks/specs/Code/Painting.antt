-- The last mark of a kind for each cell.
use Rattle.std.specs.Prelude.{◌≡◌, ℕ, ◌<◌, option_map, List, Option, Some, None, fold, length, slice_get, slice_index_or}
use Rattle.op_name.specs.NameData.{NameData}
use Rattle.context_diff.specs.Operations.{OpData}
use Rattle.context_diff.specs.Replays.{Cell, replay_of}
use Rattle.char_marks.specs.declared.value.Kind.{Kind}
use Rattle.char_marks.specs.declared.reading.Top.{Top}
use Rattle.char_marks.specs.declared.value.Values.{Values}
use Rattle.char_marks.specs.Marks.{KeptData}
use Rattle.char_marks.specs.Values.{is_bold, is_italic, colour_in}
use Rattle.char_marks.specs.Code.Tops.{top_with}
use Rattle.char_marks.specs.Covered.{covers_cell}
use Rattle.context_vector.specs.Contexts.{has}
use Rattle.op_name.specs.declared.member.Member.TheVariants.{Original}

-- each is the last one of these marks that gives its cell a value
pub record ArePainted (kind : Kind) (h : List OpData) (raised : List (NameData × ℕ)) (ks : List KeptData)
    (ts : List (Option Top)) : Type 0 where
  pub long : length ts ≡ length (replay_of h)
  pub each : (j : ℕ) (c : Cell) → slice_get (replay_of h) j ≡ Some c → slice_index_or ts j None ≡ fold (top_with kind h raised c) None ks

-- a mark counts for each cell that it gives a value
pub record IsPainted (kind : Kind) (h : List OpData) (raised : List (NameData × ℕ)) (k : KeptData)
    (old new : List (Option Top)) : Type 0 where
  pub long : length new ≡ length old
  pub each : (j : ℕ) (c : Cell) → slice_get (replay_of h) j ≡ Some c
      → slice_index_or new j None ≡ top_with kind h raised c (slice_index_or old j None) k

-- the mark covers the cell exactly if its context has the cell's insert, as where the cell stands between its end cells
abbrev pub Knows : List OpData → KeptData → Cell → Type 0
Knows h k c = covers_cell h k.mark c ≡ has k.mark.context (Original c.0)

-- so many, and none of them is one
pub record AreNone (n : ℕ) (ts : List (Option Top)) : Type 0 where
  pub long : length ts ≡ n
  pub each : (j : ℕ) → slice_index_or ts j None ≡ None

-- the values that the last marks of the kinds give
abbrev pub told : Option Top → Option Top → Option Top → Values
told weight slope hue = record {
  bold = is_bold (option_map (λ t. t.value) weight);
  italic = is_italic (option_map (λ t. t.value) slope);
  colour = colour_in (option_map (λ t. t.value) hue);
}

-- so they are for the first n cells
pub record AreTold (ws ss hs : List (Option Top)) (n : ℕ) (vs : List Values) : Type 0 where
  pub long : length vs ≡ n
  pub each : (j : ℕ) (d : Values) → j < n
      → slice_index_or vs j d ≡ told (slice_index_or ws j None) (slice_index_or ss j None) (slice_index_or hs j None)
