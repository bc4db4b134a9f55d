-- Stretches of cells between two shown ones.
use Rattle.std.specs.Prelude.{◌≡◌, ℕ, ◌+◌, ◌-◌, ◌≤◌, List, Some, length, slice_get}
use Rattle.context_diff.specs.Operations.{OpData}
use Rattle.context_diff.specs.Replays.{shown}
use Rattle.cot_site.specs.Views.{shown_places_of}
use Rattle.char_marks.specs.declared.making.Span.{Span}

-- the cells from the v-th shown one to the one count - 1 further on
pub record IsSpan (h : List OpData) (v count : ℕ) (s : Span) : Type 0 where
  pub within : v + count ≤ length (shown h)
  pub first : slice_get (shown_places_of h) v ≡ Some s.place
  pub last : slice_get (shown_places_of h) (v + count - 1) ≡ Some (s.place + s.len - 1)
  pub some : 1 ≤ s.len
