-- Offsets of the places of a text, seen as the list of its characters: what the characters in front of a place weigh.
use Rattle.std.specs.Prelude.{◌≡◌, ◌≢◌, ℕ, ◌<◌, nat_le, List, length, take, Option, Some, None, if◌then◌else◌}
use Rattle.tombstone_text.specs.declared.measure.Measure.{Measure}
use Rattle.tombstone_text.specs.Measures.{weight_of}

-- the offset of the place after v characters, where there are so many
abbrev pub offset_at : Measure → List ℕ → ℕ → Option ℕ
offset_at m cs v = if nat_le v (length cs) then Some (weight_of m (take v cs)) else None

-- the place has the offset, and none before it has
pub record IsFirstPlace (m : Measure) (cs : List ℕ) (offset : ℕ) (v : ℕ) : Type 0 where
  pub has : offset_at m cs v ≡ Some offset
  pub first : (u : ℕ) → u < v → offset_at m cs u ≢ Some offset

-- no place has the offset
abbrev pub HasNoPlace : Measure → List ℕ → ℕ → Type 0
HasNoPlace m cs offset = (v : ℕ) → offset_at m cs v ≢ Some offset
