-- The law of offsets.
use Rattle.std.specs.Prelude.{◌≡◌, ◌≢◌, ◌↔◌, ℕ, List, Some}
use Rattle.tombstone_text.specs.declared.measure.Measure.{Measure}
use Rattle.tombstone_text.specs.declared.measure.Measure.TheVariants.{Lines}
use Rattle.text_positions.specs.Offsets.{offset_at, IsFirstPlace}

-- in bytes and in units a place is found by its offset exactly if it has that offset, so no two places have the same
abbrev pub OnePlace : Type 0
OnePlace = (m : Measure) (cs : List ℕ) (v offset : ℕ) → m ≢ Lines → IsFirstPlace m cs offset v ↔ (offset_at m cs v ≡ Some offset)
