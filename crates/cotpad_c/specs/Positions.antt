-- In what a host counts offsets.
use Rattle.std.specs.Prelude.{ℕ, ◌==◌, Option, Some, None, if◌then◌else◌}
use Rattle.tombstone_text.specs.declared.measure.Measure.{Measure}
use Rattle.tombstone_text.specs.declared.measure.Measure.TheVariants.{Bytes, Units}
use Rattle.cotpad_c.specs.declared.kinds.TheConstants.{BYTES, UNITS}

-- the measure that a host gives, if it is one
abbrev pub measure_given : ℕ → Option Measure
measure_given n = if n == BYTES then Some Bytes else if n == UNITS then Some Units else None
