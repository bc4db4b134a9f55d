-- What is answered to a fault of the fields.
use Rattle.std.specs.Prelude.{ℕ}
use Rattle.wire_codec.specs.declared.cause.Cause.{Cause}
use Rattle.wire_codec.specs.declared.cause.Cause.TheVariants.{TooLong, Kind, Range, Char, Order, Zero, Length, Own, Target, Stray}
use Rattle.checkpoint_codec.specs.declared.refusal.CheckpointBad.{CheckpointBad}
use Rattle.checkpoint_codec.specs.declared.refusal.CheckpointBad.TheVariants as refusals

-- a field that the bytes end in is cut, and any other fault is told with its cause
abbrev pub refusal_at : Cause → ℕ → CheckpointBad
refusal_at Length at = refusals.Cut at
refusal_at TooLong at = refusals.Bad at TooLong
refusal_at Kind at = refusals.Bad at Kind
refusal_at Range at = refusals.Bad at Range
refusal_at Char at = refusals.Bad at Char
refusal_at Order at = refusals.Bad at Order
refusal_at Zero at = refusals.Bad at Zero
refusal_at Own at = refusals.Bad at Own
refusal_at Target at = refusals.Bad at Target
refusal_at Stray at = refusals.Bad at Stray
