-- The words for the causes of bad bytes.
use Rattle.std.specs.Prelude.{ℕ, List, codes}
use Rattle.wire_codec.specs.declared.cause.Cause.{Cause}
use Rattle.wire_codec.specs.declared.cause.Cause.TheVariants.{TooLong, Kind, Range, Char, Order, Zero, Length, Own, Target, Stray}

abbrev pub cause_word : Cause → List ℕ
cause_word TooLong = codes "toolong"
cause_word Kind = codes "kind"
cause_word Range = codes "range"
cause_word Char = codes "char"
cause_word Order = codes "order"
cause_word Zero = codes "zero"
cause_word Length = codes "length"
cause_word Own = codes "own"
cause_word Target = codes "target"
cause_word Stray = codes "stray"
