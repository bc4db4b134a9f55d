use Rattle.std.proofs.Common.{◌≡◌}
use Rattle.wire_codec.specs.Reading.{character_at, any_after}
use Rattle.wire_codec.specs.Code.Elements.{character_len, raw_character}
use Rattle.wire_codec.proofs.Elements.{IsUnderWay}
use Rattle.wire_codec.proofs.texts.characters_of.Given as goal

abbrev pub invariant-loop : goal.invariant-loop
invariant-loop l =
    IsUnderWay character_at any_after raw_character character_len l.len tt l.fn.left l.counter tt l.left × (l.bytes ≡ l.fn.left.bytes)
