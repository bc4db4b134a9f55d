use Rattle.wire_codec.specs.Reading.{character_at, any_after}
use Rattle.checkpoint_codec.proofs.Loops.{IsUnderWay}
use Rattle.checkpoint_codec.proofs.texts.characters.Given as goal

abbrev pub invariant-loop : goal.invariant-loop
invariant-loop l = IsUnderWay character_at any_after l.len tt l.fn.left l.counter l.chars.items tt l.left
