use Rattle.wire_codec.specs.Spelling.{character_bytes}
use Rattle.wire_codec.specs.Code.Elements.{character_len}
use Rattle.wire_codec.proofs.Pushes.{IsPutUpTo}
use Rattle.wire_codec.proofs.writing.put_each_character.Given as goal

abbrev pub invariant-loop-ch : goal.invariant-loop-ch
invariant-loop-ch l = IsPutUpTo character_bytes character_len l.chars l.initial.out l.ch-index l.out
