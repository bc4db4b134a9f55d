use Rattle.std.proofs.Common.{◌≡◌, ◌++◌, drop}
use Rattle.std.specs.Prelude.{string_bytes, encode_utf8_all}
use Rattle.fixed_replay.proofs.plain.encoded.Given as goal

-- the bytes so far, and those of the characters that are left
abbrev pub invariant-loop-ch : goal.invariant-loop-ch
invariant-loop-ch l = string_bytes l.text ++ encode_utf8_all (drop l.ch-index l.characters) ≡ encode_utf8_all l.characters
