use Rattle.std.proofs.Common.{◌≡◌, ◌++◌, length, take, drop, encode_utf8_all}
use Rattle.cotpad_c.proofs.spelling.spell.Given as goal

-- the characters that were gone over stand in front of what was there
abbrev pub invariant-loop-ch : goal.invariant-loop-ch
invariant-loop-ch l =
    (l.at ≡ length (encode_utf8_all (take l.ch-index l.chars)))
    × (l.out ≡ encode_utf8_all (take l.ch-index l.chars) ++ drop l.at l.fn.out)
