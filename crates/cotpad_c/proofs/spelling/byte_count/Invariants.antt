use Rattle.std.proofs.Common.{◌≡◌, ◌*◌, ◌≤◌, length, take, encode_utf8_all}
use Rattle.cotpad_c.proofs.spelling.byte_count.Given as goal

-- the bytes of the characters that were gone over
abbrev pub invariant-loop-ch : goal.invariant-loop-ch
invariant-loop-ch l = (l.count ≡ length (encode_utf8_all (take l.ch-index l.chars))) × (l.count ≤ 4 * l.ch-index)
