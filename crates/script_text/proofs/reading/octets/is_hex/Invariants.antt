use Rattle.std.proofs.Common.{◌≡◌, drop}
use Rattle.script_text.proofs.HexLaws.{all_digits}
use Rattle.script_text.proofs.reading.octets.is_hex.Given as goal

-- the bytes are all digits if those that are left are
abbrev pub invariant-loop-digit : goal.invariant-loop-digit
invariant-loop-digit l = all_digits (drop l.digit-index l.digits) ≡ all_digits l.digits
