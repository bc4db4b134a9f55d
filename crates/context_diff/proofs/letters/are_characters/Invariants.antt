use Rattle.std.proofs.Common.{◌≡◌, true, take}
use Rattle.std.specs.Str.{all_scalars}
use Rattle.context_diff.proofs.letters.are_characters.Given as goal

-- those so far are characters
abbrev pub invariant-loop-ch : goal.invariant-loop-ch
invariant-loop-ch l = all_scalars (take l.ch-index l.chars) ≡ true
