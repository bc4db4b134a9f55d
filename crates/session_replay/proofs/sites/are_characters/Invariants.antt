use Rattle.std.proofs.Common.{◌≡◌, true, take}
use Rattle.std.specs.Str.{all_scalars}
use Rattle.session_replay.proofs.sites.are_characters.Given as goal

-- those so far are characters
abbrev pub invariant-loop-ch : goal.invariant-loop-ch
invariant-loop-ch l = all_scalars (take l.ch-index l.text) ≡ true
