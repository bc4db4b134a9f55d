use Rattle.std.proofs.Common.{◌≡◌, map}
use Rattle.cot_site.specs.Sites.{state_of}
use Rattle.session_replay.specs.Sessions.{new_sites}
use Rattle.session_replay.proofs.sites.new_sites.Given as goal

-- the sites of the numbers so far
abbrev pub invariant-loop-number : goal.invariant-loop-number
invariant-loop-number l = map state_of l.sites.items ≡ new_sites 0 l.number
