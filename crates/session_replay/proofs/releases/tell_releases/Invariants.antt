use Rattle.std.proofs.Common.{◌≡◌, ◌++◌, take}
use Rattle.session_replay.specs.Code.Doing.{free_lines}
use Rattle.session_replay.proofs.releases.tell_releases.Given as goal

-- the lines so far
abbrev pub invariant-loop-release : goal.invariant-loop-release
invariant-loop-release l = l.out.items ≡ l.fn.out.items ++ free_lines l.number (take l.release-index l.released)
