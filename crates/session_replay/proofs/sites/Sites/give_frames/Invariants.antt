use Rattle.std.proofs.Common.{◌≡◌, ◌≤◌, length}
use Rattle.session_replay.specs.LineSteps.{raw_steps}
use Rattle.session_replay.proofs.Steps.{IsAlong}
use Rattle.session_replay.proofs.sites.Sites.give_frames.Given as goal

-- the frames of the rest are left
abbrev pub invariant-loop-rest : goal.invariant-loop-rest
invariant-loop-rest l = record {
  along : IsAlong (raw_steps l.version l.site l.bytes l.fn.self) l.fn.self l.fn.out.items (raw_steps l.version l.site l.rest l.self) l.self
      l.out.items;
  sites : length l.self.sites ≡ length l.fn.self.sites;
  shorter : length l.rest ≤ length l.bytes;
}

abbrev pub decreases-loop-rest : goal.decreases-loop-rest
decreases-loop-rest l = length l.rest
