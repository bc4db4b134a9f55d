use Rattle.std.proofs.Common.{◌≡◌, ◌≤◌, length}
use Rattle.session_replay.specs.LineSteps.{typed}
use Rattle.session_replay.specs.Code.Typing.{parts}
use Rattle.session_replay.proofs.Steps.{IsAlong}
use Rattle.session_replay.proofs.sites.Sites.type_text.Given as goal

-- the parts of the rest are left, at the place reached
abbrev pub invariant-loop-rest : goal.invariant-loop-rest
invariant-loop-rest l = record {
  along : IsAlong (typed l.at l.from (parts l.size l.text) l.fn.self) l.fn.self l.fn.out.items
      (typed l.at l.place (parts l.size l.rest) l.self) l.self l.out.items;
  sites : length l.self.sites ≡ length l.fn.self.sites;
  shorter : length l.rest ≤ length l.text;
}

abbrev pub decreases-loop-rest : goal.decreases-loop-rest
decreases-loop-rest l = length l.rest
