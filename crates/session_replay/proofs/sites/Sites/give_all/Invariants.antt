use Rattle.std.proofs.Common.{◌≡◌, length, drop}
use Rattle.session_replay.specs.Sessions.{given_all}
use Rattle.session_replay.proofs.Steps.{IsAlong}
use Rattle.session_replay.proofs.sites.Sites.give_all.Given as goal

-- the messages after those delivered are left
abbrev pub invariant-loop-message : goal.invariant-loop-message
invariant-loop-message l = record {
  along : IsAlong (given_all l.at l.fn.self.messages l.fn.self) l.fn.self l.fn.out.items
      (given_all l.at (drop l.message l.fn.self.messages) l.self) l.self l.out.items;
  sites : length l.self.sites ≡ length l.fn.self.sites;
  messages : l.self.messages ≡ l.fn.self.messages;
  end : l.message-end ≡ length l.fn.self.messages;
}
