use Rattle.std.proofs.Common.{◌≡◌, ◌-◌, length}
use Rattle.session_replay.specs.Sessions.{synced}
use Rattle.session_replay.proofs.Steps.{IsAlong}
use Rattle.session_replay.proofs.sites.Sites.sync.Given as goal

-- the sites after those that have all messages are left
abbrev pub invariant-loop-at : goal.invariant-loop-at
invariant-loop-at l = record {
  along : IsAlong (synced 0 (length l.fn.self.sites) l.fn.self) l.fn.self l.fn.out.items
      (synced l.at (length l.fn.self.sites - l.at) l.self) l.self l.out.items;
  sites : length l.self.sites ≡ length l.fn.self.sites;
  messages : l.self.messages ≡ l.fn.self.messages;
  end : l.at-end ≡ length l.fn.self.sites;
}
