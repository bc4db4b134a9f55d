use Rattle.std.proofs.Common.{◌≡◌, ◌≤◌, ◌++◌, length, take}
use Rattle.context_vector.specs.Contexts.{has}
use Rattle.peer_exchange.specs.Joins.{unseen}
use Rattle.peer_exchange.specs.Messages.{lacked_frames}
use Rattle.peer_exchange.proofs.lacking.put_lacked.Given as goal

-- what is lacked of the first operations is appended and counted
abbrev pub invariant-loop-i : goal.invariant-loop-i
invariant-loop-i l = record {
  out : l.out.items ≡ l.fn.out.items ++ lacked_frames l.fn.state.set (take l.i l.fn.book.ops);
  count : l.count ≡ length (unseen (has l.fn.state.set) (take l.i l.fn.book.ops));
  few : l.count ≤ l.i;
}
