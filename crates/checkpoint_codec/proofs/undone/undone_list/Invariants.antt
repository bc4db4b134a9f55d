use Rattle.std.proofs.Common.{◌≤◌}
use Rattle.checkpoint_codec.specs.declared.undone.TheConstants.{GROUPS}
use Rattle.checkpoint_codec.specs.Reading.{undone_at, no_name, last_after}
use Rattle.checkpoint_codec.proofs.Loops.{IsUnderWay}
use Rattle.checkpoint_codec.proofs.undone.undone_list.Given as goal

abbrev pub invariant-loop : goal.invariant-loop
invariant-loop l =
    IsUnderWay (undone_at l.known.set) last_after l.len no_name l.fn.left l.counter l.list.items l.last l.left × (l.last.sum ≤ GROUPS)
