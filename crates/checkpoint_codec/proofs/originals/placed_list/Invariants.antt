use Rattle.std.proofs.Common.{◌≡◌}
use Rattle.flat_history.specs.Checkpoints.{with_placed, with_all_placed}
use Rattle.checkpoint_codec.specs.Reading.{placed_at}
use Rattle.checkpoint_codec.proofs.Loops.{IsUnderWay}
use Rattle.checkpoint_codec.proofs.originals.placed_list.Given as goal

abbrev pub invariant-loop : goal.invariant-loop
invariant-loop l =
    IsUnderWay placed_at with_placed l.len l.fn.known.set l.fn.left l.counter l.list.items l.known.set l.left
    × (l.known.set ≡ with_all_placed l.fn.known.set l.list.items)
