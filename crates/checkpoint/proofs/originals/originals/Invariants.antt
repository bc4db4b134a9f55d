use Rattle.std.proofs.Common.{◌≡◌, take}
use Rattle.flat_history.specs.Flat.{placed_in}
use Rattle.checkpoint.proofs.originals.originals.Given as goal

abbrev pub invariant-loop-i : goal.invariant-loop-i
invariant-loop-i l = l.list.items ≡ placed_in (take l.i l.site.history) (take l.i l.site.forms)
