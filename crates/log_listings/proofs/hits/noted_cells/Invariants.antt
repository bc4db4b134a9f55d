use Rattle.std.proofs.Common.{take}
use Rattle.log_listings.specs.Code.Hits.{AreNoted}
use Rattle.log_listings.proofs.hits.noted_cells.Given as goal

-- the first cells were noted
abbrev pub invariant-loop-i : goal.invariant-loop-i
invariant-loop-i l = AreNoted (take l.i l.cells.cells) l.noted.entries
