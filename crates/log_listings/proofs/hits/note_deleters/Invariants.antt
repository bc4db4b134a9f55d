use Rattle.std.proofs.Common.{take}
use Rattle.log_listings.proofs.Hitting.{AreNotedAlso}
use Rattle.log_listings.proofs.hits.note_deleters.Given as goal

-- the cell was noted under the first ones
abbrev pub invariant-loop-deleter : goal.invariant-loop-deleter
invariant-loop-deleter l = AreNotedAlso (take l.deleter-index l.deleters) l.id l.initial.noted.entries l.noted.entries
