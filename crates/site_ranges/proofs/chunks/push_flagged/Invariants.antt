use Rattle.site_ranges.proofs.Appending.{IsUnderWay}
use Rattle.site_ranges.proofs.ChunkTexts.{rest_of}
use Rattle.site_ranges.proofs.chunks.push_flagged.Given as goal

abbrev pub invariant-loop-at : goal.invariant-loop-at
invariant-loop-at l =
    IsUnderWay l.fn.out.items (rest_of l.flags l.text 0 l.fn.skipped l.fn.count) l.out.items (rest_of l.flags l.text l.at l.before l.left)
