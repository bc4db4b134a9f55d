use Rattle.site_ranges.proofs.Appending.{IsUnderWay}
use Rattle.site_ranges.proofs.ChunkTexts.{rest_from}
use Rattle.site_ranges.proofs.chunks.push_from.Given as goal

abbrev pub invariant-loop-i : goal.invariant-loop-i
invariant-loop-i l =
    IsUnderWay l.fn.out.items (rest_from l.cells l.fn.first l.fn.skipped l.fn.count) l.out.items (rest_from l.cells l.i l.before l.left)
