use Rattle.std.proofs.Common.{drop}
use Rattle.site_ranges.specs.Frames.{frames_of}
use Rattle.site_ranges.proofs.Appending.{IsUnderWay}
use Rattle.site_ranges.proofs.outbox.put_from.Given as goal

abbrev pub invariant-loop-i : goal.invariant-loop-i
invariant-loop-i l =
    IsUnderWay l.fn.out.items (frames_of (drop l.fn.from l.fn.book.ops)) l.out.items (frames_of (drop l.i l.fn.book.ops))
