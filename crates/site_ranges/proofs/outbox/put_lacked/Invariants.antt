use Rattle.std.proofs.Common.{drop}
use Rattle.site_ranges.specs.Frames.{frames_of, lacked_by}
use Rattle.site_ranges.proofs.Appending.{IsUnderWay}
use Rattle.site_ranges.proofs.outbox.put_lacked.Given as goal

abbrev pub invariant-loop-member : goal.invariant-loop-member
invariant-loop-member l =
    let lacked = lacked_by l.fn.have.set l.fn.book.ops in
    IsUnderWay l.fn.out.items (frames_of lacked) l.out.items (frames_of (drop l.member-index lacked))
