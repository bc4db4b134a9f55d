use Rattle.std.specs.Prelude.{map}
use Rattle.context_diff.specs.Ops.{data_of}
use Rattle.context_diff.specs.Code.Tallies.{counts_of, places_of}
use Rattle.context_diff.proofs.Kept.{book_still}
use Rattle.context_diff.proofs.book.Book.reserve.Goals as goal

pub invariant_of-self-2 : goal.invariant_of-self-2
invariant_of-self-2 c =
    let b = c.self.inside in
    let still = book_still (map data_of b.ops.items) b.have.set b.have.room.own c.reserve-3.new.self.room.own b.cells
    (counts_of b.tallies) (places_of b.tallies) b.groups.entries b.last b.earlier c.self.invariant c.reserve-3.ensures.stays in
    rw (
      c.reserve_one.ensures.items,
      c.reserve-3.ensures.same,
      c.reserve-2.ensures.counts,
      c.reserve-2.ensures.places,
      c.reserve.ensures.entries,
    ) still
