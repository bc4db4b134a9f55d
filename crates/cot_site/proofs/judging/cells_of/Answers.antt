use Rattle.cot_site.proofs.judging.cells_of.Goals as goal
use Rattle.context_diff.proofs.CallerLemmas.{ready_covered}

pub cells_in-requires : goal.cells_in-requires
cells_in-requires c =
    ready_covered c.args.book.now.ops c.args.book.now.have.set c.args.v.now.set c.known.ensures.valid c.known.ensures.have c.requires
