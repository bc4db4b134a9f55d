use Rattle.std.proofs.Common.{◌≤◌, arith}
use Rattle.site_ranges.proofs.Undoers.{last_known}
use Rattle.site_ranges.proofs.generations.last_undoer.Goals as goal

pub author_of-requires : goal.author_of-requires
author_of-requires c =
    let some : 1 ≤ c.generation.result = omega arith in
    last_known c.args.site.now.history c.book.result.now.ops c.vector.result.now.set c.args.name.now c.generation.result
    c.known.ensures.history c.book.ensures c.vector.ensures c.generation.ensures.entry some
