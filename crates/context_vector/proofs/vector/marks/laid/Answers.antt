use Rattle.std.proofs.Common.{sym}
use Rattle.context_vector.proofs.Marks.{laid_is}
use Rattle.context_vector.proofs.vector.marks.laid.Goals as goal

pub returns : goal.returns
returns c = rw (c.spread.ensures, c.folded.ensures, c.from.ensures, c.from-2.ensures) (sym (laid_is c.args.mark c.args.site c.args.count))
