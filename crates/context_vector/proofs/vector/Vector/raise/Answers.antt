use Rattle.std.proofs.Common.{sym, ◌∙◌}
use Rattle.context_vector.proofs.Members.{has_raised_up_to, size_least}
use Rattle.context_vector.proofs.vector.Vector.raise.Goals as goal

pub returns-clause-raised : goal.returns-clause-raised
returns-clause-raised c y =
    let least = size_least c.args.m.now (rw c.target.ensures.target at c.target.ensures.range) c.requires in
    rw (c.put.ensures.added, c.reserve.ensures.same)
    (has_raised_up_to c.args.self.now.set c.args.m.now (sym c.contains.ensures ∙ c.if-contains.false) least y)
