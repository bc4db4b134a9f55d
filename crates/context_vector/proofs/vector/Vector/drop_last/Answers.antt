use Rattle.context_vector.proofs.Members.{has_lowered, size_least}
use Rattle.context_vector.proofs.vector.Vector.drop_last.Goals as goal

pub returns-clause-members : goal.returns-clause-members
returns-clause-members c y =
    let least = size_least c.args.m.now (rw c.target.ensures.target at c.target.ensures.range) c.requires.member in
    rw c.lower.ensures.lowered (has_lowered c.args.self.now.set c.args.m.now c.known.ensures c.requires.last least y)
