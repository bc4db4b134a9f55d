use Rattle.std.proofs.Common.{rules}
use Rattle.context_vector.specs.Contexts.{IsNextMember}
use Rattle.context_vector.proofs.Members.{has_raised}
use Rattle.context_vector.proofs.vector.Vector.add.Goals as goal

pub returns-clause-members : goal.returns-clause-members
returns-clause-members c y =
    let next : IsNextMember c.args.self.now.set c.args.m.now = search rules in
    rw (c.put.ensures.added, c.reserve.ensures.same) (has_raised c.args.self.now.set c.args.m.now next y)
