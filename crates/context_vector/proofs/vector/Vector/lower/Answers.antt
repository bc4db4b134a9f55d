use Rattle.std.proofs.Common.{subst, arith}
use Rattle.op_name.specs.Members.{IsMember}
use Rattle.context_vector.proofs.Counts.{counts_lower}
use Rattle.context_vector.proofs.Entries.{entries_lower}
use Rattle.context_vector.proofs.vector.Vector.lower.Goals as goal

pub invariant_of-self : goal.invariant_of-self
invariant_of-self c = rw c.lower_original.ensures.lowered (record {
  counts = counts_lower _ _ _ c.known.ensures.0 c.known.ensures.1 c.known.ensures.2 c.self.invariant.counts;
  entries = c.self.invariant.entries;
})

pub invariant_of-self-in-Group : goal.invariant_of-self-in-Group
invariant_of-self-in-Group c =
    let least = subst IsMember c.in-Group.is c.requires.member in
    rw c.lower_group.ensures.lowered (record {
      counts = c.self.invariant.counts;
      entries = entries_lower c.in-Group.name c.in-Group.generation _ c.known-in-Group.ensures least (omega arith) c.self.invariant.entries;
    })
