use Rattle.std.proofs.Common.{subst, arith}
use Rattle.op_name.specs.Members.{IsMember}
use Rattle.context_vector.proofs.Counts.{counts_put}
use Rattle.context_vector.proofs.Entries.{entries_put}
use Rattle.context_vector.proofs.vector.Vector.put.Goals as goal

pub invariant_of-self : goal.invariant_of-self
invariant_of-self c = rw c.put_original.ensures.added (record {
  counts = counts_put 0 _ _ _ (omega arith) c.known.ensures.0 c.known.ensures.1 c.known.ensures.2 c.self.invariant.counts;
  entries = c.self.invariant.entries;
})

pub invariant_of-self-in-Group : goal.invariant_of-self-in-Group
invariant_of-self-in-Group c =
    let least = subst IsMember c.in-Group.is c.requires.member in
    rw c.put_group.ensures.added (record {
      counts = c.self.invariant.counts;
      entries = entries_put c.in-Group.name c.in-Group.generation _ c.known-in-Group.ensures least (omega arith) c.self.invariant.entries;
    })
