use Rattle.std.proofs.Common.{◌≡◌, ◌+◌}
use Rattle.context_vector.specs.Contexts.{has}
use Rattle.transform_rec.specs.Histories.{family_in}
use Rattle.transform_rec.specs.Code.Pending.{IsPending, IsChain, first}
use Rattle.transform_rec.specs.Entries.{AreForms}
use Rattle.transform_rec.proofs.Chains.{work, list_work}
use Rattle.transform_rec.proofs.work_list.transform_with.Given as goal

abbrev pub invariant-loop-x : goal.invariant-loop-x
invariant-loop-x g l = record {
  chain : IsChain g.F.Include.over (family_in l.book.ops (g.B.Bases.base_form l.bases))
      (λ S. IsPending g.F.Include.over (family_in l.book.ops (g.B.Bases.base_form l.bases)) S l.current) (has l.to.set) l.stack.items
      l.current.at.member;
  root : first g.F.Include.over (family_in l.book.ops (g.B.Bases.base_form l.bases)) l.stack.items l.current.at.member ≡ l.m;
  known : AreForms g.F.Include.over (family_in l.book.ops (g.B.Bases.base_form l.bases)) l.cache.entries;
  capacity : l.cache.capacity ≡ l.fn.cache.capacity;
}

-- the greatest work that is left to the pairs
abbrev pub decreases-loop-x : goal.decreases-loop-x
decreases-loop-x g l =
    list_work (family_in l.book.ops (g.B.Bases.base_form l.bases)) l.stack.items + work (family_in l.book.ops (g.B.Bases.base_form l.bases))
    l.current
