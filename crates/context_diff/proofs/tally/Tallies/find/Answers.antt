use Rattle.std.proofs.Common.{rules}
use Rattle.std.proofs.lemmas.List.Sorted.{answers_always}
use Rattle.context_diff.proofs.Sites.{Searched, searched}
use Rattle.context_diff.proofs.tally.Tallies.find.Goals as goal

-- the closure gives the site of a tally, and the slice is the list of them
found : (c : goal.After-binary_search_by_key) → Searched c.args.self.now c.args.site c.binary_search_by_key.result
found c =
    let facts = c.binary_search_by_key.ensures in
    let by_key = facts.position (λ t. t.site) (answers_always _ _ _ (λ f a r g called. search rules)) in
    rw (← c.self.view_is, ← c.deref-in_default.ensures.value) (searched c.deref-in_default.result.now
    (rw c.deref-in_default.ensures.value c.self.invariant) c.args.site _ facts.bound by_key)

pub returns-in_default-clause-found : goal.returns-in_default-clause-found
returns-in_default-clause-found c = (found c).found

pub returns-in_default-clause-absent : goal.returns-in_default-clause-absent
returns-in_default-clause-absent c = (found c).absent
