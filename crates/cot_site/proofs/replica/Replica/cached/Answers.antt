use Rattle.std.proofs.Common.{subst, IfSome}
use Rattle.cot_site.specs.Sites.{IsFormOf}
use Rattle.cot_site.specs.Code.Notes.{entries_of}
use Rattle.cot_site.specs.Code.Replicas.{ReplicaData}
use Rattle.cot_site.proofs.Cached.{cached_used, cached_found}
use Rattle.cot_site.proofs.replica.Replica.cached.Goals as goal

pub invariant_of-self : goal.invariant_of-self
invariant_of-self c =
    let h = c.self.inside.book.ops in (
      c.self.invariant.0,
      cached_used h (entries_of h c.self.inside.notes) (entries_of h c.get.new.self) c.args.key.now c.self.invariant.1
          c.get.ensures.entries,
      λ n there. c.self.invariant.2 n (c.get.ensures.among n there),
      c.self.invariant.3,
      c.self.invariant.4,
      c.self.invariant.5,
    )

pub returns-clause-derived : goal.returns-clause-derived
returns-clause-derived c =
    let h = c.self.inside.book.ops in
    subst (λ (r : ReplicaData). IfSome c.get.result (IsFormOf r.history c.args.key.now)) c.self.view_is
    (cached_found h (entries_of h c.self.inside.notes) c.args.key.now c.get.result c.self.invariant.1 c.get.ensures.form)
