use Rattle.std.proofs.Common.{◌++◌, ◌∷◌, [], subst, sym, arith}
use Rattle.context_vector.specs.Contexts.{AreCounts, IsContext}
use Rattle.context_vector.specs.Vectors.{VectorData, SitesBelow}
use Rattle.context_vector.specs.Code.Sharing.{data_of}
use Rattle.context_vector.proofs.Counts.{counts_push}
use Rattle.context_vector.proofs.Results.{changed_or_kept}
use Rattle.context_vector.proofs.vector.Vector.push_count.Goals as goal

pub invariant_of-self : goal.invariant_of-self
invariant_of-self c =
    let set = (data_of c.self.inside.lists).set in
    let below = subst (λ (v : VectorData). SitesBelow v.set.counts c.args.site) (sym c.self.view_is) c.requires.last in
    let range = c.requires in
    let are = c.self.invariant in
    let more = counts_push 0 c.args.site c.args.count set.counts (omega arith) range.site range.least range.greatest below are.counts in
    let counts = subst (λ p. AreCounts 0 (set.counts ++ p ∷ [])) (sym c.new.ensures) more in
    let new = (data_of c.push_count.new.self).set in
    let pushed = record set { counts = set.counts ++ c.new.result ∷ [] } in
    changed_or_kept IsContext c.push_count.result set new pushed c.push_count.ensures.pushed c.push_count.ensures.kept
    (record { counts = counts; entries = are.entries }) are
