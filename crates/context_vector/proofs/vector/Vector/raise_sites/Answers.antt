use Rattle.std.proofs.Common.{sym, ap, subst, ◌∙◌}
use Rattle.std.specs.Prelude.{◌||◌}
use Rattle.op_name.specs.declared.member.Member.{Member}
use Rattle.context_vector.specs.Contexts.{has, AreCounts}
use Rattle.context_vector.specs.Vectors.{up_to}
use Rattle.context_vector.specs.Code.Lists.{of_counts}
use Rattle.context_vector.proofs.Counting.{counts_drop}
use Rattle.context_vector.proofs.Sets.{original}
use Rattle.context_vector.proofs.Unions.{sites_step, union_step}
use Rattle.context_vector.proofs.vector.Vector.raise_sites.Goals as goal

pub loop-site-preserved : goal.loop-site-preserved
loop-site-preserved c =
    let are = c.loop-site.invariant.0 in
    let rest = sym c.in-Some.ensures.rest in
    let first = λ (y : Member). sites_step 0 c.loop-site.left are (c.in-Some.site, c.in-Some.number) (sym c.in-Some.ensures.first) y in
    let split = λ (y : Member). first y ∙ ap (λ ps. up_to y (original c.in-Some.site c.in-Some.number) || has (of_counts ps) y) rest in (
      subst (AreCounts 0) rest (counts_drop 0 1 c.loop-site.left are),
      λ y. union_step _ _ _ _ _ _ (c.in_ok-raise.ensures.raised y) (split y) (c.loop-site.invariant.1 y),
    )
