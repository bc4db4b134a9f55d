use Rattle.std.proofs.Common.{◌≡◌, sym, ap, subst, ◌∙◌, rules}
use Rattle.std.specs.Prelude.{◌||◌}
use Rattle.op_name.specs.declared.member.Member.{Member}
use Rattle.op_name.specs.declared.member.Member.TheVariants.{Group}
use Rattle.context_vector.specs.Contexts.{has, AreEntries}
use Rattle.context_vector.specs.Vectors.{up_to}
use Rattle.context_vector.specs.Code.Lists.{of_entries}
use Rattle.context_vector.proofs.Undone.{entries_rest}
use Rattle.context_vector.proofs.Unions.{names_step, union_step}
use Rattle.context_vector.proofs.vector.Vector.raise_names.Goals as goal

pub loop-name-preserved : goal.loop-name-preserved
loop-name-preserved c =
    let are = c.loop-name.invariant.0 in
    let last = Group c.in-Some.name c.in-Some.generation in
    let rest = sym c.in-Some.ensures.rest in
    let first = λ (y : Member). names_step c.loop-name.left are (c.in-Some.name, c.in-Some.generation) (sym c.in-Some.ensures'.first) y in
    let split = λ (y : Member). first y ∙ ap (λ es. up_to y last || has (of_entries es) y) rest in
    let added : (y : Member) → has c.raise.new.self.set y ≡ (has c.loop-name.self.set y || up_to y last) = search rules in (
      subst AreEntries rest (entries_rest 1 c.loop-name.left are),
      λ y. union_step _ _ _ _ _ _ (added y) (split y) (c.loop-name.invariant.1 y),
    )
