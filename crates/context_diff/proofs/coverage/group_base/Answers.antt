use Rattle.std.proofs.Common.{◌≡◌, sym, subst}
use Rattle.op_name.specs.NameData.{NameData}
use Rattle.op_name.specs.declared.member.Member.{Member}
use Rattle.op_name.specs.declared.member.Member.TheVariants.{Group}
use Rattle.context_vector.specs.Contexts.{has}
use Rattle.context_diff.proofs.Complete.{complete}
use Rattle.context_diff.specs.Bases.{base_has}
use Rattle.context_diff.proofs.BaseSteps.{first_group, later_group, base_is}
use Rattle.context_vector.specs.Vectors.{VectorData}
use Rattle.context_diff.proofs.coverage.group_base.Goals as goal
use Rattle.context_diff.proofs.coverage.group_base.Goals.{then-generation-gt1+in_ok-raise-2, else-generation-gt1}

members : (c : goal.After-known-2) → (y : Member)
    → has c.if-generation-gt1.base.set y ≡ base_has c.args.book.now.ops (Group c.args.name.now c.args.generation) y
members c =
    let h = c.args.book.now.ops in
    let w = complete h c.known.ensures.valid in
    let t : NameData = c.args.name.now in
    elim c.if-generation-gt1.branch [
      | then-generation-gt1+in_ok-raise-2 v ↦
          subst (λ (b : VectorData). (y : Member) → has b.set y ≡ base_has h (Group t c.args.generation) y) (sym v.base-is)
          (later_group h w t c.args.generation c.requires v.if-generation-gt1.true c.in_ok-base.base.set c.raise.new.self.set
          v.raise-then-generation-gt1.new.self.set (c.in_ok-base.ensures) (c.in_ok-raise.ensures).raised
          (v.in_ok-raise-2.ensures).raised)
      | else-generation-gt1 v ↦
          subst (λ (b : VectorData). (y : Member) → has b.set y ≡ base_has h (Group t c.args.generation) y) (sym v.base-is)
          (first_group h w t c.args.generation c.requires v.if-generation-gt1.false c.in_ok-base.base.set c.raise.new.self.set
          c.raise.new.self.set (c.in_ok-base.ensures) (c.in_ok-raise.ensures).raised)
    ]

pub returns-clause-members : goal.returns-clause-members
returns-clause-members c = members c

pub returns-clause-value : goal.returns-clause-value
returns-clause-value c =
    let h = c.args.book.now.ops in
    base_is h (complete h c.known.ensures.valid) (Group c.args.name.now c.args.generation) c.requires c.if-generation-gt1.base.set
    c.known-2.ensures (members c)
