use Rattle.std.proofs.Common.{refl, sym, ◌∙◌, true≢false}
use Rattle.op_name.specs.declared.member.Member.TheVariants.{Original}
use Rattle.site_ranges.proofs.Undoers.{known_by}
use Rattle.site_ranges.proofs.generations.generation_of.Goals as goal

pub returns-then-contains-clause-none : goal.returns-then-contains-clause-none
returns-then-contains-clause-none c =
    let known =
    known_by c.args.site.now.history c.vector-have.result.now.set (Original c.args.name.now) c.known.ensures.history
    c.vector-have.ensures in (
      λ none. absurd (true≢false none),
      λ unknown. sym c.if-contains.true ∙ c.contains.ensures ∙ known ∙ unknown,
    )

pub returns-else-contains-clause-none : goal.returns-else-contains-clause-none
returns-else-contains-clause-none c =
    let known =
    known_by c.args.site.now.history c.vector-have.result.now.set (Original c.args.name.now) c.known.ensures.history
    c.vector-have.ensures in (
      λ none. sym known ∙ sym c.contains.ensures ∙ c.if-contains.false,
      λ unknown. refl,
    )
