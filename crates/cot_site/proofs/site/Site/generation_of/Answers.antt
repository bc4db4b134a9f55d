use Rattle.std.proofs.Common.{◌∙◌, sym, ap, List}
use Rattle.op_name.specs.declared.member.Member.TheVariants.{Original}
use Rattle.context_diff.specs.Operations.{OpData}
use Rattle.context_diff.specs.Histories.{is_known}
use Rattle.cot_site.proofs.Findings.{known_found}
use Rattle.cot_site.proofs.site.Site.generation_of.Goals as goal

pub returns-in-Some : goal.returns-in-Some
returns-in-Some c = (
  c.generation.ensures.history c.args.self.now.history c.known.ensures.history c.vector.ensures,
  ap (λ (h : List OpData). is_known h (Original c.args.name)) (sym c.book.ensures)
      ∙ known_found c.book.result.now.ops c.args.name _ c.in-Some.ensures.there c.in-Some.ensures.named,
)
