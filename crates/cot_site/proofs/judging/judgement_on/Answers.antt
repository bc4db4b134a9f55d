use Rattle.std.proofs.Common.{ap, sym, subst, ◌∙◌}
use Rattle.context_vector.specs.Contexts.{ContextData}
use Rattle.context_diff.specs.Operations.{context_of}
use Rattle.context_diff.specs.Histories.{cells_in}
use Rattle.context_diff.specs.Books.{IsJudged}
use Rattle.context_diff.specs.Ops.{data_of}
use Rattle.cot_site.proofs.Verdicts.{waiting_is, ready_is, judged_covered, judged_ready}
use Rattle.cot_site.proofs.judging.judgement_on.Goals as goal

pub returns-in-Some-clause-verdict : goal.returns-in-Some-clause-verdict
returns-in-Some-clause-verdict c =
    let h = c.args.book.now.ops in
    let o = data_of c.args.op.now in
    let known : IsJudged h (context_of o) c.in-Some.cells =
    subst (λ (v : ContextData). IsJudged h v c.in-Some.cells) c.context.ensures c.in-Some.ensures in
    c.ready_verdict.ensures h (sym (judged_covered h c.known.ensures.valid o c.requires c.in-Some.cells known)) known.cells
    ∙ sym (ready_is h c.args.pool.now o (sym c.is_repeat.ensures ∙ c.if-is_repeat.false) (sym c.is_forged.ensures ∙ c.if-is_forged.false)
    (judged_ready h c.known.ensures.valid o c.requires c.in-Some.cells known))

pub returns-in-Some-clause-cells : goal.returns-in-Some-clause-cells
returns-in-Some-clause-cells c _ _ = c.in-Some.ensures.cells ∙ ap (cells_in c.args.book.now.ops) c.context.ensures

pub returns-in-None-clause-verdict : goal.returns-in-None-clause-verdict
returns-in-None-clause-verdict c =
    c.unjudged.ensures.verdict
    ∙ sym (waiting_is c.args.book.now.ops c.args.pool.now (data_of c.args.op.now) (sym c.is_repeat.ensures ∙ c.if-is_repeat.false)
    (sym c.is_forged.ensures ∙ c.if-is_forged.false))
