use Rattle.std.proofs.Common.{◌∙◌, sym, subst}
use Rattle.context_diff.specs.Operations.{OpData}
use Rattle.context_diff.specs.Histories.{IsNext}
use Rattle.context_diff.specs.Ops.{data_of}
use Rattle.cot_site.specs.Sites.{state_of}
use Rattle.cot_site.specs.Code.Judging.{HasCells}
use Rattle.cot_site.proofs.Changes.{holding_changes, integrating_changes, refused}
use Rattle.cot_site.proofs.Verdicts.{integrated_next}
use Rattle.cot_site.proofs.Waiting.{waits_agree}
use Rattle.cot_site.proofs.site.Site.deliver.Goals as goal

pub integrate-requires-clause-next : goal.integrate-requires-clause-next
integrate-requires-clause-next c =
    let h = c.args.self.now.history in
    subst (λ (o : OpData). IsNext h o) (sym c.in_ok-copy-in-Integrated.ensures)
    (integrated_next h c.args.self.now.waiting (data_of c.args.op.now) c.known.ensures.history c.requires
    (sym c.judge-verdict.ensures.verdict ∙ c.in-Integrated.is))

pub integrate-requires-clause-cells : goal.integrate-requires-clause-cells
integrate-requires-clause-cells c =
    subst (λ (o : OpData). HasCells c.args.self.now.history o c.judge-verdict.result.cells) (sym c.in_ok-copy-in-Integrated.ensures)
    (c.judge-verdict.ensures.cells c.in-Integrated.is)

pub hold-requires-clause-names : goal.hold-requires-clause-names
hold-requires-clause-names c =
    waits_agree c.args.self.now.history c.args.self.now.waiting (data_of c.args.op.now) c.in-Waits.missing c.known.ensures.history
    c.requires
    (sym c.judge-verdict.ensures.verdict ∙ c.in-Waits.is)

pub returns-in_err-copy-in-Integrated-clause-needed : goal.returns-in_err-copy-in-Integrated-clause-needed
returns-in_err-copy-in-Integrated-clause-needed c =
    refused _ (integrating_changes (state_of c.args.self.now) (data_of c.args.op.now)
    (sym c.judge-verdict.ensures.verdict ∙ c.in-Integrated.is))

pub returns-in_err-integrate-in-Integrated-clause-needed : goal.returns-in_err-integrate-in-Integrated-clause-needed
returns-in_err-integrate-in-Integrated-clause-needed c =
    refused _ (integrating_changes (state_of c.args.self.now) (data_of c.args.op.now)
    (sym c.judge-verdict.ensures.verdict ∙ c.in-Integrated.is))

pub returns-in_err-hold-in-Waits-clause-needed : goal.returns-in_err-hold-in-Waits-clause-needed
returns-in_err-hold-in-Waits-clause-needed c =
    refused _ (holding_changes (state_of c.args.self.now) (data_of c.args.op.now) c.in-Waits.missing
    (sym c.judge-verdict.ensures.verdict ∙ c.in-Waits.is) c.in_err-hold-in-Waits.ensures.needed)
