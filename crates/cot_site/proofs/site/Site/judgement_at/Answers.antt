use Rattle.std.proofs.Common.{◌≡◌, ◌∙◌, sym, ap, subst, List, Bor}
use Rattle.std.specs.Prelude.{Some, None, option_map, slice_get}
use Rattle.context_diff.specs.Operations.{OpData}
use Rattle.context_diff.specs.declared.op.Op.{Op}
use Rattle.context_diff.specs.Ops.{data_of}
use Rattle.context_diff.proofs.CallerLemmas.{not_past}
use Rattle.site_answers.specs.declared.verdict.Verdict.TheVariants.{Integrated}
use Rattle.cot_site.specs.Code.Judging.{HasCells}
use Rattle.cot_site.proofs.Waiting.{one_at, judged_at, formed_at}
use Rattle.cot_site.proofs.site.Site.judgement_at.Goals as goal

pub judge-requires : goal.judge-requires
judge-requires c =
    let w = c.args.self.now.waiting in
    let at : slice_get w c.args.place ≡ Some (data_of c.in-Some.op.now) =
    ap (λ (l : List OpData). slice_get l c.args.place) (sym c.pool.ensures)
    ∙ (sym c.get.ensures ∙ ap (option_map (λ (o : Bor Op). data_of o.now)) c.in-Some.is) in
    formed_at w c.args.place (data_of c.in-Some.op.now) c.known.ensures.waiting at

pub unreachable-requires : goal.unreachable-requires
unreachable-requires c =
    let w = c.args.self.now.waiting in
    let at : slice_get w c.args.place ≡ None =
    ap (λ (l : List OpData). slice_get l c.args.place) (sym c.pool.ensures)
    ∙ (sym c.get.ensures ∙ ap (option_map (λ (o : Bor Op). data_of o.now)) c.in-None.is) in
    not_past w c.args.place c.requires at

pub returns-clause-verdict : goal.returns-clause-verdict
returns-clause-verdict c = λ o there.
    let w = c.args.self.now.waiting in
    let at : slice_get w c.args.place ≡ Some (data_of c.in-Some.op.now) =
    ap (λ (l : List OpData). slice_get l c.args.place) (sym c.pool.ensures)
    ∙ (sym c.get.ensures ∙ ap (option_map (λ (o : Bor Op). data_of o.now)) c.in-Some.is) in
    judged_at c.args.self.now.history w c.args.place o (data_of c.in-Some.op.now) c.judge.result.verdict at c.judge.ensures.verdict there

pub returns-clause-cells : goal.returns-clause-cells
returns-clause-cells c = λ o there.
    let w = c.args.self.now.waiting in
    let at : slice_get w c.args.place ≡ Some (data_of c.in-Some.op.now) =
    ap (λ (l : List OpData). slice_get l c.args.place) (sym c.pool.ensures)
    ∙ (sym c.get.ensures ∙ ap (option_map (λ (o : Bor Op). data_of o.now)) c.in-Some.is) in
    subst (λ (p : OpData). c.judge.result.verdict ≡ Integrated → HasCells c.args.self.now.history p c.judge.result.cells)
    (one_at w c.args.place o (data_of c.in-Some.op.now) at there) c.judge.ensures.cells
