use Rattle.std.proofs.Common.{◌≡◌, ◌∙◌, sym}
use Rattle.std.specs.Prelude.{Some, slice_get}
use Rattle.std.proofs.lemmas.Bool.{true≢false}
use Rattle.context_diff.specs.Operations.{OpData}
use Rattle.context_diff.specs.Ops.{data_of}
use Rattle.site_answers.specs.declared.verdict.Verdict.TheVariants.{Integrated}
use Rattle.cot_site.specs.States.{judged, without_waiting}
use Rattle.cot_site.specs.Sites.{state_of}
use Rattle.cot_site.proofs.Changes.{not_as_before, refused}
use Rattle.cot_site.proofs.Waiting.{ready_integrated, ready_quiet}
use Rattle.cot_site.proofs.site.Site.release.Goals as goal

pub integrate-requires-clause-cells : goal.integrate-requires-clause-cells
integrate-requires-clause-cells c =
    c.judgement_at-verdict.ensures.cells (data_of c.in_ok-copy.copy) c.in_ok-copy.ensures
    (c.is_integrated.ensures.0 c.if-is_integrated.true)

pub integrate-requires-clause-next : goal.integrate-requires-clause-next
integrate-requires-clause-next c =
    ready_integrated c.args.self.now.history c.args.self.now.waiting c.args.place (data_of c.in_ok-copy.copy)
    c.judgement_at-verdict.result.verdict c.known.ensures.history c.known.ensures.waiting c.in_ok-copy.ensures
    c.judgement_at-verdict.ensures.verdict (c.is_integrated.ensures.0 c.if-is_integrated.true)

pub returns-clause-effect : goal.returns-clause-effect
returns-clause-effect c =
    let s = c.args.self.now in
    let v = c.judgement_at-verdict.result.verdict in
    let o = data_of c.take-2.result in
    let at = c.take-2.ensures.op in
    c.take-2.ensures.state
    ∙ sym (ready_quiet s.history s.waiting c.args.place o o v (without_waiting (state_of s) c.args.place) c.known.ensures.history
    c.known.ensures.waiting at (c.requires.ready o at) (c.judgement_at-verdict.ensures.verdict o at)
    (λ e. true≢false (sym (c.is_integrated.ensures.1 e) ∙ c.if-is_integrated.false)))

pub returns-in_err-copy-clause-needed : goal.returns-in_err-copy-clause-needed
returns-in_err-copy-clause-needed c =
    let s = c.args.self.now in
    let integrates : (o : OpData) → slice_get s.waiting c.args.place ≡ Some o
    → judged (without_waiting (state_of s) c.args.place) o ≡ Integrated =
    λ o at. sym (c.judgement_at-verdict.ensures.verdict o at) ∙ c.is_integrated.ensures.0 c.if-is_integrated.true in
    refused _ integrates

pub returns-in_err-integrate-clause-needed : goal.returns-in_err-integrate-clause-needed
returns-in_err-integrate-clause-needed c =
    let s = c.args.self.now in
    let integrates : (o : OpData) → slice_get s.waiting c.args.place ≡ Some o
    → judged (without_waiting (state_of s) c.args.place) o ≡ Integrated =
    λ o at. sym (c.judgement_at-verdict.ensures.verdict o at) ∙ c.is_integrated.ensures.0 c.if-is_integrated.true in
    refused _ integrates

pub returns-then-is_integrated-clause-entries : goal.returns-then-is_integrated-clause-entries
returns-then-is_integrated-clause-entries c = λ same.
    absurd (not_as_before (state_of c.args.self.now) (state_of c.integrate.new.self) (state_of c.take.new.self) (data_of c.in_ok-copy.copy)
    c.args.place c.in_ok-integrate.ensures.state c.take.ensures.state same)
