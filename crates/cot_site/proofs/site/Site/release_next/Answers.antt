use Rattle.std.proofs.Common.{◌∙◌, refl, sym, ap, subst}
use Rattle.std.proofs.lemmas.Bool.{true≢false}
use Rattle.std.proofs.lemmas.Option.{none-some}
use Rattle.std.specs.Prelude.{Option, Some, None}
use Rattle.context_diff.specs.Ops.{data_of}
use Rattle.site_answers.specs.declared.verdict.Verdict.{Verdict}
use Rattle.cot_site.specs.States.{Released, after_release, after_verdict, without_waiting}
use Rattle.cot_site.specs.Sites.{state_of, IsRelease}
use Rattle.cot_site.proofs.Changes.{first_integrates, refused}
use Rattle.cot_site.proofs.Waiting.{release_none, release_is, first_within, first_is_ready}
use Rattle.cot_site.proofs.site.Site.release_next.Goals as goal

pub returns-in_default-clause-answer : goal.returns-in_default-clause-answer
returns-in_default-clause-answer c =
    let s = state_of c.args.self.now in
    subst (λ (r : Option Released). IsRelease r None) (sym (release_none s (sym c.first_ready.ensures ∙ c.in_default.is))) tt

pub returns-in_default-clause-effect : goal.returns-in_default-clause-effect
returns-in_default-clause-effect c =
    let s = state_of c.args.self.now in
    ap (after_release s) (sym (release_none s (sym c.first_ready.ensures ∙ c.in_default.is)))

pub returns-in_default-clause-settled : goal.returns-in_default-clause-settled
returns-in_default-clause-settled c = (λ none. sym c.first_ready.ensures ∙ c.in_default.is, λ settled. refl)

pub release-requires-clause-place : goal.release-requires-clause-place
release-requires-clause-place c =
    let s = c.args.self.now in
    first_within s.history s.waiting c.in-Some.place (sym c.first_ready.ensures ∙ c.in-Some.is)

pub release-requires-clause-ready : goal.release-requires-clause-ready
release-requires-clause-ready c =
    let s = c.args.self.now in
    first_is_ready s.history s.waiting c.in-Some.place (sym c.first_ready.ensures ∙ c.in-Some.is)

pub returns-clause-answer : goal.returns-clause-answer
returns-clause-answer c =
    let s = state_of c.args.self.now in
    let p = c.in_ok-released.released in
    let is = release_is s c.in-Some.place (data_of p.0) (sym c.first_ready.ensures ∙ c.in-Some.is) c.in_ok-released.ensures.op in
    subst (λ (r : Option Released). IsRelease r (Some p)) (sym is) (refl, sym c.in_ok-released.ensures.verdict)

pub returns-clause-effect : goal.returns-clause-effect
returns-clause-effect c =
    let s = state_of c.args.self.now in
    let p = c.in_ok-released.released in
    let is = release_is s c.in-Some.place (data_of p.0) (sym c.first_ready.ensures ∙ c.in-Some.is) c.in_ok-released.ensures.op in
    c.in_ok-released.ensures.effect
    ∙ (ap (λ (v : Verdict). after_verdict v (data_of p.0) (without_waiting s c.in-Some.place)) c.in_ok-released.ensures.verdict
    ∙ ap (after_release s) (sym is))

pub returns-clause-settled : goal.returns-clause-settled
returns-clause-settled c = (
  λ none. absurd (true≢false none),
  λ settled. absurd (none-some c.in-Some.place (sym settled ∙ (sym c.first_ready.ensures ∙ c.in-Some.is))),
)

pub returns-in_err-released-clause-needed : goal.returns-in_err-released-clause-needed
returns-in_err-released-clause-needed c =
    refused _ (first_integrates (state_of c.args.self.now) c.in-Some.place (sym c.first_ready.ensures ∙ c.in-Some.is)
    c.in_err-released.ensures.needed)
