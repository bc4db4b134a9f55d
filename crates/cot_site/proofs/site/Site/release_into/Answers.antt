use Rattle.std.proofs.Common.{◌∙◌, sym, ap, List, [], ◌∷◌, ◌++◌}
use Rattle.op_name.specs.declared.member.Member.{Member}
use Rattle.context_diff.specs.Operations.{member_of}
use Rattle.context_diff.specs.Ops.{data_of}
use Rattle.context_diff.proofs.CallerLemmas.{formed_member}
use Rattle.site_answers.specs.declared.release.Release.{Release}
use Rattle.site_answers.specs.declared.verdict.Verdict.{Verdict}
use Rattle.cot_site.specs.States.{delivered_again, without_waiting, after_verdict}
use Rattle.cot_site.specs.Sites.{state_of}
use Rattle.cot_site.proofs.Waiting.{release_is, first_within, first_is_ready, formed_at}
use Rattle.cot_site.proofs.site.Site.release_into.Goals as goal

pub release-requires-clause-place : goal.release-requires-clause-place
release-requires-clause-place c =
    let s = c.args.self.now in
    first_within s.history s.waiting c.in-Some.place (sym c.first_ready.ensures ∙ c.in-Some.is)

pub release-requires-clause-ready : goal.release-requires-clause-ready
release-requires-clause-ready c =
    let s = c.args.self.now in
    first_is_ready s.history s.waiting c.in-Some.place (sym c.first_ready.ensures ∙ c.in-Some.is)

pub member-requires : goal.member-requires
member-requires c =
    let s = c.args.self.now in
    formed_member (data_of c.in-Ok.op) (formed_at s.waiting c.in-Some.place (data_of c.in-Ok.op) c.known.ensures.waiting c.in-Ok.ensures.op)

pub returns-in-Ok-clause-release : goal.returns-in-Ok-clause-release
returns-in-Ok-clause-release c =
    let s = state_of c.args.self.now in
    let o = data_of c.in-Ok.op in
    let left = without_waiting s c.in-Some.place in
    let is = release_is s c.in-Some.place o (sym c.first_ready.ensures ∙ c.in-Some.is) c.in-Ok.ensures.op in
    let listed : Member → Verdict → List Release = λ m v. c.args.list.now.items ++ record { member = m; verdict = v } ∷ [] in (
      delivered_again left o,
      is,
      c.in-Ok.ensures.effect ∙ ap (λ (v : Verdict). after_verdict v o left) c.in-Ok.ensures.verdict,
      c.push_reserved.ensures.items
          ∙ ap (λ (l : List Release). l ++ record { member = c.member.result; verdict = c.in-Ok.verdict } ∷ []) c.reserve.ensures.items
          ∙ ap (λ (m : Member). listed m c.in-Ok.verdict) c.member.ensures.member
          ∙ ap (λ (v : Verdict). listed (member_of o) v) c.in-Ok.ensures.verdict,
    )
