use Rattle.std.proofs.Common.{sym, subst}
use Rattle.cot_site.specs.Sites.{state_of}
use Rattle.cot_site.specs.States.{IsSettled}
use Rattle.cotpad_c.specs.Hosting.{HostedData}
use Rattle.cotpad_c.proofs.Settled.{partly_unsettled}
use Rattle.cotpad_c.proofs.hosted.Hosted.settle.Goals as goal
use Rattle.cotpad_c.proofs.hosted.Hosted.settle.Goals.{in-Ok, in-Err}

pub returns-clause-nothing : goal.returns-clause-nothing
returns-clause-nothing c = λ settled.
    let there : IsSettled (state_of c.self.inside.site) =
    subst (λ (h : HostedData). IsSettled (state_of h.site)) (sym c.self.view_is) settled in
    elim c.match-settle.branch [
      | in-Ok w ↦ w.result-is
      | in-Err w ↦ absurd (partly_unsettled _ _ _ _ w.in-Err.ensures.err there)
    ]
