-- A settled site has nothing to release.
use Rattle.std.proofs.Common.{◌≡◌, List, [], ◌∷◌, ◌++◌, refl, sym, ap, subst, ◌∙◌}
use Rattle.site_answers.specs.declared.release.Release.{Release}
use Rattle.cot_site.specs.States.{State, Released, IsSettled}
use Rattle.cot_site.specs.Releases.{state_after, IsPartlySettled}
use Rattle.cot_site.proofs.CallerLemmas.{after_none, settled_has_none}

none_done : (done left : List Released) → [] ≡ done ++ left → done ≡ []
none_done [] left e = refl
none_done (d ∷ ds) left e = cc

-- memory ran out only where an operation was ready
pub partly_unsettled : (s now : State) (old new : List Release) → IsPartlySettled s now old new → IsSettled s → ⊥
partly_unsettled s now old new half settled =
    let none : half.done ≡ [] = none_done half.done half.left (sym (settled_has_none s settled) ∙ half.parts) in
    let same : now ≡ s = half.state ∙ ap (λ rs. state_after s rs) none ∙ after_none s in
    half.unsettled (subst IsSettled (sym same) settled)
