use Rattle.std.proofs.Common.{◌∙◌, ◌∷◌, ◌++◌, [], ap, sym, map}
use Rattle.std.proofs.lemmas.List.{map-append}
use Rattle.std.proofs.lemmas.Bool.{cond-true}
use Rattle.cot_site.specs.Sites.{state_of}
use Rattle.session_replay.specs.Sessions.{new_sites}
use Rattle.session_replay.proofs.Lines.{went_well}
use Rattle.session_replay.proofs.Loops.{sites_more, sites_none}
use Rattle.session_replay.proofs.sites.new_sites.Goals as goal

pub loop-number-init : goal.loop-number-init
loop-number-init c = ap (map state_of) c.new-sites.ensures.items ∙ sym sites_none

pub loop-number-preserved : goal.loop-number-preserved
loop-number-preserved c =
    let pushed = c.push.ensures.items ∙ cond-true _ _ _ (went_well c.push.result (sym c.is_err.ensures.value ∙ c.if-is_err.false)) in
    ap (map state_of) pushed
    ∙ map-append state_of c.loop-number.sites.items (c.in-Ok.site ∷ [])
    ∙ ap (λ xs. xs ++ state_of c.in-Ok.site ∷ []) c.loop-number.invariant
    ∙ ap (λ s. new_sites 0 c.loop-number.number ++ state_of s ∷ []) c.in-Ok.ensures
    ∙ sym (sites_more c.loop-number.number)
