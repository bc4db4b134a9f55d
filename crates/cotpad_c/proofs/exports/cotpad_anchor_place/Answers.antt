use Rattle.std.proofs.Common.{◌≡◌, ap, subst, sym, ◌∙◌}
use Rattle.std.specs.Prelude.{Option, Some}
use Rattle.cot_site.specs.Sites.{SiteData}
use Rattle.site_anchors.specs.Anchors.{place_told}
use Rattle.cotpad_c.specs.Hosting.{HostedData}
use Rattle.cotpad_c.specs.Held.{held_site}
use Rattle.cotpad_c.proofs.exports.cotpad_anchor_place.Goals as goal

pub returns-clause-found : goal.returns-clause-found
returns-clause-found c a v given at =
    let same : c.site.result.now ≡ c.inner-hosted.result.now.site = c.site.ensures ∙ ap (λ (h : HostedData). h.site) c.note_moves.ensures in
    c.place_of.ensures.found a v given (
    subst (λ (s : SiteData). place_told s.history a ≡ Some v) (sym same)
    (subst (λ (o : Option HostedData). place_told (held_site o).history a ≡ Some v) c.inner-hosted.ensures.value at)
    )
