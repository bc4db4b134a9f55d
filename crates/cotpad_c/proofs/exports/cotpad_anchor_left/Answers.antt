use Rattle.std.proofs.Common.{◌≡◌, subst, sym}
use Rattle.std.specs.Prelude.{Option, Some, slice_get}
use Rattle.cot_site.specs.Sites.{SiteData}
use Rattle.site_anchors.specs.declared.anchors.Side.TheVariants.{Left}
use Rattle.site_anchors.specs.Anchors.{anchors_of, place_told}
use Rattle.cotpad_c.specs.Anchors.{anchor_given}
use Rattle.cotpad_c.specs.Hosting.{HostedData}
use Rattle.cotpad_c.specs.Held.{held_site}
use Rattle.cotpad_c.proofs.exports.cotpad_anchor_left.Goals as goal

pub returns-clause-found : goal.returns-clause-found
returns-clause-found c a at =
    c.anchor_at.ensures.found a (
    subst (λ (s : SiteData). slice_get (anchors_of s.history Left) c.args.place ≡ Some a) (sym c.site.ensures)
    (subst (λ (o : Option HostedData). slice_get (anchors_of (held_site o).history Left) c.args.place ≡ Some a) c.inner.ensures.value at)
    )

pub returns-clause-back : goal.returns-clause-back
returns-clause-back c a =
    subst (λ (o : Option HostedData). slice_get (anchors_of (held_site o).history Left) c.args.place ≡ Some a
    → (anchor_given c.anchor_at.new.anchor ≡ Some a) × (place_told (held_site o).history a ≡ Some c.args.place)) (sym c.inner.ensures.value)
    (subst (λ (s : SiteData). slice_get (anchors_of s.history Left) c.args.place ≡ Some a
    → (anchor_given c.anchor_at.new.anchor ≡ Some a) × (place_told s.history a ≡ Some c.args.place)) c.site.ensures
    (c.anchor_at.ensures.back a))
