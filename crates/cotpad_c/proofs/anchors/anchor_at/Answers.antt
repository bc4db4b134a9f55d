use Rattle.std.proofs.Common.{◌≡◌, ap, subst, ◌∙◌}
use Rattle.std.specs.Prelude.{Some}
use Rattle.site_anchors.specs.declared.anchors.Anchor.{Anchor}
use Rattle.site_anchors.specs.Anchors.{place_told}
use Rattle.cotpad_c.specs.Anchors.{anchor_given}
use Rattle.cotpad_c.proofs.ReadBack.{read_back}
use Rattle.cotpad_c.proofs.anchors.anchor_at.Goals as goal

pub returns-in-Some-clause-back : goal.returns-in-Some-clause-back
returns-in-Some-clause-back c a got =
    let h = c.args.site.now.history in
    let there : place_told h c.in-Some.at ≡ Some c.args.place = c.in-Some.ensures.back in
    let both : Some c.in-Some.at ≡ Some a = c.in-Some.ensures.anchor ∙ got in
    let same : c.in-Some.at ≡ a = cc in
    subst (λ (b : Anchor). (anchor_given c.anchor_told.result ≡ Some b) × (place_told h b ≡ Some c.args.place)) same (
      ap anchor_given c.anchor_told.ensures ∙ read_back h c.in-Some.at c.args.place c.known.ensures.history there,
      there,
    )
