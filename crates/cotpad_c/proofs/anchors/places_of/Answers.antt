use Rattle.std.proofs.Common.{◌≡◌, ℕ, List, ◌++◌, drop, inl, inr, length, map, ap, ◌∙◌, arith}
use Rattle.std.proofs.lemmas.List.{length-map}
use Rattle.site_anchors.specs.declared.anchors.Anchor.{Anchor}
use Rattle.site_anchors.specs.Anchors.{place_told}
use Rattle.cotpad_c.specs.Anchors.{place_number, places_given}
use Rattle.cotpad_c.specs.Code.{anchor_or_nowhere}
use Rattle.cotpad_c.proofs.ReadBack.{many_told}
use Rattle.cotpad_c.proofs.anchors.places_of.Goals as goal

pub tell_anchors-requires : goal.tell_anchors-requires
tell_anchors-requires c =
    let is : c.as_slice.result.now ≡ map anchor_or_nowhere c.args.given.now = c.as_slice.ensures.value ∙ c.in-Ok.ensures in
    omega (arith, ap (λ (l : List Anchor). length l) is, length-map c.args.given.now anchor_or_nowhere, c.if-places-given.false)

pub returns-in-Ok-clause-told : goal.returns-in-Ok-clause-told
returns-in-Ok-clause-told c room =
    let h = c.args.site.now.history in
    let old = c.args.places.now in
    let given = c.args.given.now in
    let is : c.as_slice.result.now ≡ map anchor_or_nowhere given = c.as_slice.ensures.value ∙ c.in-Ok.ensures in
    elim c.tell_anchors.ensures [
      | inl full ↦ inl full
      | inr told ↦ inr (
        told.0,
        told.1
            ∙ ap (λ (l : List Anchor). map place_number (map (place_told h) l) ++ drop (length l) old) is
            ∙ ap (λ (vs : List ℕ). vs ++ drop (length (map anchor_or_nowhere given)) old) (many_told h given c.known.ensures.history)
            ∙ ap (λ (k : ℕ). places_given h given ++ drop k old) (length-map given anchor_or_nowhere),
      )
    ]
