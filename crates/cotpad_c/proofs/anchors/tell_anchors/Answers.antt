use Rattle.std.proofs.Common.{◌≡◌, ℕ, List, Option, ◌++◌, drop, inr, length, map, refl, ap, ◌∙◌, arith}
use Rattle.std.proofs.lemmas.List.{length-map}
use Rattle.site_anchors.specs.Anchors.{place_told}
use Rattle.cotpad_c.specs.Anchors.{place_number}
use Rattle.cotpad_c.proofs.anchors.tell_anchors.Goals as goal

pub tell_all-requires : goal.tell_all-requires
tell_all-requires c =
    let h = c.args.site.now.history in
    let is : c.as_slice.result.now ≡ map (place_told h) c.args.anchors.now = c.as_slice.ensures.value ∙ c.in-Ok.ensures in
    omega (arith, ap (λ (l : List (Option ℕ)). length l) is, length-map c.args.anchors.now (place_told h), c.requires)

pub returns-in-Ok : goal.returns-in-Ok
returns-in-Ok c =
    let told = map (place_told c.args.site.now.history) c.args.anchors.now in
    let is : c.as_slice.result.now ≡ told = c.as_slice.ensures.value ∙ c.in-Ok.ensures in
    let old = c.args.places.now in
    inr (
      refl,
      c.tell_all.ensures
          ∙ ap (λ (l : List (Option ℕ)). map place_number l ++ drop (length l) old) is
          ∙ ap (λ (k : ℕ). map place_number told ++ drop k old) (length-map c.args.anchors.now (place_told c.args.site.now.history)),
    )
