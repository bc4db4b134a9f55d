-- The places of many anchors, one after the other.
use Rattle.std.proofs.Common.{◌≡◌, ℕ, ◌+◌, ◌<◌, List, [], ◌∷◌, ◌++◌, Option, length, map, take, get_or, sym, ap, ap₂, ◌∙◌}
use Rattle.std.proofs.lemmas.List.{take_more, map-append}
use Rattle.context_diff.specs.Operations.{OpData}
use Rattle.site_anchors.specs.declared.anchors.Anchor.{Anchor}
use Rattle.site_anchors.specs.Anchors.{place_told}

-- one anchor more
pub told_more : (h : List OpData) (xs : List Anchor) (i : ℕ) (a : Anchor) (old new : List (Option ℕ)) (r : Option ℕ) → i < length xs
    → a ≡ get_or xs i a → old ≡ map (place_told h) (take i xs) → r ≡ place_told h a → new ≡ old ++ r ∷ []
    → new ≡ map (place_told h) (take (i + 1) xs)
told_more h xs i a old new r less is e told put =
    put ∙ (ap₂ (λ (l : List (Option ℕ)) (o : Option ℕ). l ++ o ∷ []) e told
    ∙ (ap (λ (b : Anchor). map (place_told h) (take i xs) ++ place_told h b ∷ []) is
    ∙ (sym (map-append (place_told h) (take i xs) (get_or xs i a ∷ []))
    ∙ sym (ap (λ (l : List Anchor). map (place_told h) l) (take_more xs i a less)))))
