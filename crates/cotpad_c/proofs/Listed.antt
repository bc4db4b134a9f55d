-- What is put into a list one by one.
use Rattle.std.proofs.Common.{◌≡◌, ℕ, ◌+◌, ◌<◌, List, [], ◌∷◌, ◌++◌, get_or, length, map, take, sym, ap, ◌∙◌}
use Rattle.std.proofs.lemmas.List.{take_more, map-append}

-- one more, behind the others
pub listed_more : {X Y : Type 0} (f : X → Y) (xs : List X) (i : ℕ) (x : X) (old new : List Y) → i < length xs
    → old ≡ map f (take i xs) → new ≡ old ++ f (get_or xs i x) ∷ [] → new ≡ map f (take (i + 1) xs)
listed_more f xs i x old new less told put =
    put ∙ ap (λ ys. ys ++ f (get_or xs i x) ∷ []) told
    ∙ sym (ap (map f) (take_more xs i x less) ∙ map-append f (take i xs) (get_or xs i x ∷ []))
