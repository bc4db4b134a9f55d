-- What is told one by one, in the front of what was there.
use Rattle.std.proofs.Common.{◌≡◌, ℕ, ◌+◌, ◌<◌, ◌≤◌, List, [], ◌∷◌, ◌++◌, get_or, length, map, take, drop, sym, ap, arith, add-one, ◌∙◌}
use Rattle.std.specs.Prelude.{slice_set}
use Rattle.std.proofs.lemmas.List.{append_assoc, length-map, length-take-le, map-append, take_more}
use Rattle.std.proofs.Math.Seq.{drop-cons, set-append_seam}

-- one element after the others is told behind them
one_more : {X Y : Type 0} (f : X → Y) (xs : List X) (i : ℕ) (x : X) → i < length xs
    → map f (take (i + 1) xs) ≡ map f (take i xs) ++ (f (get_or xs i x) ∷ [])
one_more f xs i x within = ap (map f) (take_more xs i x within) ∙ map-append f (take i xs) (get_or xs i x ∷ [])

-- what was there parts into an element and those behind it
parted : {Y : Type 0} (old : List Y) (i : ℕ) (y : Y) → i < length old → drop i old ≡ get_or old i y ∷ drop (i + 1) old
parted old i y within = drop-cons old i y within ∙ ap (λ k. get_or old i y ∷ drop k old) (sym (add-one i))

-- the next one is told behind those before it
pub told_more : {X Y : Type 0} (f : X → Y) (xs : List X) (old out : List Y) (i : ℕ) (x : X) (y : Y)
    → i < length xs → length xs ≤ length old → out ≡ map f (take i xs) ++ drop i old → y ≡ f (get_or xs i x)
    → slice_set out i y ≡ map f (take (i + 1) xs) ++ drop (i + 1) old
told_more f xs old out i x y within room is told =
    let front = map f (take i xs) in
    let behind = drop (i + 1) old in
    let there = get_or old i y in
    let here : length front ≡ i = length-map (take i xs) f ∙ length-take-le i xs (omega (arith, within)) in
    let whole : out ≡ front ++ (there ∷ behind) = is ∙ ap (λ ys. front ++ ys) (parted old i y (omega (arith, within, room))) in
    let longer : front ++ (y ∷ []) ≡ map f (take (i + 1) xs) = ap (λ z. front ++ (z ∷ [])) told ∙ sym (one_more f xs i x within) in
    ap (λ ys. slice_set ys i y) whole
    ∙ ap (λ k. slice_set (front ++ (there ∷ behind)) k y) (sym here)
    ∙ set-append_seam front there behind y
    ∙ sym (append_assoc front (y ∷ []) behind)
    ∙ ap (λ ys. ys ++ behind) longer
