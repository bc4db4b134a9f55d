-- The lines of a history.
use Rattle.std.proofs.Common.{◌≡◌, ℕ, suc, ◌+◌, ◌<◌, ◌≤◌, List, [], ◌∷◌, ◌++◌, Some, ap, sym, ◌∙◌, arith, length, take, append_assoc, append-nil}
use Rattle.std.specs.Prelude.{slice_get}
use Rattle.std.proofs.lemmas.List.{take_all, length-take}
use Rattle.std.proofs.lemmas.Option.{slice_get_within}
use Rattle.context_diff.specs.Operations.{OpData}
use Rattle.log_listings.specs.Listings.{line_text, lines_text}
use Rattle.log_listings.proofs.Appending.{taken_more}

lines_text-push : (h : List OpData) (i : ℕ) (os : List OpData) (o : OpData)
    → lines_text h i (os ++ o ∷ []) ≡ lines_text h i os ++ line_text h (i + length os) o
lines_text-push h i [] o =
    let here : i ≡ i + length {A = OpData} [] = omega arith in
    append-nil (line_text h i o) ∙ ap (λ k. line_text h k o) here
lines_text-push h i (p ∷ ps) o =
    let next : suc i + length ps ≡ i + length (p ∷ ps) = omega arith in
    ap (λ (t : List ℕ). line_text h i p ++ t) (lines_text-push h (suc i) ps o)
    ∙ sym (append_assoc (line_text h i p) (lines_text h (suc i) ps) (line_text h (suc i + length ps) o))
    ∙ ap (λ j. lines_text h i (p ∷ ps) ++ line_text h j o) next

-- one line more
pub lines_more : (h : List OpData) (start was now : List ℕ) (i : ℕ) (o : OpData) → was ≡ start ++ lines_text h 0 (take i h)
    → slice_get h i ≡ Some o → now ≡ was ++ line_text h i o → now ≡ start ++ lines_text h 0 (take (i + 1) h)
lines_more h start was now i o up at put =
    let within : i < length h = slice_get_within h i o at in
    let size : 0 + length (take i h) ≡ i = let t = length-take i h in omega (arith, t, within) in
    let text : lines_text h 0 (take (i + 1) h) ≡ lines_text h 0 (take i h) ++ line_text h i o =
    ap (lines_text h 0) (taken_more h i o at) ∙ lines_text-push h 0 (take i h) o
    ∙ ap (λ k. lines_text h 0 (take i h) ++ line_text h k o) size in
    put ∙ ap (λ (t : List ℕ). t ++ line_text h i o) up ∙ append_assoc start (lines_text h 0 (take i h)) (line_text h i o)
    ∙ ap (λ (t : List ℕ). start ++ t) (sym text)

-- all lines
pub lines_all : (h : List OpData) (start now : List ℕ) (i : ℕ) → now ≡ start ++ lines_text h 0 (take i h) → length h ≤ i
    → now ≡ start ++ lines_text h 0 h
lines_all h start now i up past = up ∙ ap (λ (os : List OpData). start ++ lines_text h 0 os) (take_all i h past)
