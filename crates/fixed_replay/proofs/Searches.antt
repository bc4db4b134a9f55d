-- Walks over a list that look for a place: each step and the end of them.
use Rattle.std.proofs.Common.{◌≡◌, ℕ, zero, suc, ◌+◌, ◌-◌, ◌<◌, ◌≤◌, Bool, true, false, inl, inr, List, [], ◌∷◌, refl, ap, sym, ◌∙◌, arith, length, map, drop, get_or}
use Rattle.std.specs.Prelude.{if◌then◌else◌}
use Rattle.std.specs.List.{list_any}
use Rattle.std.proofs.lemmas.Bool.{cases_Bool}
use Rattle.std.proofs.lemmas.List.{at_drop_more, at_drop_all}
use Rattle.context_diff.specs.Code.GapEnds.{up_to_nth, before_first, up_to_last}

-- what a function makes of the list from a place on, where the element there is known
pub at_place : {X Y : Type 0} (f : List X → Y) (xs : List X) (i : ℕ) (x : X) → i < length xs → x ≡ get_or xs i x
    → f (drop i xs) ≡ f (x ∷ drop (i + 1) xs)
at_place f xs i x within is = at_drop_more f xs i x within ∙ ap (λ y. f (y ∷ drop (i + 1) xs)) (sym is)

pub nth_seen : {X : Type 0} (p : X → Bool) (n : ℕ) (xs : List X) (i : ℕ) (x : X) → i < length xs → x ≡ get_or xs i x → 0 < n → p x ≡ true
    → up_to_nth p n (drop i xs) ≡ suc (up_to_nth p (n - 1) (drop (i + 1) xs))
nth_seen p zero xs i x within is more passes = absurd (omega arith)
nth_seen p (suc n) xs i x within is more passes =
    let e : n ≡ suc n - 1 = omega arith in
    at_place (up_to_nth p (suc n)) xs i x within is ∙ rw passes (ap (λ k. suc (up_to_nth p k (drop (i + 1) xs))) e)

pub nth_past : {X : Type 0} (p : X → Bool) (n : ℕ) (xs : List X) (i : ℕ) (x : X) → i < length xs → x ≡ get_or xs i x → 0 < n → p x ≡ false
    → up_to_nth p n (drop i xs) ≡ suc (up_to_nth p n (drop (i + 1) xs))
nth_past p zero xs i x within is more fails = absurd (omega arith)
nth_past p (suc n) xs i x within is more fails = at_place (up_to_nth p (suc n)) xs i x within is ∙ rw fails refl

-- the last that passes is among these, which begin at a place, or it is the last one so far
abbrev pub last_from : {X : Type 0} → (X → Bool) → ℕ → ℕ → List X → ℕ
last_from p so_far i xs = if list_any p xs then i + up_to_last p xs else so_far

no_last : {X : Type 0} (p : X → Bool) (xs : List X) → list_any p xs ≡ false → up_to_last p xs ≡ 0
no_last p [] none = refl
no_last p (x ∷ xs) none = rw none refl

pub last_start : {X : Type 0} (p : X → Bool) (xs : List X) → up_to_last p xs ≡ last_from p 0 0 xs
last_start p xs = elim (cases_Bool (list_any p xs)) [
  | inl e ↦ rw e (omega arith)
  | inr e ↦ rw e (no_last p xs e)
]

last_here : {X : Type 0} (p : X → Bool) (so_far i : ℕ) (x : X) (xs : List X) → p x ≡ true
    → last_from p so_far i (x ∷ xs) ≡ last_from p (i + 1) (i + 1) xs
last_here p so_far i x xs passes = rw passes (elim (cases_Bool (list_any p xs)) [
  | inl e ↦ rw e (omega arith)
  | inr e ↦ rw e (let none = no_last p xs e in omega arith)
])

last_later : {X : Type 0} (p : X → Bool) (so_far i : ℕ) (x : X) (xs : List X) → p x ≡ false
    → last_from p so_far i (x ∷ xs) ≡ last_from p so_far (i + 1) xs
last_later p so_far i x xs fails = rw fails (elim (cases_Bool (list_any p xs)) [
  | inl e ↦ rw e (omega arith)
  | inr e ↦ rw e refl
])

pub last_at : {X : Type 0} (p : X → Bool) (so_far : ℕ) (xs : List X) (i : ℕ) (x : X) → i < length xs → x ≡ get_or xs i x → p x ≡ true
    → last_from p so_far i (drop i xs) ≡ last_from p (i + 1) (i + 1) (drop (i + 1) xs)
last_at p so_far xs i x within is passes =
    at_place (last_from p so_far i) xs i x within is ∙ last_here p so_far i x (drop (i + 1) xs) passes

pub last_past : {X : Type 0} (p : X → Bool) (so_far : ℕ) (xs : List X) (i : ℕ) (x : X) → i < length xs → x ≡ get_or xs i x → p x ≡ false
    → last_from p so_far i (drop i xs) ≡ last_from p so_far (i + 1) (drop (i + 1) xs)
last_past p so_far xs i x within is fails =
    at_place (last_from p so_far i) xs i x within is ∙ last_later p so_far i x (drop (i + 1) xs) fails

pub last_end : {X : Type 0} (p : X → Bool) (so_far : ℕ) (xs : List X) (i : ℕ) → length xs ≤ i → last_from p so_far i (drop i xs) ≡ so_far
last_end p so_far xs i past = at_drop_all (last_from p so_far i) xs i past

-- places among what a function makes of the elements
pub before_first_map : {X Y : Type 0} (f : X → Y) (p : Y → Bool) (xs : List X) → before_first p (map f xs) ≡ before_first (λ x. p (f x)) xs
before_first_map f p [] = refl
before_first_map f p (x ∷ xs) = elim (cases_Bool (p (f x))) [
  | inl e ↦ rw e refl
  | inr e ↦ rw e (ap (λ n. suc n) (before_first_map f p xs))
]
