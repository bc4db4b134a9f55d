-- Elements of lists: which there are, in joined and filtered lists, and lists without repeats.
use Rattle.std.proofs.Common.{◌≡◌, Bool, true, false, List, [], ◌∷◌, map, inl, inr, refl, ap, sym, ◌∙◌}
use Rattle.std.proofs.lemmas.Bool.{cases_Bool}
use Rattle.std.specs.List.{list_any}
use Rattle.transform_rec.specs.Lists.{IsIn}
pub use Rattle.undo_group.specs.Laws.Members.{in_contains, contains_in}

pub not_both : {b : Bool} {P : Type 0} → b ≡ true → b ≡ false → P
not_both h k = absurd (cc)

pub map_same : {K L : Type 0} (f g : K → L) (xs : List K) → ((x : K) → IsIn x xs → f x ≡ g x) → map f xs ≡ map g xs
map_same f g [] h = refl
map_same f g (x ∷ xs) h = let ih = map_same f g xs (λ y i. h y (inr i)) in let e = h x (inl refl) in cc

pub any_in : {K : Type 0} (p : K → Bool) (xs : List K) → list_any p xs ≡ true → (x : K) × IsIn x xs × (p x ≡ true)
any_in p [] h = not_both h refl
any_in p (x ∷ xs) h = elim (cases_Bool (p x)) [ inl k ↦ (x, inl refl, k) | inr k ↦ let r = any_in p xs (rw k at h) in (r.0, inr r.1, r.2) ]

pub in_any : {K : Type 0} (p : K → Bool) (x : K) (xs : List K) → IsIn x xs → p x ≡ true → list_any p xs ≡ true
in_any p x [] i h = absurd i
in_any p x (y ∷ ys) (inl e) h = let k : p y ≡ true = ap p (sym e) ∙ h in rw k refl
in_any p x (y ∷ ys) (inr i) h = elim (cases_Bool (p y)) [ inl k ↦ rw k refl | inr k ↦ rw (k, in_any p x ys i h) refl ]

-- each element has the relation to those after it
abbrev pub IsPairwise : {K : Type 0} → (K → K → Type 0) → List K → Type 0
IsPairwise R [] = Unit {0}
IsPairwise {K} R (x ∷ xs) = ((z : K) → IsIn z xs → R x z) × IsPairwise R xs
