-- Sorting by insertion: the same elements in order, and one list of given elements in a strict order.
use Rattle.std.proofs.Common.{◌≡◌, Bool, true, false, List, [], ◌∷◌, ◌⊎◌, inl, inr, refl, ap, sym, ◌∙◌, subst}
use Rattle.std.proofs.lemmas.Bool.{cases_Bool}
use Rattle.context_diff.specs.Replays.{put_by, sort_by}
use Rattle.transform_rec.specs.Lists.{IsIn, SameElements}
use Rattle.transform_rec.proofs.CallerLemmas.{IsRising}
use Rattle.fixed_replay.proofs.Elements.{not_both, IsPairwise}

-- a strict order of the elements of a list: of two at different places one is less
abbrev pub AreComparable : {A : Type 0} → (A → A → Bool) → List A → Type 0
AreComparable {A} less xs = IsPairwise (λ (x y : A). (less x y ≡ true) ⊎ (less y x ≡ true)) xs

passed : {A : Type 0} (less : A → A → Bool) (z x y : A) (ys : List A) → (IsIn z (put_by less x ys) → (z ≡ x) ⊎ IsIn z ys)
    → IsIn z (y ∷ put_by less x ys) → (z ≡ x) ⊎ IsIn z (y ∷ ys)
passed less z x y ys f (inl e) = inr (inl e)
passed less z x y ys f (inr i) = elim (f i) [ inl e ↦ inl e | inr j ↦ inr (inr j) ]

pub in-put_by : {A : Type 0} (less : A → A → Bool) (z x : A) (ys : List A) → IsIn z (put_by less x ys) → (z ≡ x) ⊎ IsIn z ys
unfolding put_by
in-put_by less z x [] (inl e) = inl e
in-put_by less z x [] (inr i) = absurd i
in-put_by less z x (y ∷ ys) i =
    elim (cases_Bool (less x y)) [ inl h ↦ rw h at i | inr h ↦ passed less z x y ys (in-put_by less z x ys) (rw h at i) ]

pub put_by-new : {A : Type 0} (less : A → A → Bool) (x : A) (ys : List A) → IsIn x (put_by less x ys)
unfolding put_by
put_by-new less x [] = inl refl
put_by-new less x (y ∷ ys) = elim (cases_Bool (less x y)) [ inl h ↦ rw h (inl refl) | inr h ↦ rw h (inr (put_by-new less x ys)) ]

pub put_by-old : {A : Type 0} (less : A → A → Bool) (z x : A) (ys : List A) → IsIn z ys → IsIn z (put_by less x ys)
unfolding put_by
put_by-old less z x [] i = absurd i
put_by-old less z x (y ∷ ys) (inl e) = elim (cases_Bool (less x y)) [ inl h ↦ rw h (inr (inl e)) | inr h ↦ rw h (inl e) ]
put_by-old less z x (y ∷ ys) (inr i) =
    elim (cases_Bool (less x y)) [ inl h ↦ rw h (inr (inr i)) | inr h ↦ rw h (inr (put_by-old less z x ys i)) ]

pub in-sort_by : {A : Type 0} (less : A → A → Bool) (z : A) (xs : List A) → IsIn z (sort_by less xs) → IsIn z xs
unfolding sort_by
in-sort_by less z [] i = i
in-sort_by less z (x ∷ xs) i = elim (in-put_by less z x (sort_by less xs) i) [ inl e ↦ inl e | inr j ↦ inr (in-sort_by less z xs j) ]

pub sort_by-in : {A : Type 0} (less : A → A → Bool) (z : A) (xs : List A) → IsIn z xs → IsIn z (sort_by less xs)
unfolding sort_by
sort_by-in {A} less z (x ∷ xs) (inl e) =
    subst (λ (y : A). IsIn y (put_by less x (sort_by less xs))) (sym e) (put_by-new less x (sort_by less xs))
sort_by-in less z (x ∷ xs) (inr i) = put_by-old less z x (sort_by less xs) (sort_by-in less z xs i)
sort_by-in less z [] i = i

module _ {A : Type 0} (less : A → A → Bool) (asym : (x y : A) → less x y ≡ true → less y x ≡ false)
    (trans : (x y z : A) → less x y ≡ true → less y z ≡ true → less x z ≡ true) where
  pub put_by-sorted : (x : A) (ys : List A) → ((z : A) → IsIn z ys → (less x z ≡ true) ⊎ (less z x ≡ true)) → IsRising less ys
      → IsRising less (put_by less x ys)
  unfolding put_by
  put_by-sorted x [] c s = (λ z i. absurd i, tt)
  put_by-sorted x (y ∷ ys) c s = elim (cases_Bool (less x y)) [
    | inl h ↦ rw h (before h, s)
    | inr h ↦ rw h (behind h, put_by-sorted x ys (λ z i. c z (inr i)) s.1)
  ]
    where
      before : less x y ≡ true → (z : A) → IsIn z (y ∷ ys) → less x z ≡ true
      before h z (inl e) = subst (λ (w : A). less x w ≡ true) (sym e) h
      before h z (inr i) = trans x y z h (s.0 z i)

      y_x : less x y ≡ false → less y x ≡ true
      y_x h = elim (c y (inl refl)) [ inl k ↦ not_both k h | inr k ↦ k ]

      behind : less x y ≡ false → (z : A) → IsIn z (put_by less x ys) → less y z ≡ true
      behind h z i = elim (in-put_by less z x ys i) [ inl e ↦ subst (λ (w : A). less y w ≡ true) (sym e) (y_x h) | inr j ↦ s.0 z j ]

  pub sort_by-sorted : (xs : List A) → AreComparable less xs → IsRising less (sort_by less xs)
  unfolding sort_by
  sort_by-sorted [] c = tt
  sort_by-sorted (x ∷ xs) c = put_by-sorted x (sort_by less xs) (λ z i. c.0 z (in-sort_by less z xs i)) (sort_by-sorted xs c.1)

  -- nothing is less than itself
  irreflexive : (x : A) → less x x ≡ true → ⊥
  irreflexive x h = not_both h (asym x x h)

  -- two sorted lists with the same elements are one
  pub sorted_once : (xs ys : List A) → IsRising less xs → IsRising less ys → SameElements xs ys → xs ≡ ys
  sorted_once [] [] s t e = refl
  sorted_once [] (y ∷ ys) s t e = absurd (e.back y (inl refl))
  sorted_once (x ∷ xs) [] s t e = absurd (e.forth x (inl refl))
  sorted_once (x ∷ xs) (y ∷ ys) s t e =
      let h = head_is in
      ap (λ (z : A). z ∷ xs) h ∙ ap (λ (zs : List A). y ∷ zs) (sorted_once xs ys s.1 t.1 (tails h))
    where
      head_is : x ≡ y
      head_is = elim (e.forth x (inl refl)) [
        | inl k ↦ k
        | inr i ↦ elim (e.back y (inl refl)) [ inl k ↦ sym k | inr j ↦ absurd (irreflexive x (trans x y x (s.0 y j) (t.0 x i))) ]
      ]

      tails : x ≡ y → SameElements xs ys
      tails h = record { forth = λ z i. to h z i (e.forth z (inr i)); back = λ z i. from h z i (e.back z (inr i)) }
        where
          to : x ≡ y → (w : A) → IsIn w xs → IsIn w (y ∷ ys) → IsIn w ys
          to k w i (inl l) = absurd (irreflexive x (subst (λ (v : A). less x v ≡ true) (l ∙ sym k) (s.0 w i)))
          to k w i (inr j) = j

          from : x ≡ y → (w : A) → IsIn w ys → IsIn w (x ∷ xs) → IsIn w xs
          from k w i (inl l) = absurd (irreflexive y (subst (λ (v : A). less y v ≡ true) (l ∙ k) (t.0 w i)))
          from k w i (inr j) = j
