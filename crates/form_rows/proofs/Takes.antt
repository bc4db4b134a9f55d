-- One turn of a walk that takes forms out of a row.
use Rattle.std.proofs.Common.{◌≡◌, ℕ, ◌+◌, ◌<◌, Bool, true, false, inl, inr, List, [], ◌∷◌, ◌++◌, if◌then◌else◌, length, get_or, take, drop, refl, sym, ap, subst, ◌∙◌, append_assoc, append-nil}
use Rattle.std.proofs.lemmas.List.{drop_more, take_more}
use Rattle.ttf_form.specs.Families.{IsIn}
use Rattle.transform_rec.proofs.CallerLemmas.{in_cases}
use Rattle.form_rows.specs.RowSets.{row_after, front_of, taken_out, TakingFits}

module _ {F : Type 0} (over back : F → F → F) (place extent : F → ℕ) (test : F → Bool) (row : List F) (i : ℕ) (f : F) (gs new : List F)
    (less : i < length row) (is : f ≡ get_or row i f) where
  next : drop i row ≡ f ∷ drop (i + 1) row
  next = drop_more row i f less ∙ ap (λ (y : F). y ∷ drop (i + 1) row) (sym is)

  pub taking_moved : test f ≡ true → new ≡ row_after over (front_of back f gs) gs → TakingFits over back place extent test gs (drop i row)
      → TakingFits over back place extent test new (drop (i + 1) row)
  taking_moved h e t =
      subst (λ (l : List F). TakingFits over back place extent test l (drop (i + 1) row)) (sym e)
      ((subst (λ (l : List F). TakingFits over back place extent test gs l) next t).0 h).1

  pub taking_kept : test f ≡ false → new ≡ gs ++ f ∷ [] → TakingFits over back place extent test gs (drop i row)
      → TakingFits over back place extent test new (drop (i + 1) row)
  taking_kept h e t =
      subst (λ (l : List F). TakingFits over back place extent test l (drop (i + 1) row)) (sym e)
      ((subst (λ (l : List F). TakingFits over back place extent test gs l) next t).1 h)

  pub taken_moved : (end : List F) → test f ≡ true → new ≡ row_after over (front_of back f gs) gs
      → taken_out over back test gs (drop i row) ≡ end → taken_out over back test new (drop (i + 1) row) ≡ end
  taken_moved end h e t =
      ap (λ (l : List F). taken_out over back test l (drop (i + 1) row)) e
      ∙ (sym (ap (λ (b : Bool). if b then taken_out over back test (row_after over (front_of back f gs) gs) (drop (i + 1) row)
      else taken_out over back test (gs ++ f ∷ []) (drop (i + 1) row)) h)
      ∙ (sym (ap (taken_out over back test gs) next) ∙ t))

  pub taken_kept : (end : List F) → test f ≡ false → new ≡ gs ++ f ∷ [] → taken_out over back test gs (drop i row) ≡ end
      → taken_out over back test new (drop (i + 1) row) ≡ end
  taken_kept end h e t =
      ap (λ (l : List F). taken_out over back test l (drop (i + 1) row)) e
      ∙ (sym (ap (λ (b : Bool). if b then taken_out over back test (row_after over (front_of back f gs) gs) (drop (i + 1) row)
      else taken_out over back test (gs ++ f ∷ []) (drop (i + 1) row)) h)
      ∙ (sym (ap (taken_out over back test gs) next) ∙ t))

module _ {F : Type 0} (over back : F → F → F) (test : F → Bool) where
  -- nothing is taken out where no form passes the test
  pub taken_none : (gs fs : List F) → ((f : F) → IsIn f fs → test f ≡ false) → taken_out over back test gs fs ≡ gs ++ fs
  taken_none gs [] h = sym (append-nil gs)
  taken_none gs (f ∷ fs) h =
      ap (λ (b : Bool). if b then taken_out over back test (row_after over (front_of back f gs) gs) fs
      else taken_out over back test (gs ++ f ∷ []) fs) (h f (inl refl))
      ∙ (taken_none (gs ++ f ∷ []) fs (λ k i. h k (inr i)) ∙ append_assoc gs (f ∷ []) fs)

-- the forms up to a place, and the one that stands there
pub none_more : {F : Type 0} (test : F → Bool) (row : List F) (i : ℕ) (f : F) → i < length row → f ≡ get_or row i f → test f ≡ false
    → ((k : F) → IsIn k (take i row) → test k ≡ false) → (k : F) → IsIn k (take (i + 1) row) → test k ≡ false
none_more {F} test row i f less is out h k j =
    let e : take (i + 1) row ≡ take i row ++ f ∷ [] = take_more row i f less ∙ ap (λ (y : F). take i row ++ y ∷ []) (sym is) in
    elim (in_cases k (take i row) (f ∷ []) (subst (λ (l : List F). IsIn k l) e j)) [
      | inl a ↦ h k a
      | inr (inl s) ↦ ap test s ∙ out
      | inr (inr a) ↦ absurd a
    ]
