-- Elements that pass two tests which exclude each other, where none stands twice; and the law of what is told.
use Rattle.std.proofs.Common.{◌≡◌, ℕ, zero, suc, ◌<◌, ◌≤◌, Bool, true, false, not, ◌&&◌, cond, List, [], ◌∷◌, Contains, length, filter, get_or, inl, inr, refl, sym, subst, arith}
use Rattle.op_name.specs.Lists.{IsIn}
use Rattle.change_list.specs.Changes.{end_of, AreChanges}
use Rattle.change_list.specs.Told.{Marked, elements, before, after, told}
use Rattle.change_list.specs.Laws.{AreApart}
use Rattle.change_list.proofs.Numbers.{each_all, parted_adjacent}
use Rattle.change_list.proofs.Told.{came_in, taken_away, told_within, told_leads, IsSome, told_some, told_parted}

contained : {A : Type 0} (xs : List A) (x : A) (k : ℕ) → k < length xs → get_or xs k x ≡ x → IsIn x xs
contained [] x k lt e = absurd (omega (arith, lt))
contained (y ∷ xs) x zero lt e = inl (sym e)
contained (y ∷ xs) x (suc k) lt e = inr (contained xs x k (omega (arith, lt)) e)

-- an element that passes is an element
passed_in : {A : Type 0} (p : Marked A → Bool) (ms : List (Marked A)) (x : A) → IsIn x (elements (filter p ms)) → IsIn x (elements ms)
passed_in p [] x i = i
passed_in p (m ∷ ms) x i = by (passed_in p ms x) (p m) i
  where
    by : (IsIn x (elements (filter p ms)) → IsIn x (elements ms)) → (b : Bool)
        → IsIn x (elements (cond b (m ∷ filter p ms) (filter p ms))) → IsIn x (elements (m ∷ ms))
    by rest true j = elim j [ inl e ↦ inl e | inr k ↦ inr (rest k) ]
    by rest false j = inr (rest j)

-- no element passes both tests
not_both : {A : Type 0} (p q : Marked A → Bool) → ((m : Marked A) → p m ≡ true → q m ≡ true → ⊥) → (ms : List (Marked A)) (x : A)
    → AreApart (elements ms) → IsIn x (elements (filter p ms)) → IsIn x (elements (filter q ms)) → ⊥
not_both p q apart [] x once i j = i
not_both {A} p q apart (m ∷ ms) x once i j = by (not_both p q apart ms x once.1) (p m) (q m) refl refl i j
  where
    first : (r : Marked A → Bool) → x ≡ m.it → IsIn x (elements (filter r ms)) → ⊥
    first r e k = once.0 x (passed_in r ms x k) (sym e)

    by : (IsIn x (elements (filter p ms)) → IsIn x (elements (filter q ms)) → ⊥) → (b c : Bool) → p m ≡ b → q m ≡ c
        → IsIn x (elements (cond b (m ∷ filter p ms) (filter p ms))) → IsIn x (elements (cond c (m ∷ filter q ms) (filter q ms))) → ⊥
    by rest true true e f k l = apart m e f
    by rest true false e f k l = elim k [ inl is ↦ first q is l | inr n ↦ rest n l ]
    by rest false true e f k l = elim l [ inl is ↦ first p is k | inr n ↦ rest k n ]
    by rest false false e f k l = rest k l

-- what came in was not shown, and what was taken away is not shown
came_not_was : (was is : Bool) → (is && not was) ≡ true → was ≡ true → ⊥
came_not_was true true e f = cc
came_not_was true false e f = cc
came_not_was false is e f = cc

gone_not_is : (was is : Bool) → (was && not is) ≡ true → is ≡ true → ⊥
gone_not_is was true e f = came_not_was true was e refl
gone_not_is was false e f = cc

-- the law
pub are_changes : {A : Type 0} (ms : List (Marked A)) → AreApart (elements ms) → AreChanges (told ms) (before ms) (after ms)
are_changes {A} ms once =
    let leads = told_leads ms in
    record {
      fits = leads.fits;
      makes = leads.makes;
      within = each_all (λ c. end_of c ≤ length (after ms)) (told ms) (told_within ms);
      new = λ x c d.
          let e = subst (λ (xs : List A). Contains xs x) leads.lets c in
          not_both (λ m. m.is && not m.was) (λ m. m.was) (λ m. came_not_was m.was m.is) ms x once
          (contained (came_in ms) x e.0 e.1 e.2) (contained (before ms) x d.0 d.1 d.2);
      gone = λ x c d.
          let e = subst (λ (xs : List A). Contains xs x) leads.takes c in
          not_both (λ m. m.was && not m.is) (λ m. m.is) (λ m. gone_not_is m.was m.is) ms x once
          (contained (taken_away ms) x e.0 e.1 e.2) (contained (after ms) x d.0 d.1 d.2);
      some = each_all IsSome (told ms) (told_some ms);
      apart = parted_adjacent (told ms) (told_parted ms);
    }
