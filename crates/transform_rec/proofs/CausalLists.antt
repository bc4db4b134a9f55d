-- Lists of members that may be added one after the other.
use Rattle.std.proofs.Common.{◌≡◌, ◌≢◌, Bool, true, false, not, List, [], ◌∷◌, ◌++◌, filter, inl, inr, refl, sym, subst, ◌∙◌}
use Rattle.std.proofs.lemmas.Bool.{cases_Bool, both_ways, and_parts, and_from, and_left, not_from_false, not_from_true, false_from_ne_true}
use Rattle.op_name.specs.declared.member.Member.{Member}
use Rattle.ttf_form.specs.Families.{IsIn}
use Rattle.transform_rec.specs.Sets.{IsSubset, SameSet, plus, meet, plus_all}
use Rattle.transform_rec.specs.Lists.{AreApart}
use Rattle.transform_rec.specs.Family.{Family, IsClosed, IsSound}
use Rattle.transform_rec.specs.Executing.{IsCausalFrom}
use Rattle.transform_rec.proofs.Lists.{filter_keeps, filter_drops}
use Rattle.transform_rec.proofs.Sets.{same_set, same_from, plus_here, plus_keeps, plus_cases, plus_parts, plus_within, plus_both}
use Rattle.transform_rec.proofs.Families.{closed_meet, closed_plus, sound_moves}

module _ {F : Type 0} (b : Family F) where
  pub causal_moves : (C D : Member → Bool) (xs : List Member) → SameSet C D → IsCausalFrom b C xs → IsCausalFrom b D xs
  causal_moves C D xs h r = subst (λ (E : Member → Bool). IsCausalFrom b E xs) (same_set C D h) r

  pub causal-append : (xs ys : List Member) (C : Member → Bool) → IsCausalFrom b C xs → IsCausalFrom b (plus_all C xs) ys
      → IsCausalFrom b C (xs ++ ys)
  causal-append [] ys C r q = q
  causal-append (x ∷ xs) ys C r q = (r.0, causal-append xs ys (plus C x) r.1 q)

  pub causal_parts : (xs ys : List Member) (C : Member → Bool) → IsCausalFrom b C (xs ++ ys)
      → IsCausalFrom b C xs × IsCausalFrom b (plus_all C xs) ys
  causal_parts [] ys C r = (tt, r)
  causal_parts (x ∷ xs) ys C r = let q = causal_parts xs ys (plus C x) r.1 in ((r.0, q.0), q.1)

  -- no member of a causal list is in the set that it starts from
  pub causal_out : (xs : List Member) (C : Member → Bool) (z : Member) → IsCausalFrom b C xs → IsIn z xs → C z ≡ false
  causal_out [] C z r i = absurd i
  causal_out (x ∷ xs) C z r (inl e) = subst (λ (y : Member). C y ≡ false) (sym e) r.0.lacks
  causal_out (x ∷ xs) C z r (inr i) = (plus_parts C x z (causal_out xs (plus C x) z r.1 i)).0

  pub causal_listed : (xs : List Member) (C : Member → Bool) (z : Member) → IsCausalFrom b C xs → IsIn z xs → IsIn z b.members
  causal_listed [] C z r i = absurd i
  causal_listed (x ∷ xs) C z r (inl e) = subst (λ (y : Member). IsIn y b.members) (sym e) r.0.listed
  causal_listed (x ∷ xs) C z r (inr i) = causal_listed xs (plus C x) z r.1 i

  -- no member stands twice in a causal list
  pub causal_apart : (xs : List Member) (C : Member → Bool) → IsCausalFrom b C xs → AreApart xs
  causal_apart [] C r = tt
  causal_apart (x ∷ xs) C r = ((λ z i. (plus_parts C x z (causal_out xs (plus C x) z r.1 i)).1), causal_apart xs (plus C x) r.1)

  pub causal_closed : (xs : List Member) (C : Member → Bool) → IsClosed b C → IsCausalFrom b C xs → IsClosed b (plus_all C xs)
  causal_closed [] C c r = c
  causal_closed (x ∷ xs) C c r = causal_closed xs (plus C x) (closed_plus b x C r.0) r.1

  -- ---- the part of a causal list in a set, and the rest

  -- C and E agree on the part by D, with x in D more
  meet_more : (C E D : Member → Bool) (x : Member) → SameSet E (meet C D) → D x ≡ true → SameSet (plus E x) (meet (plus C x) D)
  meet_more C E D x h d =
      same_from (plus E x) (meet (plus C x) D)
      (plus_within E (meet (plus C x) D) x
      (λ z i. let r = and_parts (C z) (D z) (sym (h z) ∙ i) in and_from (plus C x z) (D z) (plus_keeps C x z r.0) r.1)
      (and_from (plus C x x) (D x) (plus_here C x) d))
      (λ z i. let r = and_parts (plus C x z) (D z) i in
      elim (plus_cases C x z r.0) [
        | inl a ↦ plus_keeps E x z (h z ∙ and_from (C z) (D z) a r.1)
        | inr e ↦
            subst (λ (y : Member). plus E x y ≡ true) e (plus_here E x)
      ])

  meet_stays : (C E D : Member → Bool) (x : Member) → SameSet E (meet C D) → D x ≡ false → SameSet E (meet (plus C x) D)
  meet_stays C E D x h d =
      same_from E (meet (plus C x) D)
      (λ z i. let r = and_parts (C z) (D z) (sym (h z) ∙ i) in and_from (plus C x z) (D z) (plus_keeps C x z r.0) r.1)
      (λ z i. let r = and_parts (plus C x z) (D z) i in
      elim (plus_cases C x z r.0) [
        | inl a ↦ h z ∙ and_from (C z) (D z) a r.1
        | inr e ↦
            absurd (both_ways (D x) d (subst (λ (y : Member). D y ≡ true) (sym e) r.1))
      ])

  -- the members of a causal list that a closed test keeps are a causal list, from the part of the first set
  pub causal_filter : (D : Member → Bool) → ((x : Member) → D x ≡ true → IsSubset (b.context x) D)
      → (xs : List Member) (C E : Member → Bool) → SameSet E (meet C D) → IsCausalFrom b C xs → IsCausalFrom b E (filter D xs)
  causal_filter D closed [] C E h r = tt
  causal_filter D closed (x ∷ xs) C E h r =
      elim (cases_Bool (D x)) [
        | inl d ↦ let sound : IsSound b x (meet C D) = record {
          listed = r.0.listed;
          covers = λ z i. and_from (C z) (D z) (r.0.covers z i) (closed x d z i);
          set = closed_meet b C D r.0.set closed;
          lacks = and_left (C x) (D x) r.0.lacks;
        } in
            subst (λ (l : List Member). IsCausalFrom b E l) (sym (filter_keeps D x xs d)) (
              sound_moves b x (meet C D) E (λ z. sym (h z)) sound,
              causal_filter D closed xs (plus C x) (plus E x) (meet_more C E D x h d) r.1,
            )
        | inr d ↦ subst (λ (l : List Member). IsCausalFrom b E l) (sym (filter_drops D x xs d))
            (causal_filter D closed xs (plus C x) E (meet_stays C E D x h d) r.1)
      ]

  -- from a set within D the part is a causal list from that set itself
  pub causal_part : (D : Member → Bool) → ((x : Member) → D x ≡ true → IsSubset (b.context x) D) → (xs : List Member) (C : Member → Bool)
      → IsSubset C D → IsCausalFrom b C xs → IsCausalFrom b C (filter D xs)
  causal_part D closed xs C h r =
      causal_filter D closed xs C C (same_from C (meet C D) (λ z i. and_from (C z) (D z) i (h z i)) (λ z i. (and_parts (C z) (D z) i).0)) r

  -- the other members of a causal list are a causal list from a closed set that holds the first set and the members left out
  pub causal_rest : (D : Member → Bool) (xs : List Member) (C K : Member → Bool) → IsClosed b K → IsSubset C K
      → ((z : Member) → IsIn z xs → D z ≡ true → K z ≡ true) → ((z : Member) → IsIn z xs → K z ≡ true → D z ≡ true) → IsCausalFrom b C xs
      → IsCausalFrom b K (filter (λ z. not (D z)) xs)
  causal_rest D [] C K k h f g r = tt
  causal_rest D (x ∷ xs) C K k h f g r =
      elim (cases_Bool (D x)) [
        | inl d ↦ subst (λ (l : List Member). IsCausalFrom b K l) (sym (filter_drops (λ z. not (D z)) x xs (not_from_true (D x) d)))
            (causal_rest D xs (plus C x) K k (plus_within C K x h (f x (inl refl) d)) (λ z i e. f z (inr i) e) (λ z i e. g z (inr i) e) r.1)
        | inr d ↦ let sound : IsSound b x K = record {
          listed = r.0.listed;
          covers = λ z i. h z (r.0.covers z i);
          set = k;
          lacks = false_from_ne_true (K x) (λ e. both_ways (D x) d (g x (inl refl) e));
        } in
            let later : (z : Member) → IsIn z xs → x ≢ z = λ z i. (plus_parts C x z (causal_out xs (plus C x) z r.1 i)).1 in
            subst (λ (l : List Member). IsCausalFrom b K l) (sym (filter_keeps (λ z. not (D z)) x xs (not_from_false (D x) d))) (
              sound,
              causal_rest D xs (plus C x) (plus K x) (closed_plus b x K sound) (plus_both C K x h)
                  (λ z i e. plus_keeps K x z (f z (inr i) e))
                  (λ z i e. elim (plus_cases K x z e) [ inl a ↦ g z (inr i) a | inr q ↦ absurd (later z i q) ]) r.1,
            )
      ]
