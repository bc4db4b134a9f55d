-- Where a member may be added to a set, and which member may be taken out of one.
use Rattle.std.proofs.Common.{◌≡◌, ◌≢◌, ◌+◌, Bool, true, false, not, ◌&&◌, List, [], ◌∷◌, ◌++◌, inl, inr, refl, sym, subst}
use Rattle.std.proofs.lemmas.Bool.{cases_Bool, both_ways, and_parts, and_from, not-true, not_from_false, false_from_ne_true}
use Rattle.op_name.specs.declared.member.Member.{Member}
use Rattle.transform_rec.specs.Sets.{none, IsSubset, SameSet, plus, minus, meet}
use Rattle.ttf_form.specs.Families.{IsIn}
use Rattle.transform_rec.specs.Family.{Family, IsCausal, IsCausalFamily, IsClosed, IsSound, size}
use Rattle.transform_rec.proofs.Lists.{LastOf, in_cases}
use Rattle.transform_rec.proofs.Sets.{same_set, same_from, lacks_from, plus_keeps, plus_cases, plus_lacks, plus_parts, minus_parts, minus_from, minus_lacks, minus_here, minus_plus, sum_plus}

-- ---- lists in causal order

pub causal_self : (context : Member → Member → Bool) (xs : List Member) (m : Member) → IsCausal context xs → IsIn m xs → context m m ≡ false
causal_self context [] m c i = absurd i
causal_self context (y ∷ ys) m c (inl e) = subst (λ (z : Member). context z z ≡ false) (sym e) (c.0 y (inl refl))
causal_self context (y ∷ ys) m c (inr i) = causal_self context ys m c.1 i

-- a member before x doesn't have x in its context
pub causal_before : (context : Member → Member → Bool) (before : List Member) (x : Member) (after : List Member) (y : Member)
    → IsCausal context (before ++ (x ∷ after)) → IsIn y before → context y x ≡ false
causal_before context [] x after y c i = absurd i
causal_before context (w ∷ before) x after y c (inl e) = subst (λ (z : Member). context z x ≡ false) (sym e) (c.0 x (inr (here before)))
  where
    here : (xs : List Member) → IsIn x (xs ++ (x ∷ after))
    here [] = inl refl
    here (z ∷ zs) = inr (here zs)
causal_before context (w ∷ before) x after y c (inr i) = causal_before context before x after y c.1 i

module _ {F : Type 0} (b : Family F) where
  -- ---- closed sets

  pub none_closed : IsClosed b none
  none_closed = record { listed = λ x h. absurd (both_ways false refl h); closed = λ x h. absurd (both_ways false refl h) }

  pub closed_moves : (C D : Member → Bool) → SameSet C D → IsClosed b C → IsClosed b D
  closed_moves C D h s = subst (λ (E : Member → Bool). IsClosed b E) (same_set C D h) s

  pub sound_moves : (m : Member) (C D : Member → Bool) → SameSet C D → IsSound b m C → IsSound b m D
  sound_moves m C D h s = subst (λ (E : Member → Bool). IsSound b m E) (same_set C D h) s

  pub closed_plus : (x : Member) (D : Member → Bool) → IsSound b x D → IsClosed b (plus D x)
  closed_plus x D s = record {
    listed = λ y h. elim (plus_cases D x y h) [ inl a ↦ s.set.listed y a | inr e ↦ subst (λ (z : Member). IsIn z b.members) e s.listed ];
    closed = λ y h z k. plus_keeps D x z
        (elim (plus_cases D x y h) [
          | inl a ↦ s.set.closed y a z k
          | inr e ↦
              s.covers z (subst (λ (w : Member). b.context w z ≡ true) (sym e) k)
        ]);
  }

  pub closed_meet : (C D : Member → Bool) → IsClosed b C → ((x : Member) → D x ≡ true → IsSubset (b.context x) D) → IsClosed b (meet C D)
  closed_meet C D s h = record {
    listed = λ x i. s.listed x (and_parts (C x) (D x) i).0;
    closed = λ x i z k. let r = and_parts (C x) (D x) i in and_from (C z) (D z) (s.closed x r.0 z k) (h x r.1 z k);
  }

  -- ---- members that may be added

  -- two members that may each be added may both be added
  pub sound_plus : (m x : Member) (D : Member → Bool) → IsSound b m D → IsSound b x D → m ≢ x → IsSound b m (plus D x)
  sound_plus m x D sm sx ne = record {
    listed = sm.listed;
    covers = λ z h. plus_keeps D x z (sm.covers z h);
    set = closed_plus x D sx;
    lacks = plus_lacks D x m sm.lacks (λ e. ne (sym e));
  }

  -- neither of two members that may each be added is in the other's base context
  pub sound_unrelated : (m x : Member) (D : Member → Bool) → IsSound b m D → IsSound b x D → b.context m x ≡ false
  sound_unrelated m x D sm sx = lacks_from (b.context m) D x sm.covers sx.lacks

  -- a member that may be added to a greater set may be added to a closed set with its base context
  pub sound_less : (x a : Member) (C : Member → Bool) → IsSound b x (plus C a) → IsClosed b C → IsSubset (b.context x) C → IsSound b x C
  sound_less x a C s c h = record { listed = s.listed; covers = h; set = c; lacks = (plus_parts C a x s.lacks).0 }

  -- ---- sizes and weights

  pub size_plus : IsCausalFamily b → (x : Member) (C : Member → Bool) → IsIn x b.members → C x ≡ false → size b (plus C x) ≡ size b C + 1
  size_plus c x C i l = sum_plus C x (λ y. 1) b.members c.distinct i l

  -- ---- members that may be taken out

  pub base_sound : IsCausalFamily b → (m : Member) → IsIn m b.members → IsSound b m (b.context m)
  base_sound c m i = record {
    listed = i;
    covers = λ z h. h;
    set = record { listed = λ x h. c.listed m x i h; closed = λ x h. c.closed m x i h };
    lacks = causal_self b.context b.members m c.causal i;
  }

  -- the last member of the difference, with what is known of its place in the list
  free_at : (c : IsCausalFamily b) (m : Member) (C : Member → Bool) → IsSound b m C
      → (l : LastOf (λ y. C y && not (b.context m y)) b.members) → IsClosed b (minus C l.it)
  free_at c m C s l =
      let x = l.it in
      let r = and_parts (C x) (not (b.context m x)) l.passes in
      let out : b.context m x ≡ false = not-true (b.context m x) r.1 in
      record {
        listed = λ y h. s.set.listed y (minus_parts C x y h).0;
        closed = λ y h z k.
            let p = minus_parts C x y h in
            let i = s.set.listed y p.0 in
            let apart : x ≢ z = λ (e : x ≡ z).
            let back : b.context y x ≡ true = subst (λ (w : Member). b.context y w ≡ true) (sym e) k in
            let unseen : b.context m y ≡ false =
            false_from_ne_true (b.context m y) (λ t. both_ways (b.context m x) out (c.closed m y s.listed t x back)) in
            let passes : (C y && not (b.context m y)) ≡ true =
            and_from (C y) (not (b.context m y)) p.0 (not_from_false (b.context m y) unseen) in
            elim (in_cases y l.before (x ∷ l.after) (subst (λ (ys : List Member). IsIn y ys) l.whole i)) [
              | inl j ↦ both_ways (b.context y x)
                  (causal_before b.context l.before x l.after y (subst (λ (ys : List Member). IsCausal b.context ys) l.whole c.causal) j)
                  back
              | inr (inl e2) ↦ p.1 (sym e2)
              | inr (inr j) ↦ both_ways (C y && not (b.context m y)) (l.rest y j) passes
            ] in
            minus_from C x z (s.set.closed y p.0 z k) apart;
      }

  -- m may be added to what is left of C without the last member of the difference, and so may that member
  pub mine_without : (c : IsCausalFamily b) (m : Member) (C : Member → Bool) → IsSound b m C
      → (l : LastOf (λ y. C y && not (b.context m y)) b.members) → IsSound b m (minus C l.it)
  mine_without c m C s l =
      let x = l.it in
      let out : b.context m x ≡ false = not-true (b.context m x) (and_parts (C x) (not (b.context m x)) l.passes).1 in
      record {
        listed = s.listed;
        covers =
            λ z h. minus_from C x z (s.covers z h) (λ e. both_ways (b.context m z) (subst (λ (y : Member). b.context m y ≡ false) e out) h);
        set = free_at c m C s l;
        lacks = minus_lacks C x m s.lacks;
      }

  pub its_without : (c : IsCausalFamily b) (m : Member) (C : Member → Bool) → IsSound b m C
      → (l : LastOf (λ y. C y && not (b.context m y)) b.members) → IsSound b l.it (minus C l.it)
  its_without c m C s l =
      let x = l.it in
      let there = (and_parts (C x) (not (b.context m x)) l.passes).0 in
      let i = s.set.listed x there in
      record {
        listed = i;
        covers = λ z h.
            minus_from C x z (s.set.closed x there z h)
            (λ e. both_ways (b.context x x) (causal_self b.context b.members x c.causal i)
            (subst (λ (y : Member). b.context x y ≡ true) (sym e) h));
        set = free_at c m C s l;
        lacks = minus_here C x;
      }

  -- a set that m may be added to and that has no member outside of m's base context is that base context
  pub base_alone : (m : Member) (C : Member → Bool) → IsSound b m C
      → ((z : Member) → IsIn z b.members → (C z && not (b.context m z)) ≡ false) → SameSet C (b.context m)
  base_alone m C s n =
      same_from C (b.context m) (λ z h.
      elim (cases_Bool (b.context m z)) [
        | inl e ↦ e
        | inr e ↦ absurd (both_ways (C z && not (b.context m z)) (n z (s.set.listed z h))
            (and_from (C z) (not (b.context m z)) h (not_from_false (b.context m z) e)))
      ]) s.covers

  -- the last member of the difference is another one than m, and C is what is left without it, with it
  pub last_other : (m : Member) (C : Member → Bool) → IsSound b m C → (l : LastOf (λ y. C y && not (b.context m y)) b.members) → m ≢ l.it
  last_other m C s l =
      let there = (and_parts (C l.it) (not (b.context m l.it)) l.passes).0 in
      λ e. both_ways (C m) s.lacks (subst (λ (y : Member). C y ≡ true) (sym e) there)

  pub last_whole : (m : Member) (C : Member → Bool) → (l : LastOf (λ y. C y && not (b.context m y)) b.members)
      → SameSet C (plus (minus C l.it) l.it)
  last_whole m C l = minus_plus C l.it (and_parts (C l.it) (not (b.context m l.it)) l.passes).0
