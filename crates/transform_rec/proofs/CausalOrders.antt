-- Which lists of all members are causal: the family's own, and every one that is sorted by an order that base contexts keep.
use Rattle.std.proofs.Common.{◌≡◌, Bool, true, false, List, [], ◌∷◌, ◌⊎◌, inl, inr, refl, sym, subst}
use Rattle.std.proofs.lemmas.Bool.{both_ways, false_from_ne_true}
use Rattle.op_name.specs.declared.member.Member.{Member}
use Rattle.transform_rec.specs.Sets.{none, plus}
use Rattle.ttf_form.specs.Families.{IsIn}
use Rattle.transform_rec.specs.Lists.{AreApart, SameElements}
use Rattle.transform_rec.proofs.Counting.{IsRising}
use Rattle.transform_rec.specs.Family.{Family, IsCausal, IsCausalFamily, IsClosed, IsSound}
use Rattle.transform_rec.specs.Executing.{IsCausalFrom}
use Rattle.transform_rec.proofs.Sets.{plus_here, plus_keeps, plus_lacks}
use Rattle.transform_rec.proofs.Families.{none_closed, closed_plus}

module _ {F : Type 0} (b : Family F) (c : IsCausalFamily b) where
  -- the list has every member that C lacks, once, and no member before one of its base context
  record Remains (C : Member → Bool) (ys : List Member) : Type 0 where
    set : IsClosed b C
    covered : (z : Member) → IsIn z b.members → (C z ≡ true) ⊎ IsIn z ys
    listed : (z : Member) → IsIn z ys → IsIn z b.members
    lacks : (z : Member) → IsIn z ys → C z ≡ false
    apart : AreApart ys
    causal : IsCausal b.context ys

  first_sound : (y : Member) (ys : List Member) (C : Member → Bool) → Remains C (y ∷ ys) → IsSound b y C
  first_sound y ys C r = record {
    listed = r.listed y (inl refl);
    covers = λ z h. elim (r.covered z (c.listed y z (r.listed y (inl refl)) h))
        [ inl a ↦ a | inr i ↦ absurd (both_ways (b.context y z) (r.causal.0 z i) h) ];
    set = r.set;
    lacks = r.lacks y (inl refl);
  }

  remains_run : (ys : List Member) (C : Member → Bool) → Remains C ys → IsCausalFrom b C ys
  remains_run [] C r = tt
  remains_run (y ∷ ys) C r =
      let s = first_sound y ys C r in (
        s,
        remains_run ys (plus C y) (record {
          set = closed_plus b y C s;
          covered =
              λ z i. elim (r.covered z i) [
                | inl a ↦ inl (plus_keeps C y z a)
                | inr (inl e) ↦
                    inl (subst (λ (x : Member). plus C y x ≡ true) (sym e) (plus_here C y))
                | inr (inr j) ↦ inr j
              ];
          listed = λ z i. r.listed z (inr i);
          lacks = λ z i. plus_lacks C y z (r.lacks z (inr i)) (r.apart.0 z i);
          apart = r.apart.1;
          causal = r.causal.1;
        }),
      )

  -- a list of all members, each once, in which no member stands before one of its base context
  pub causal_run : (ys : List Member) → SameElements ys b.members → AreApart ys → IsCausal b.context ys → IsCausalFrom b none ys
  causal_run ys e a k = remains_run ys none (record {
    set = none_closed b;
    covered = λ z i. inr (e.back z i);
    listed = λ z i. e.forth z i;
    lacks = λ z i. refl;
    apart = a;
    causal = k;
  })

  -- the family's own list
  pub book_run : IsCausalFrom b none b.members
  book_run = causal_run b.members (record { forth = λ z i. i; back = λ z i. i }) c.distinct c.causal

  -- ---- sorted lists

  rising_apart : (lt : Member → Member → Bool) → ((x y : Member) → lt x y ≡ true → lt y x ≡ true → ⊥) → (ys : List Member) → IsRising lt ys
      → AreApart ys
  rising_apart lt asym [] r = tt
  rising_apart lt asym (y ∷ ys) r = (
    (λ z i e. let less : lt y y ≡ true = subst (λ (x : Member). lt y x ≡ true) (sym e) (r.0 z i) in asym y y less less),
    rising_apart lt asym ys r.1,
  )

  rising_causal : (lt : Member → Member → Bool) → ((x y : Member) → lt x y ≡ true → lt y x ≡ true → ⊥)
      → ((x y : Member) → IsIn x b.members → b.context x y ≡ true → lt y x ≡ true) → (ys : List Member)
      → ((z : Member) → IsIn z ys → IsIn z b.members) → IsRising lt ys → IsCausal b.context ys
  rising_causal lt asym kept [] l r = tt
  rising_causal lt asym kept (y ∷ ys) l r = (
    (λ z i. false_from_ne_true (b.context y z) (λ h. not_behind y z (kept y z (l y (inl refl)) h) ys r.0 i)),
    rising_causal lt asym kept ys (λ z i. l z (inr i)) r.1,
  )
    where
      not_behind : (v z : Member) → lt z v ≡ true → (zs : List Member) → ((x : Member) → IsIn x zs → lt v x ≡ true) → IsIn z (v ∷ zs) → ⊥
      not_behind v z less zs all (inl e) = let same : lt v v ≡ true = subst (λ (x : Member). lt x v ≡ true) e less in asym v v same same
      not_behind v z less zs all (inr i) = asym v z (all z i) less

  -- a sorted list of all members is causal, if what a member's base context has is less than the member
  pub sorted_run : (lt : Member → Member → Bool) → ((x y : Member) → lt x y ≡ true → lt y x ≡ true → ⊥)
      → ((x y : Member) → IsIn x b.members → b.context x y ≡ true → lt y x ≡ true) → (ys : List Member) → IsRising lt ys
      → SameElements ys b.members → IsCausalFrom b none ys
  sorted_run lt asym kept ys r e = causal_run ys e (rising_apart lt asym ys r) (rising_causal lt asym kept ys (λ z i. e.forth z i) r)
