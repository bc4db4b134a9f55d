-- The last of some marks by rank, site and number.
use Rattle.std.proofs.Common.{◌≡◌, ◌⊎◌, true, false, List, [], ◌∷◌, Option, Some, None, if◌then◌else◌, inl, inr, refl, ap, sym, ◌∙◌, arith}
use Rattle.std.specs.Prelude.{fold}
use Rattle.std.proofs.lemmas.Bool.{cases_Bool, false_from_ne_true}
use Rattle.std.proofs.lemmas.Bool.Decides.{nat_tests}
use Rattle.ttf_form.specs.Families.{IsIn}
use Rattle.fixed_replay.proofs.CallerLemmas.{not_both}
use Rattle.char_marks.specs.Marks.{MarkData, is_before}
use Rattle.char_marks.specs.Values.{later_of}
use Rattle.char_marks.specs.Laws.{LastMarkIsLast, NoMarkNoLast}

before_next : (m k x : MarkData) → is_before m k ≡ true → is_before k x ≡ true → is_before m x ≡ true
before_next m k x e f = grind (arith, nat_tests)

not_before_next : (m k x : MarkData) → is_before m k ≡ false → is_before k x ≡ false → is_before m x ≡ false
not_before_next m k x e f = grind (arith, nat_tests)

not_itself : (m : MarkData) → is_before m m ≡ false
not_itself m = grind (arith, nat_tests)

-- of two marks the later one is after neither
after_first : (k x : MarkData) → is_before k x ≡ true → later_of (Some k) x ≡ Some x
after_first k x e = ap (λ b. if b then Some x else Some k) e

first_stays : (k x : MarkData) → is_before k x ≡ false → later_of (Some k) x ≡ Some k
first_stays k x e = ap (λ b. if b then Some x else Some k) e

-- what the last one is, of some marks beside the last of those before them
record IsLastFrom (b : Option MarkData) (ms : List MarkData) (m : MarkData) : Type 0 where
  there : IsIn m ms ⊎ (b ≡ Some m)
  last : (k : MarkData) → IsIn k ms → is_before m k ≡ false
  earlier : (k : MarkData) → b ≡ Some k → is_before m k ≡ false

same_some : (m k : MarkData) → ◌≡◌ {A = Option MarkData} (Some m) (Some k) → m ≡ k
same_some m k e = cc

none_some : (m : MarkData) → ◌≡◌ {A = Option MarkData} None (Some m) → ⊥
none_some m e = cc

last_from : (ms : List MarkData) (b : Option MarkData) (m : MarkData) → fold later_of b ms ≡ Some m → IsLastFrom b ms m
last_from [] b m e = record {
  there = inr e;
  last = λ k i. absurd i;
  earlier = λ k f. ap (λ (x : MarkData). is_before m x) (same_some k m (sym f ∙ e)) ∙ not_itself m;
}
last_from (x ∷ xs) None m e =
    let r = last_from xs (Some x) m e in
    record {
      there = inl (elim r.there [ inl i ↦ inr i | inr f ↦ inl (sym (same_some x m f)) ]);
      last = each r;
      earlier = λ k f. absurd (none_some k f);
    }
  where
    each : IsLastFrom (Some x) xs m → (k : MarkData) → IsIn k (x ∷ xs) → is_before m k ≡ false
    each r k (inl f) = ap (λ (z : MarkData). is_before m z) f ∙ r.earlier x refl
    each r k (inr i) = r.last k i
last_from (x ∷ xs) (Some k) m e = elim (cases_Bool (is_before k x)) [
  | inl hit ↦
      let r = last_from xs (Some x) m (ap (λ (b : Option MarkData). fold later_of b xs) (sym (after_first k x hit)) ∙ e) in
      record {
        there = inl (elim r.there [ inl i ↦ inr i | inr f ↦ inl (sym (same_some x m f)) ]);
        last = after r;
        earlier = λ j f.
            let is = same_some k j f in
            false_from_ne_true (is_before m j) (λ g.
            not_both (before_next m k x (ap (λ (z : MarkData). is_before m z) is ∙ g) hit) (r.earlier x refl));
      }
  | inr miss ↦
      let r = last_from xs (Some k) m (ap (λ (b : Option MarkData). fold later_of b xs) (sym (first_stays k x miss)) ∙ e) in
      record {
        there = elim r.there [ inl i ↦ inl (inr i) | inr f ↦ inr f ];
        last = before miss r;
        earlier = r.earlier;
      }
]
  where
    after : IsLastFrom (Some x) xs m → (j : MarkData) → IsIn j (x ∷ xs) → is_before m j ≡ false
    after r j (inl f) = ap (λ (z : MarkData). is_before m z) f ∙ r.earlier x refl
    after r j (inr i) = r.last j i

    before : is_before k x ≡ false → IsLastFrom (Some k) xs m → (j : MarkData) → IsIn j (x ∷ xs) → is_before m j ≡ false
    before miss r j (inl f) = ap (λ (z : MarkData). is_before m z) f ∙ not_before_next m k x (r.earlier k refl) miss
    before miss r j (inr i) = r.last j i

pub last_is_last : LastMarkIsLast
last_is_last ms m e =
    let r = last_from ms None m e in
    record {
      there = elim r.there [ inl i ↦ i | inr f ↦ absurd (none_some m f) ];
      last = r.last;
    }

some_stays : (xs : List MarkData) (k : MarkData) → fold later_of (Some k) xs ≡ None → ⊥
some_stays [] k e = absurd (none_some k (sym e))
some_stays (x ∷ xs) k e = elim (cases_Bool (is_before k x)) [
  | inl hit ↦ some_stays xs x (ap (λ (b : Option MarkData). fold later_of b xs) (sym (after_first k x hit)) ∙ e)
  | inr miss ↦ some_stays xs k (ap (λ (b : Option MarkData). fold later_of b xs) (sym (first_stays k x miss)) ∙ e)
]

pub none_no_last : NoMarkNoLast
none_no_last [] = (λ e. refl, λ e. refl)
none_no_last (m ∷ ms) = (λ e. absurd (some_stays ms m e), λ e. absurd (cc))
