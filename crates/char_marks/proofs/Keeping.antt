-- Kept marks with one more: which there are, and that names still rise.
use Rattle.std.proofs.Common.{◌≡◌, ◌⊎◌, Bool, true, false, if◌then◌else◌, List, [], ◌∷◌, Option, Some, None, inl, inr, refl, ap, sym, ◌∙◌, subst, arith}
use Rattle.std.proofs.lemmas.Bool.{cases_Bool}
use Rattle.std.proofs.lemmas.Bool.Decides.{nat_tests}
use Rattle.op_name.specs.NameData.{NameData, name_eq, name_lt}
use Rattle.ttf_form.specs.Families.{IsIn}
use Rattle.transform_rec.proofs.CallerLemmas.{IsRising}
use Rattle.char_marks.specs.Marks.{MarkData, KeptData, put_kept, mark_named, AreRising}
use Rattle.char_marks.specs.Values.{marks_of}

-- of different names that aren't before each other the other is
pub name_after : (n m : NameData) → name_eq n m ≡ false → name_lt n m ≡ false → name_lt m n ≡ true
name_after n m e f = grind (arith, nat_tests)

pub name_asym : (n m : NameData) → name_lt n m ≡ true → name_lt m n ≡ false
name_asym n m e = grind (arith, nat_tests)

pub name_trans : (n m k : NameData) → name_lt n m ≡ true → name_lt m k ≡ true → name_lt n k ≡ true
name_trans n m k e f = grind (arith, nat_tests)

-- ---- the elements

pub put_before : (k x : KeptData) (xs : List KeptData) → name_lt x.mark.name k.mark.name ≡ true
    → put_kept k (x ∷ xs) ≡ x ∷ put_kept k xs
put_before k x xs e = ap (λ b. if b then x ∷ put_kept k xs else k ∷ (x ∷ xs)) e

pub put_here : (k x : KeptData) (xs : List KeptData) → name_lt x.mark.name k.mark.name ≡ false
    → put_kept k (x ∷ xs) ≡ k ∷ (x ∷ xs)
put_here k x xs e = ap (λ b. if b then x ∷ put_kept k xs else k ∷ (x ∷ xs)) e

abbrev In : KeptData → List KeptData → Type 0
In x ks = IsIn x ks

pub in_put : (k : KeptData) (ks : List KeptData) (x : KeptData) → IsIn x (put_kept k ks) → (x ≡ k) ⊎ IsIn x ks
in_put k [] x (inl e) = inl e
in_put k [] x (inr i) = absurd i
in_put k (y ∷ ys) x i = elim (cases_Bool (name_lt y.mark.name k.mark.name)) [
  | inl e ↦ later (in_put k ys x) (subst (In x) (put_before k y ys e) i)
  | inr e ↦ here (subst (In x) (put_here k y ys e) i)
]
  where
    later : (IsIn x (put_kept k ys) → (x ≡ k) ⊎ IsIn x ys) → IsIn x (y ∷ put_kept k ys) → (x ≡ k) ⊎ IsIn x (y ∷ ys)
    later f (inl e) = inr (inl e)
    later f (inr j) = elim (f j) [ inl e ↦ inl e | inr l ↦ inr (inr l) ]

    here : IsIn x (k ∷ (y ∷ ys)) → (x ≡ k) ⊎ IsIn x (y ∷ ys)
    here (inl e) = inl e
    here (inr j) = inr j

pub put_new : (k : KeptData) (ks : List KeptData) → IsIn k (put_kept k ks)
put_new k [] = inl refl
put_new k (y ∷ ys) = elim (cases_Bool (name_lt y.mark.name k.mark.name)) [
  | inl e ↦ subst (In k) (sym (put_before k y ys e)) (inr (put_new k ys))
  | inr e ↦ subst (In k) (sym (put_here k y ys e)) (inl refl)
]

pub put_old : (k : KeptData) (ks : List KeptData) (x : KeptData) → IsIn x ks → IsIn x (put_kept k ks)
put_old k [] x i = absurd i
put_old k (y ∷ ys) x i = elim (cases_Bool (name_lt y.mark.name k.mark.name)) [
  | inl e ↦ subst (In x) (sym (put_before k y ys e)) (later (put_old k ys x) i)
  | inr e ↦ subst (In x) (sym (put_here k y ys e)) (inr i)
]
  where
    later : (IsIn x ys → IsIn x (put_kept k ys)) → IsIn x (y ∷ ys) → IsIn x (y ∷ put_kept k ys)
    later f (inl e) = inl e
    later f (inr j) = inr (f j)

-- ---- names rise

-- where none of the name is kept, neither the first is of it, nor a later one
pub not_first : (k : KeptData) (ks : List KeptData) (n : NameData) → mark_named (k ∷ ks) n ≡ None
    → (name_eq k.mark.name n ≡ false) × (mark_named ks n ≡ None)
not_first k ks n e = elim (cases_Bool (name_eq k.mark.name n)) [
  | inl hit ↦
      let some : ◌≡◌ {A = Option MarkData} (Some k.mark) None =
      sym (ap (λ b. if b then Some k.mark else mark_named ks n) hit) ∙ e in
      absurd (cc)
  | inr miss ↦ (miss, sym (ap (λ b. if b then Some k.mark else mark_named ks n) miss) ∙ e)
]

pub rising_put : (k : KeptData) (ks : List KeptData) → AreRising ks → mark_named ks k.mark.name ≡ None → AreRising (put_kept k ks)
rising_put k [] r none = (λ z i. absurd i, tt)
rising_put k (x ∷ xs) r none =
    let other = not_first x xs k.mark.name none in
    elim (cases_Bool (name_lt x.mark.name k.mark.name)) [
      | inl e ↦ subst AreRising (sym (put_before k x xs e)) (before e, rising_put k xs r.1 other.1)
      | inr e ↦ subst AreRising (sym (put_here k x xs e)) (behind (name_after x.mark.name k.mark.name other.0 e), r)
    ]
  where
    before : name_lt x.mark.name k.mark.name ≡ true → (z : KeptData) → IsIn z (put_kept k xs) → name_lt x.mark.name z.mark.name ≡ true
    before e z i = elim (in_put k xs z i) [
      | inl is ↦ ap (λ (y : KeptData). name_lt x.mark.name y.mark.name) is ∙ e
      | inr j ↦ r.0 z j
    ]

    behind : name_lt k.mark.name x.mark.name ≡ true → (z : KeptData) → IsIn z (x ∷ xs) → name_lt k.mark.name z.mark.name ≡ true
    behind e z (inl is) = ap (λ (y : KeptData). name_lt k.mark.name y.mark.name) is ∙ e
    behind e z (inr j) = name_trans k.mark.name x.mark.name z.mark.name e (r.0 z j)

-- ---- marks without their end cells

abbrev pub is_less : MarkData → MarkData → Bool
is_less m k = name_lt m.name k.name

pub mark_in : (k : KeptData) (ks : List KeptData) → IsIn k ks → IsIn k.mark (marks_of ks)
mark_in k [] i = absurd i
mark_in k (x ∷ xs) (inl e) = inl (ap (λ (y : KeptData). y.mark) e)
mark_in k (x ∷ xs) (inr i) = inr (mark_in k xs i)

pub kept_of : (m : MarkData) (ks : List KeptData) → IsIn m (marks_of ks) → (k : KeptData) × IsIn k ks × (k.mark ≡ m)
kept_of m [] i = absurd i
kept_of m (x ∷ xs) (inl e) = (x, inl refl, sym e)
kept_of m (x ∷ xs) (inr i) = let r = kept_of m xs i in (r.0, inr r.1, r.2)

pub marks_rise : (ks : List KeptData) → AreRising ks → IsRising is_less (marks_of ks)
marks_rise [] r = tt
marks_rise (k ∷ ks) r = (later, marks_rise ks r.1)
  where
    later : (m : MarkData) → IsIn m (marks_of ks) → is_less k.mark m ≡ true
    later m i = let f = kept_of m ks i in ap (λ (y : MarkData). is_less k.mark y) (sym f.2) ∙ r.0 f.0 f.1
