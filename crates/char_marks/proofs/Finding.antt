-- Where kept marks stand by their names.
use Rattle.std.proofs.Common.{◌≡◌, ℕ, zero, suc, ◌+◌, ◌<◌, ◌≤◌, true, false, if◌then◌else◌, List, [], ◌∷◌, Some, None, length, get_or, option_map, slice_get, inl, inr, refl, ap, sym, ◌∙◌, arith}
use Rattle.std.specs.List.{insert}
use Rattle.std.proofs.lemmas.Bool.{cases_lt, false_from_ne_true}
use Rattle.std.proofs.lemmas.Bool.Decides.{nat_tests}
use Rattle.op_name.specs.NameData.{NameData, name_eq, name_lt}
use Rattle.op_name.proofs.CallerLemmas.{name_itself}
use Rattle.ttf_form.specs.Families.{IsIn}
use Rattle.fixed_replay.proofs.CallerLemmas.{not_both}
use Rattle.char_marks.specs.Marks.{KeptData, put_kept, mark_named, AreRising}
use Rattle.char_marks.specs.Code.Kept.{GoesTo, IsWhere, name_at}
use Rattle.char_marks.proofs.Keeping.{name_after, name_trans, put_before, put_here}

-- ---- bisection

-- those before a place have lesser names, those from a place on haven't
abbrev pub AllBefore : List KeptData → NameData → ℕ → Type 0
AllBefore ks n low = (j : ℕ) (d : KeptData) → j < low → name_lt (name_at ks j d) n ≡ true

abbrev pub NoneAfter : List KeptData → NameData → ℕ → Type 0
NoneAfter ks n high = (j : ℕ) (d : KeptData) → high ≤ j → j < length ks → name_lt (name_at ks j d) n ≡ false

pub in_at : (ks : List KeptData) (j : ℕ) (d : KeptData) → j < length ks → IsIn (get_or ks j d) ks
in_at [] j d lt = absurd (omega (arith, lt))
in_at (k ∷ ks) zero d lt = inl refl
in_at (k ∷ ks) (suc j) d lt = inr (in_at ks j d (omega (arith, lt)))

-- names rise with places
pub rising_at : (ks : List KeptData) → AreRising ks → (i j : ℕ) (d : KeptData) → i < j → j < length ks
    → name_lt (name_at ks i d) (name_at ks j d) ≡ true
rising_at [] r i j d lt within = absurd (omega (arith, within))
rising_at (k ∷ ks) r i zero d lt within = absurd (omega (arith, lt))
rising_at (k ∷ ks) r zero (suc j) d lt within = r.0 (get_or ks j d) (in_at ks j d (omega (arith, within)))
rising_at (k ∷ ks) r (suc i) (suc j) d lt within = rising_at ks r.1 i j d (omega (arith, lt)) (omega (arith, within))

pub lower_half : (ks : List KeptData) (n : NameData) (low middle : ℕ) (m : NameData) → AreRising ks → middle < length ks
    → ((d : KeptData) → m ≡ name_at ks middle d) → name_lt m n ≡ true
    → AllBefore ks n (middle + 1)
lower_half ks n low middle m r within is lt j d less = elim (cases_lt j middle) [
  | inl before ↦ name_trans (name_at ks j d) (name_at ks middle d) n (rising_at ks r j middle d before within)
      (ap (λ (x : NameData). name_lt x n) (sym (is d)) ∙ lt)
  | inr past ↦
      let same : middle ≡ j = omega (arith, past, less) in
      ap (λ (i : ℕ). name_lt (name_at ks i d) n) (sym same) ∙ (ap (λ (x : NameData). name_lt x n) (sym (is d)) ∙ lt)
]

pub upper_half : (ks : List KeptData) (n : NameData) (middle : ℕ) (m : NameData) → AreRising ks → middle < length ks
    → ((d : KeptData) → m ≡ name_at ks middle d) → name_lt m n ≡ false
    → NoneAfter ks n middle
upper_half ks n middle m r within is miss j d le inside = elim (cases_lt middle j) [
  | inl after ↦ false_from_ne_true (name_lt (name_at ks j d) n) (λ lt.
      not_both
      (ap (λ (x : NameData). name_lt x n) (is d)
      ∙ name_trans (name_at ks middle d) (name_at ks j d) n (rising_at ks r middle j d after inside) lt) miss)
  | inr past ↦
      let same : middle ≡ j = omega (arith, past, le) in
      ap (λ (i : ℕ). name_lt (name_at ks i d) n) (sym same) ∙ (ap (λ (x : NameData). name_lt x n) (sym (is d)) ∙ miss)
]

pub goes_to : (ks : List KeptData) (n : NameData) (i : ℕ) → i ≤ length ks → AllBefore ks n i → NoneAfter ks n i → GoesTo ks n i
goes_to [] n i le before after = omega (arith, le)
goes_to (k ∷ ks) n zero le before after = after 0 k (omega arith) (omega arith)
goes_to (k ∷ ks) n (suc i) le before after = (
  before 0 k (omega arith),
  goes_to ks n i (omega (arith, le)) (λ j d lt. before (suc j) d (omega (arith, lt)))
      (λ j d low within. after (suc j) d (omega (arith, low)) (omega (arith, within))),
)

-- ---- what stands there

named_here : (k : KeptData) (ks : List KeptData) (n : NameData) → name_eq k.mark.name n ≡ true → mark_named (k ∷ ks) n ≡ Some k.mark
named_here k ks n e = ap (λ b. if b then Some k.mark else mark_named ks n) e

named_later : (k : KeptData) (ks : List KeptData) (n : NameData) → name_eq k.mark.name n ≡ false → mark_named (k ∷ ks) n ≡ mark_named ks n
named_later k ks n e = ap (λ b. if b then Some k.mark else mark_named ks n) e

lesser_other : (m n : NameData) → name_lt m n ≡ true → name_eq m n ≡ false
lesser_other m n e = grind (arith, nat_tests)

greater_other : (m n : NameData) → name_lt n m ≡ true → name_eq m n ≡ false
greater_other m n e = grind (arith, nat_tests)

-- none of greater names has the name
none_greater : (ks : List KeptData) (n : NameData) → ((x : KeptData) → IsIn x ks → name_lt n x.mark.name ≡ true) → mark_named ks n ≡ None
none_greater [] n all = refl
none_greater (k ∷ ks) n all =
    named_later k ks n (greater_other k.mark.name n (all k (inl refl))) ∙ none_greater ks n (λ x i. all x (inr i))

pub where_named : (ks : List KeptData) (n : NameData) (i : ℕ) → GoesTo ks n i → (m : NameData) → i < length ks
    → ((d : KeptData) → m ≡ name_at ks i d) → m ≡ n
    → IsWhere ks n i
where_named ks n i goes m within is same = record { within = within; mark = at ks i goes within (λ d. sym (is d) ∙ same) }
  where
    at : (ls : List KeptData) (j : ℕ) → GoesTo ls n j → j < length ls → ((d : KeptData) → name_at ls j d ≡ n)
        → option_map (λ (k : KeptData). k.mark) (slice_get ls j) ≡ mark_named ls n
    at [] j g lt e = absurd (omega (arith, lt))
    at (k ∷ ls) zero g lt e = sym (named_here k ls n (ap (λ (x : NameData). name_eq x n) (e k) ∙ name_itself n))
    at (k ∷ ls) (suc j) g lt e =
        at ls j g.1 (omega (arith, lt)) e ∙ sym (named_later k ls n (lesser_other k.mark.name n g.0))

-- where another name stands, or none, none is kept
pub none_named : (ks : List KeptData) (n : NameData) (i : ℕ) → AreRising ks → GoesTo ks n i
    → (i < length ks → (d : KeptData) → name_eq (name_at ks i d) n ≡ false)
    → mark_named ks n ≡ None
none_named [] n i r goes other = refl
none_named (k ∷ ks) n zero r goes other =
    let first = other (omega arith) k in
    let after = name_after k.mark.name n first goes in
    none_greater (k ∷ ks) n (each after)
  where
    each : name_lt n k.mark.name ≡ true → (x : KeptData) → IsIn x (k ∷ ks) → name_lt n x.mark.name ≡ true
    each after x (inl e) = ap (λ (y : KeptData). name_lt n y.mark.name) e ∙ after
    each after x (inr j) = name_trans n k.mark.name x.mark.name after (r.0 x j)
none_named (k ∷ ks) n (suc i) r goes other =
    named_later k ks n (lesser_other k.mark.name n goes.0)
    ∙ none_named ks n i r.1 goes.1 (λ lt d. other (omega (arith, lt)) d)

-- a mark goes to its place by name
pub put_there : (k : KeptData) (ks : List KeptData) (i : ℕ) → GoesTo ks k.mark.name i → insert ks i k ≡ put_kept k ks
put_there k [] i goes = ap (λ (j : ℕ). insert [] j k) goes
put_there k (x ∷ xs) zero goes = sym (put_here k x xs goes)
put_there k (x ∷ xs) (suc i) goes = ap (λ (l : List KeptData). x ∷ l) (put_there k xs i goes.1) ∙ sym (put_before k x xs goes.0)

pub place_within : (ks : List KeptData) (n : NameData) (i : ℕ) → GoesTo ks n i → i ≤ length ks
place_within [] n i goes = omega (arith, goes)
place_within (k ∷ ks) n zero goes = omega arith
place_within (k ∷ ks) n (suc i) goes = omega (arith, place_within ks n i goes.1)
