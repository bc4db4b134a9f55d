-- Facts on lists: what is in them, filters, sums and counts.
use Rattle.std.proofs.Common.{◌≡◌, ◌≢◌, ℕ, ◌+◌, ◌≤◌, Bool, true, false, cond, ◌||◌, List, [], ◌∷◌, ◌++◌, length, take, drop, filter, if◌then◌else◌, ◌⊎◌, inl, inr, refl, sym, ap, ap₂, subst, ◌∙◌, arith, take-append-drop, length-append}
use Rattle.std.proofs.lemmas.Bool.{cases_Bool, both_ways, or_right, or_left}
use Rattle.ttf_form.specs.Families.{IsIn, sum_where, total_by}
use Rattle.transform_rec.proofs.Counting.{count, either, EachAt}

-- ---- what is in a list

pub each_cons : {A : Type 0} (P : A → Type 0) (x : A) (xs : List A) → P x → ((z : A) → IsIn z xs → P z) → (z : A) → IsIn z (x ∷ xs) → P z
each_cons P x xs here there z (inl e) = subst P (sym e) here
each_cons P x xs here there z (inr i) = there z i

pub in_left : {A : Type 0} (z : A) (xs ys : List A) → IsIn z xs → IsIn z (xs ++ ys)
in_left z [] ys i = absurd i
in_left z (x ∷ xs) ys (inl e) = inl e
in_left z (x ∷ xs) ys (inr i) = inr (in_left z xs ys i)

pub in_right : {A : Type 0} (z : A) (xs ys : List A) → IsIn z ys → IsIn z (xs ++ ys)
in_right z [] ys i = i
in_right z (x ∷ xs) ys i = inr (in_right z xs ys i)

pub in_cases : {A : Type 0} (z : A) (xs ys : List A) → IsIn z (xs ++ ys) → IsIn z xs ⊎ IsIn z ys
in_cases z [] ys i = inr i
in_cases z (x ∷ xs) ys (inl e) = inl (inl e)
in_cases z (x ∷ xs) ys (inr i) = elim (in_cases z xs ys i) [ inl j ↦ inl (inr j) | inr j ↦ inr j ]

-- an element of xs ++ x ∷ ys other than x is in xs or in ys
pub in_around : {A : Type 0} (z x : A) (xs ys : List A) → x ≢ z → IsIn z (xs ++ (x ∷ ys)) → IsIn z (xs ++ ys)
in_around z x [] ys ne (inl e) = absurd (ne (sym e))
in_around z x [] ys ne (inr i) = i
in_around z x (w ∷ xs) ys ne (inl e) = inl e
in_around z x (w ∷ xs) ys ne (inr i) = inr (in_around z x xs ys ne i)

pub in_without : {A : Type 0} (z x : A) (xs ys : List A) → IsIn z (xs ++ ys) → IsIn z (xs ++ (x ∷ ys))
in_without z x [] ys i = inr i
in_without z x (w ∷ xs) ys (inl e) = inl e
in_without z x (w ∷ xs) ys (inr i) = inr (in_without z x xs ys i)

pub in_middle : {A : Type 0} (x : A) (xs ys : List A) → IsIn x (xs ++ (x ∷ ys))
in_middle x xs ys = in_right x xs (x ∷ ys) (inl refl)

-- a list as what stands before one of its elements, the element, and what stands after it
pub record Around {A : Type 0} (x : A) (xs : List A) : Type 0 where
  pub before : List A
  pub after : List A
  pub whole : xs ≡ before ++ (x ∷ after)

pub around : {A : Type 0} (x : A) (xs : List A) → IsIn x xs → Around x xs
around x [] i = absurd i
around x (y ∷ ys) (inl e) = record { before = []; after = ys; whole = ap (λ z. z ∷ ys) (sym e) }
around x (y ∷ ys) (inr i) =
    let r = around x ys i in
    record { before = y ∷ r.before; after = r.after; whole = ap (λ zs. y ∷ zs) r.whole }

-- a list as what stands before the last element that passes a test, that element, and what stands after it
pub record LastOf {A : Type 0} (p : A → Bool) (xs : List A) : Type 0 where
  pub it : A
  pub before : List A
  pub after : List A
  pub whole : xs ≡ before ++ (it ∷ after)
  pub passes : p it ≡ true
  pub rest : (z : A) → IsIn z after → p z ≡ false

last_by : {A : Type 0} (p : A → Bool) (x : A) (xs : List A) → ((z : A) → IsIn z xs → p z ≡ false) ⊎ LastOf p xs
    → (p x ≡ true) ⊎ (p x ≡ false) → ((z : A) → IsIn z (x ∷ xs) → p z ≡ false) ⊎ LastOf p (x ∷ xs)
last_by p x xs (inr l) c =
    inr (record { it = l.it; before = x ∷ l.before; after = l.after; whole = ap (λ ys. x ∷ ys) l.whole; passes = l.passes; rest = l.rest })
last_by p x xs (inl n) (inl e) = inr (record { it = x; before = []; after = xs; whole = refl; passes = e; rest = n })
last_by {A} p x xs (inl n) (inr e) = inl (each_cons (λ (z : A). p z ≡ false) x xs e n)

pub last_of : {A : Type 0} (p : A → Bool) (xs : List A) → ((z : A) → IsIn z xs → p z ≡ false) ⊎ LastOf p xs
last_of p [] = inl (λ z i. absurd i)
last_of p (x ∷ xs) = last_by p x xs (last_of p xs) (cases_Bool (p x))

-- ---- filters

pub filter-append : {A : Type 0} (p : A → Bool) (xs ys : List A) → filter p (xs ++ ys) ≡ filter p xs ++ filter p ys
filter-append p [] ys = refl
filter-append p (x ∷ xs) ys = elim (cases_Bool (p x)) [ inl h ↦ rw (h, filter-append p xs ys) | inr h ↦ rw (h, filter-append p xs ys) ]

filter_true : {A : Type 0} (p : A → Bool) (x : A) (xs : List A) → p x ≡ true → filter p (x ∷ xs) ≡ x ∷ filter p xs
filter_true p x xs h = ap (λ b. cond b (x ∷ filter p xs) (filter p xs)) h

filter_false : {A : Type 0} (p : A → Bool) (x : A) (xs : List A) → p x ≡ false → filter p (x ∷ xs) ≡ filter p xs
filter_false p x xs h = ap (λ b. cond b (x ∷ filter p xs) (filter p xs)) h

pub filter_keeps : {A : Type 0} (p : A → Bool) (x : A) (xs : List A) → p x ≡ true → filter p (x ∷ xs) ≡ x ∷ filter p xs
filter_keeps p x xs h = filter_true p x xs h

pub filter_drops : {A : Type 0} (p : A → Bool) (x : A) (xs : List A) → p x ≡ false → filter p (x ∷ xs) ≡ filter p xs
filter_drops p x xs h = filter_false p x xs h

-- an element that passes is in the filtered list
pub in_filter : {A : Type 0} (p : A → Bool) (z : A) (xs : List A) → IsIn z xs → p z ≡ true → IsIn z (filter p xs)
in_filter p z [] i h = absurd i
in_filter {A} p z (x ∷ xs) (inl e) h =
    subst (λ (l : List A). IsIn z l) (sym (filter_true p x xs (subst (λ (y : A). p y ≡ true) e h))) (inl e)
in_filter {A} p z (x ∷ xs) (inr i) h =
    elim (cases_Bool (p x)) [
      | inl t ↦ subst (λ (l : List A). IsIn z l) (sym (filter_true p x xs t)) (inr (in_filter p z xs i h))
      | inr f ↦
          subst (λ (l : List A). IsIn z l) (sym (filter_false p x xs f)) (in_filter p z xs i h)
    ]

filter_in_cons : {A : Type 0} (p : A → Bool) (z x : A) (xs : List A) → (IsIn z (filter p xs) → IsIn z xs × (p z ≡ true)) → p x ≡ true
    → IsIn z (x ∷ filter p xs) → IsIn z (x ∷ xs) × (p z ≡ true)
filter_in_cons {A} p z x xs ih t (inl e) = (inl e, subst (λ (y : A). p y ≡ true) (sym e) t)
filter_in_cons p z x xs ih t (inr i) = let r = ih i in (inr r.0, r.1)

-- what is in the filtered list is in the list, and passes
pub filter_in : {A : Type 0} (p : A → Bool) (z : A) (xs : List A) → IsIn z (filter p xs) → IsIn z xs × (p z ≡ true)
filter_in p z [] i = absurd i
filter_in {A} p z (x ∷ xs) i =
    elim (cases_Bool (p x)) [
      | inl t ↦
          filter_in_cons p z x xs (filter_in p z xs) t (subst (λ (l : List A). IsIn z l) (filter_true p x xs t) i)
      | inr f ↦ let r =
          filter_in p z xs (subst (λ (l : List A). IsIn z l) (filter_false p x xs f) i) in (inr r.0, r.1)
    ]

pub filter_all : {A : Type 0} (p : A → Bool) (xs : List A) → ((z : A) → IsIn z xs → p z ≡ true) → filter p xs ≡ xs
filter_all p [] h = refl
filter_all p (x ∷ xs) h = filter_true p x xs (h x (inl refl)) ∙ ap (λ ys. x ∷ ys) (filter_all p xs (λ z i. h z (inr i)))

pub filter_none : {A : Type 0} (p : A → Bool) (xs : List A) → ((z : A) → IsIn z xs → p z ≡ false) → filter p xs ≡ []
filter_none p [] h = refl
filter_none p (x ∷ xs) h = filter_false p x xs (h x (inl refl)) ∙ filter_none p xs (λ z i. h z (inr i))

-- tests that agree on a list keep the same elements of it
pub filter_same : {A : Type 0} (p q : A → Bool) (xs : List A) → ((z : A) → IsIn z xs → p z ≡ q z) → filter p xs ≡ filter q xs
filter_same p q [] h = refl
filter_same p q (x ∷ xs) h = ap₂ (λ b ys. cond b (x ∷ ys) ys) (h x (inl refl)) (filter_same p q xs (λ z i. h z (inr i)))

-- ---- sums

pub sum_same : {A : Type 0} (p q : A → Bool) (f : A → ℕ) (xs : List A) → ((z : A) → IsIn z xs → p z ≡ q z)
    → sum_where p f xs ≡ sum_where q f xs
sum_same p q f [] h = refl
sum_same p q f (x ∷ xs) h = ap₂ (λ b n. (if b then f x else 0) + n) (h x (inl refl)) (sum_same p q f xs (λ z i. h z (inr i)))

pub sum_none : {A : Type 0} (f : A → ℕ) (xs : List A) → sum_where (λ x. false) f xs ≡ 0
sum_none f [] = refl
sum_none f (x ∷ xs) = let ih = sum_none f xs in omega arith

-- the sum over some elements is at most the sum over all
pub sum_below : {A : Type 0} (p : A → Bool) (f : A → ℕ) (xs : List A) → sum_where p f xs ≤ total_by f xs
sum_below p f [] = omega arith
sum_below p f (x ∷ xs) = let ih = sum_below p f xs in elim (cases_Bool (p x)) [ inl h ↦ rw h (omega arith) | inr h ↦ rw h (omega arith) ]

-- ---- counts

pub count-append : {A : Type 0} (p : A → Bool) (xs ys : List A) → count p (xs ++ ys) ≡ count p xs + count p ys
count-append p [] ys = omega arith
count-append p (x ∷ xs) ys = let ih = count-append p xs ys in omega arith

pub length-count : {A : Type 0} (p : A → Bool) (xs : List A) → length (filter p xs) ≡ count p xs
length-count p [] = refl
length-count p (x ∷ xs) =
    let ih = length-count p xs in elim (cases_Bool (p x)) [ inl h ↦ rw (h, ih) (omega arith) | inr h ↦ rw (h, ih) (omega arith) ]

-- ---- parts

-- keeping some elements of the parts before and after a place
pub filter-parts : {A : Type 0} (p : A → Bool) (n : ℕ) (xs : List A) → filter p (take n xs) ++ filter p (drop n xs) ≡ filter p xs
filter-parts p n xs = sym (filter-append p (take n xs) (drop n xs)) ∙ ap (filter p) (take-append-drop n xs)

pub in_take : {A : Type 0} (z : A) (n : ℕ) (xs : List A) → IsIn z (take n xs) → IsIn z xs
in_take {A} z n xs i = subst (λ (l : List A). IsIn z l) (take-append-drop n xs) (in_left z (take n xs) (drop n xs) i)

pub in_drop : {A : Type 0} (z : A) (n : ℕ) (xs : List A) → IsIn z (drop n xs) → IsIn z xs
in_drop {A} z n xs i = subst (λ (l : List A). IsIn z l) (take-append-drop n xs) (in_right z (take n xs) (drop n xs) i)

pub length-put : {A : Type 0} (n : ℕ) (xs ys : List A) → length (take n xs ++ (ys ++ drop n xs)) ≡ length xs + length ys
length-put n xs ys =
    let a = length-append (take n xs) (ys ++ drop n xs) in
    let b = length-append ys (drop n xs) in
    let c = length-append (take n xs) (drop n xs) in
    let d : length (take n xs ++ drop n xs) ≡ length xs = ap length (take-append-drop n xs) in
    omega arith

-- what is put into a list at a place and fails the test isn't seen by the filter
pub filter_put : {A : Type 0} (p : A → Bool) (n : ℕ) (xs ys : List A) → ((z : A) → IsIn z ys → p z ≡ false)
    → filter p (take n xs ++ (ys ++ drop n xs)) ≡ filter p xs
filter_put p n xs ys h =
    let a = filter-append p (take n xs) (ys ++ drop n xs) in
    let b : filter p (ys ++ drop n xs) ≡ filter p (drop n xs) =
    filter-append p ys (drop n xs) ∙ ap (λ l. l ++ filter p (drop n xs)) (filter_none p ys h) in
    a ∙ (ap (λ l. filter p (take n xs) ++ l) b ∙ filter-parts p n xs)

-- ---- how many elements of one kind stand before each element of another

cons_head : {A : Type 0} (x y : A) (xs ys : List A) → x ∷ xs ≡ y ∷ ys → x ≡ y
cons_head x y xs ys e = cc

cons_tail : {A : Type 0} (x y : A) (xs ys : List A) → x ∷ xs ≡ y ∷ ys → xs ≡ ys
cons_tail x y xs ys e = cc

pub count-either : {A : Type 0} (p x : A → Bool) → ((c : A) → p c ≡ true → x c ≡ false) → (S : List A)
    → count (either p x) S ≡ count p S + count x S
count-either p x d [] = omega arith
count-either p x d (c ∷ S) =
    let ih = count-either p x d S in elim (cases_Bool (p c)) [ inl h ↦ rw (h, d c h) (omega arith) | inr h ↦ rw h (omega arith) ]

pub each_none : {A : Type 0} (p x : A → Bool) (q k : ℕ) (S : List A) → count x S ≡ 0 → EachAt p x q k S
each_none p x q k [] h = tt
each_none p x q k (c ∷ S) h =
    elim (cases_Bool (x c)) [
      | inl e ↦ let f : 1 + count x S ≡ 0 = rw e at h in absurd (omega arith)
      | inr e ↦ let f : 0 + count x S ≡ 0 =
          rw e at h in let g : count x S ≡ 0 = omega arith in
          ((λ t. absurd (both_ways (x c) e t)), each_none p x q ((if p c then 1 else 0) + k) S g)
    ]

pub count_own : {A : Type 0} (p x : A → Bool) → ((c : A) → p c ≡ true → x c ≡ false) → (S P As Q : List A) → filter p S ≡ P ++ Q
    → filter (either p x) S ≡ P ++ (As ++ Q) → count x S ≡ length As
count_own p x d S P As Q fp fe =
    let a = length-count p S in
    let b = length-count (either p x) S in
    let c = count-either p x d S in
    let e : length (filter p S) ≡ length (P ++ Q) = ap length fp in
    let f : length (filter (either p x) S) ≡ length (P ++ (As ++ Q)) = ap length fe in
    let g = length-append P Q in
    let h = length-append P (As ++ Q) in
    let i = length-append As Q in
    omega arith

either_left : {A : Type 0} (p x : A → Bool) (c : A) → p c ≡ true → either p x c ≡ true
either_left p x c h = or_left (p c) (x c) h

either_right : {A : Type 0} (p x : A → Bool) (c : A) → x c ≡ true → either p x c ≡ true
either_right p x c h = or_right (p c) (x c) h

either_none : {A : Type 0} (p x : A → Bool) (c : A) → p c ≡ false → x c ≡ false → either p x c ≡ false
either_none p x c h k = ap₂ (λ a b. a || b) h k

-- lists whose elements that pass p are P ++ Q, and those that pass p or x are P ++ (As ++ Q), where k stands in front and P
-- ends at q
module _ {A : Type 0} (p x : A → Bool) (d : (c : A) → p c ≡ true → x c ≡ false) (q : ℕ) (Q : List A) where
  abbrev pub Before : List A → Type 0
  Before S =
      (P As : List A) (k : ℕ) → ((c : A) → IsIn c As → x c ≡ true) → filter p S ≡ P ++ Q → filter (either p x) S ≡ P ++ (As ++ Q)
      → k + length P ≡ q → EachAt p x q k S

  at_first : (c : A) (S : List A) → Before S → (P As : List A) (k : ℕ) → ((e : A) → IsIn e As → x e ≡ true) → p c ≡ true
      → c ∷ filter p S ≡ P ++ Q → c ∷ filter (either p x) S ≡ P ++ (As ++ Q) → k + length P ≡ q → EachAt p x q (1 + k) S
  at_first c S again (r ∷ P) As k mine h fp fe e =
      again P As (1 + k) mine (cons_tail c r (filter p S) (P ++ Q) fp) (cons_tail c r (filter (either p x) S) (P ++ (As ++ Q)) fe)
      (omega arith)
  at_first c S again [] (a ∷ As) k mine h fp fe e =
      absurd (both_ways (x c) (d c h)
      (subst (λ (y : A). x y ≡ true) (sym (cons_head c a (filter (either p x) S) (As ++ Q) fe)) (mine a (inl refl))))
  at_first c S again [] [] k mine h fp fe e =
      let same : filter (either p x) S ≡ filter p S = cons_tail c c (filter (either p x) S) (filter p S) (fe ∙ sym fp) in
      let long : length (filter (either p x) S) ≡ length (filter p S) = ap length same in
      let a = length-count p S in
      let b = length-count (either p x) S in
      let n = count-either p x d S in
      each_none p x q (1 + k) S (omega arith)

  at_second : (c : A) (S : List A) → Before S → (P As : List A) (k : ℕ) → ((e : A) → IsIn e As → x e ≡ true) → p c ≡ false
      → filter p S ≡ P ++ Q → c ∷ filter (either p x) S ≡ P ++ (As ++ Q) → k + length P ≡ q → (k ≡ q) × EachAt p x q (0 + k) S
  at_second c S again (r ∷ P) As k mine h fp fe e =
      let is : c ≡ r = cons_head c r (filter (either p x) S) (P ++ (As ++ Q)) fe in
      let passes : p r ≡ true = (filter_in p r S (subst (λ (l : List A). IsIn r l) (sym fp) (inl refl))).1 in
      absurd (both_ways (p c) h (subst (λ (y : A). p y ≡ true) (sym is) passes))
  at_second c S again [] (a ∷ As) k mine h fp fe e =
      (omega arith, again [] As (0 + k) (λ y i. mine y (inr i)) fp (cons_tail c a (filter (either p x) S) (As ++ Q) fe) (omega arith))
  at_second c S again [] [] k mine h fp fe e =
      let passes : p c ≡ true = (filter_in p c S (subst (λ (l : List A). IsIn c l) (fe ∙ sym fp) (inl refl))).1 in
      absurd (both_ways (p c) h passes)

  pub before_each : (S : List A) → Before S
  before_each [] P As k mine fp fe e = tt
  before_each (c ∷ S) P As k mine fp fe e =
      elim (cases_Bool (p c)) [
        | inl h ↦ (
          (λ t. absurd (both_ways (x c) (d c h) t)),
          subst (λ (b : Bool). EachAt p x q ((if b then 1 else 0) + k) S) (sym h)
              (at_first c S (before_each S) P As k mine h (sym (filter_keeps p c S h) ∙ fp)
              (sym (filter_keeps (either p x) c S (either_left p x c h)) ∙ fe) e),
        )
        | inr h ↦ elim (cases_Bool (x c)) [
          | inl t ↦ let r =
              at_second c S (before_each S) P As k mine h (sym (filter_drops p c S h) ∙ fp)
              (sym (filter_keeps (either p x) c S (either_right p x c t)) ∙ fe) e in
              ((λ u. r.0), subst (λ (b : Bool). EachAt p x q ((if b then 1 else 0) + k) S) (sym h) r.1)
          | inr t ↦ (
            (λ u. absurd (both_ways (x c) t u)),
            subst (λ (b : Bool). EachAt p x q ((if b then 1 else 0) + k) S) (sym h)
                (before_each S P As (0 + k) mine (sym (filter_drops p c S h) ∙ fp)
                (sym (filter_drops (either p x) c S (either_none p x c h t)) ∙ fe) (omega arith)),
          )
        ]
      ]

pub in_swap : {A : Type 0} (z x y : A) (xs ys : List A) → IsIn z (xs ++ (x ∷ (y ∷ ys))) → IsIn z (xs ++ (y ∷ (x ∷ ys)))
in_swap z x y [] ys (inl e) = inr (inl e)
in_swap z x y [] ys (inr (inl e)) = inl e
in_swap z x y [] ys (inr (inr i)) = inr (inr i)
in_swap z x y (w ∷ xs) ys (inl e) = inl e
in_swap z x y (w ∷ xs) ys (inr i) = inr (in_swap z x y xs ys i)
