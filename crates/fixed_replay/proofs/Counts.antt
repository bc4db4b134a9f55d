-- Counts: how many elements of a list pass a test, and how many of them stand before each element that passes another.
use Rattle.std.proofs.Common.{◌≡◌, ℕ, ◌+◌, ◌<◌, ◌≤◌, ◌≢◌, Bool, true, false, List, [], ◌∷◌, ◌++◌, length, take, drop, filter, if◌then◌else◌, inl, inr, refl, ap, ◌∙◌, subst, arith, zero-add, take-append-drop}
use Rattle.std.proofs.lemmas.Bool.{both_ways, cases_Bool, false_from_ne_true}
use Rattle.std.specs.List.{list_any}
use Rattle.ttf_form.specs.Cells.{put_in}
use Rattle.transform_rec.specs.Lists.{IsIn}
use Rattle.transform_rec.proofs.CallerLemmas.{count, count-append, either, EachAt}
use Rattle.fixed_replay.proofs.Elements.{not_both}

-- no element passes both tests
abbrev pub AreDisjoint : {K : Type 0} → (K → Bool) → (K → Bool) → Type 0
AreDisjoint {K} p q = (c : K) → p c ≡ true → q c ≡ false

pub count-either : {K : Type 0} (p q : K → Bool) → AreDisjoint p q → (xs : List K) → count (either p q) xs ≡ count p xs + count q xs
count-either p q d [] = refl
count-either p q d (x ∷ xs) =
    let ih = count-either p q d xs in
    elim (cases_Bool (p x)) [ inl h ↦ rw (h, d x h, ih) (omega arith) | inr h ↦ rw (h, ih) (omega arith) ]

pub each-append : {K : Type 0} (p x : K → Bool) (q k : ℕ) (xs ys : List K) → EachAt p x q k (xs ++ ys)
    → EachAt p x q k xs × EachAt p x q (count p xs + k) ys
each-append p x q k [] ys e = (tt, rw zero-add e)
each-append p x q k (c ∷ cs) ys e =
    let ih = each-append p x q ((if p c then 1 else 0) + k) cs ys e.1 in
    ((e.0, ih.0), subst (λ (j : ℕ). EachAt p x q j ys) (omega arith) ih.1)

-- too many are in front already
pub each-late : {K : Type 0} (p x : K → Bool) (q k : ℕ) (cs : List K) → q < k → EachAt p x q k cs → count x cs ≡ 0
each-late p x q k [] h e = refl
each-late p x q k (c ∷ cs) h e =
    let ih = each-late p x q ((if p c then 1 else 0) + k) cs (omega arith) e.1 in
    elim (cases_Bool (x c)) [ inl t ↦ let b : k ≡ q = e.0 t in absurd (omega arith) | inr f ↦ rw (f, ih) refl ]

-- none of p stands here, and the number in front is another
pub each-between : {K : Type 0} (p x : K → Bool) (q k : ℕ) (cs : List K) → count p cs ≡ 0 → k ≢ q → EachAt p x q k cs → count x cs ≡ 0
each-between p x q k [] h ne e = refl
each-between p x q k (c ∷ cs) h ne e =
    let ih = each-between p x q ((if p c then 1 else 0) + k) cs (omega arith) (λ (j : (if p c then 1 else 0) + k ≡ q). ne (omega arith))
    e.1 in
    elim (cases_Bool (x c)) [ inl t ↦ absurd (ne (e.0 t)) | inr f ↦ rw (f, ih) refl ]

-- the list is empty or its first element passes
abbrev pub BeginsIn : {K : Type 0} → (K → Bool) → List K → Type 0
BeginsIn p [] = Unit {0}
BeginsIn p (c ∷ cs) = p c ≡ true

-- the list is empty or its last element passes
abbrev pub EndsIn : {K : Type 0} → (K → Bool) → List K → Type 0
EndsIn p [] = Unit {0}
EndsIn p (c ∷ []) = p c ≡ true
EndsIn p (c ∷ (d ∷ ds)) = EndsIn p (d ∷ ds)

pub ends-count : {K : Type 0} (p : K → Bool) (c : K) (cs : List K) → EndsIn p (c ∷ cs) → 1 ≤ count p (c ∷ cs)
ends-count p c [] e = rw e (omega arith)
ends-count p c (d ∷ ds) e = let ih = ends-count p d ds e in omega arith

-- the list ends in p with too few of p
pub each-early : {K : Type 0} (p x : K → Bool) → AreDisjoint p x → (q k : ℕ) (cs : List K) → EndsIn p cs → count p cs + k ≤ q
    → EachAt p x q k cs → count x cs ≡ 0
each-early p x d q k [] ends le e = refl
each-early p x d q k (c ∷ []) ends le e = rw (d c ends) refl
each-early p x d q k (c ∷ (c' ∷ cs)) ends le e =
    let pos = ends-count p c' cs ends in
    let ih = each-early p x d q ((if p c then 1 else 0) + k) (c' ∷ cs) ends (omega arith) e.1 in
    elim (cases_Bool (x c)) [ inl t ↦ let b : k ≡ q = e.0 t in absurd (omega arith) | inr f ↦ rw (f, ih) refl ]

-- the list begins in p, with enough of p in front
pub begins-late : {K : Type 0} (p x : K → Bool) → AreDisjoint p x → (q k : ℕ) (cs : List K) → BeginsIn p cs → q ≤ k → EachAt p x q k cs
    → count x cs ≡ 0
begins-late p x d q k [] b le e = refl
begins-late p x d q k (c ∷ cs) b le e =
    let u : EachAt p x q (1 + k) cs = rw b at e.1 in
    rw (d c b, each-late p x q (1 + k) cs (omega arith) u) refl

pub begins-more : {K : Type 0} (p r : K → Bool) → ((c : K) → p c ≡ true → r c ≡ true) → (xs : List K) → BeginsIn p xs → BeginsIn r xs
begins-more p r h [] b = tt
begins-more p r h (x ∷ xs) b = h x b

pub begins-append : {K : Type 0} (r : K → Bool) (xs ys : List K) → BeginsIn r xs → BeginsIn r ys → BeginsIn r (xs ++ ys)
begins-append r [] ys b b' = b'
begins-append r (x ∷ xs) ys b b' = b

pub ends-more : {K : Type 0} (p r : K → Bool) → ((c : K) → p c ≡ true → r c ≡ true) → (xs : List K) → EndsIn p xs → EndsIn r xs
ends-more p r h [] e = tt
ends-more p r h (x ∷ []) e = h x e
ends-more p r h (x ∷ (y ∷ ys)) e = ends-more p r h (y ∷ ys) e

-- one more in front
pub ends-cons : {K : Type 0} (p : K → Bool) (x : K) (ys : List K) → EndsIn p ys → (ys ≡ [] → p x ≡ true) → EndsIn p (x ∷ ys)
ends-cons p x [] e f = f refl
ends-cons p x (y ∷ ys) e f = e

pub ends-append : {K : Type 0} (r : K → Bool) (xs ys : List K) → EndsIn r xs → EndsIn r ys → EndsIn r (xs ++ ys)
ends-append r [] ys e e' = e'
ends-append r (x ∷ []) [] e e' = e
ends-append r (x ∷ []) (y ∷ ys) e e' = e'
ends-append r (x ∷ (z ∷ zs)) ys e e' = ends-append r (z ∷ zs) ys e e'

-- where all elements pass, the count is the length
pub count_all : {K : Type 0} (p : K → Bool) (xs : List K) → ((c : K) → IsIn c xs → p c ≡ true) → count p xs ≡ length xs
count_all p [] a = refl
count_all p (x ∷ xs) a = rw (a x (inl refl), count_all p xs (λ c i. a c (inr i))) (omega arith)

-- without one that passes, a test of the list fails
pub any_count : {K : Type 0} (p : K → Bool) (xs : List K) → count p xs ≡ 0 → list_any p xs ≡ false
any_count p [] h = refl
any_count p (x ∷ xs) h =
    elim (cases_Bool (p x)) [
      | inl k ↦ let e : 1 + count p xs ≡ 0 = rw k at h in absurd (omega arith)
      | inr k ↦ let e : 0 + count p xs ≡ 0 =
          rw k at h in rw (k, any_count p xs (omega arith)) refl
    ]

pub count_any : {K : Type 0} (p : K → Bool) (xs : List K) → list_any p xs ≡ false → count p xs ≡ 0
count_any p [] h = refl
count_any p (x ∷ xs) h =
    elim (cases_Bool (p x)) [ inl k ↦ not_both {b = true} refl (rw k at h) | inr k ↦ rw (k, count_any p xs (rw k at h)) refl ]

-- a list with no element that passes
pub count_none : {K : Type 0} (p : K → Bool) (xs : List K) → ((c : K) → IsIn c xs → p c ≡ false) → count p xs ≡ 0
count_none p [] a = refl
count_none p (x ∷ xs) a = rw (a x (inl refl), count_none p xs (λ c i. a c (inr i))) refl

-- and where the count is 0, no element passes
pub count_zero : {K : Type 0} (p : K → Bool) (xs : List K) (x : K) → count p xs ≡ 0 → IsIn x xs → p x ≡ false
count_zero p [] x h i = absurd i
count_zero p (y ∷ ys) x h (inl e) =
    elim (cases_Bool (p y)) [ inl k ↦ let u : 1 + count p ys ≡ 0 = rw k at h in absurd (omega arith) | inr k ↦ ap p e ∙ k ]
count_zero p (y ∷ ys) x h (inr i) =
    elim (cases_Bool (p y)) [
      | inl k ↦ let u : 1 + count p ys ≡ 0 = rw k at h in absurd (omega arith)
      | inr k ↦ let u : 0 + count p ys ≡ 0 =
          rw k at h in count_zero p ys x (omega arith) i
    ]

-- new elements at a place count as well
pub count-put : {K : Type 0} (p : K → Bool) (k : ℕ) (new xs : List K) → count p (put_in k new xs) ≡ count p new + count p xs
count-put p k new xs =
    let whole = count-append p (take k xs) (new ++ drop k xs) in
    let behind = count-append p new (drop k xs) in
    let parts = count-append p (take k xs) (drop k xs) in
    let old = ap (count p) (take-append-drop k xs) in
    omega (arith, whole, behind, parts, old)

-- what passes p stays where all that passes p passes q
pub count_kept : {K : Type 0} (p q : K → Bool) → ((x : K) → p x ≡ true → q x ≡ true) → (xs : List K) → count p (filter q xs) ≡ count p xs
count_kept p q h [] = refl
count_kept p q h (x ∷ xs) =
    let ih = count_kept p q h xs in
    elim (cases_Bool (q x)) [
      | inl k ↦ rw (k, ih) refl
      | inr k ↦ let none : p x ≡ false = false_from_ne_true (p x) (λ e. both_ways (q x) k (h x e)) in rw (k, none, ih) (omega arith)
    ]
