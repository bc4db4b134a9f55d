-- The places of the members that pass a test, sorted, name those members in the history's order.
use Rattle.std.proofs.Common.{◌≡◌, ℕ, zero, suc, ◌+◌, ◌<◌, ◌≤◌, Bool, true, false, inl, inr, List, [], ◌∷◌, ◌++◌, refl, ap, sym, subst, ◌∙◌, arith, length, length-append, get_or, take, append_assoc}
use Rattle.std.specs.Prelude.{◌==◌, Option, Some, None, slice_get, filter, if◌then◌else◌}
use Rattle.std.specs.List.Sorted.{IsNonDecreasingBy, IsPermutation, IsSorted}
use Rattle.std.specs.List.{sum_by}
use Rattle.std.specs.Ordering.{nat_cmp}
use Rattle.std.proofs.lemmas.List.Recursion.{is_sum_by}
use Rattle.std.proofs.lemmas.List.Sorted.{sum_by-IsPermutation, IsNonDecreasingBy-from_sort}
use Rattle.std.proofs.lemmas.Grind.{take_at_read}
use Rattle.std.proofs.lemmas.Bool.Decides.{nat_tests}
use Rattle.std.proofs.lemmas.Bool.{cases_Bool, cases_order}
use Rattle.op_name.specs.declared.member.Member.{Member}
use Rattle.op_name.specs.Lists.{places_from}
use Rattle.context_diff.specs.Code.Places.{times, passes_at, ArePlacesOf, members_at}

-- numbers from `low` on, not falling
IsSortedFrom : ℕ → List ℕ → Type 0
IsSortedFrom low [] = Unit {0}
IsSortedFrom low (p ∷ ps) = (low ≤ p) × IsSortedFrom p ps

sorted_from : (low : ℕ) (ps : List ℕ) → IsNonDecreasingBy (λ x. x) ps → ((d : ℕ) → 0 < length ps → low ≤ get_or ps 0 d)
    → IsSortedFrom low ps
unfolding IsSortedFrom
sorted_from low [] up least = tt
sorted_from low (p ∷ ps) up least = (
  least p (omega (arith)),
  sorted_from p ps (λ i j d le within. up (suc i) (suc j) d (omega arith) (omega arith)) (λ d some. up 0 1 d (omega arith) (omega arith)),
)

weaker : (low k : ℕ) (ps : List ℕ) → low ≤ k → IsSortedFrom k ps → IsSortedFrom low ps
unfolding IsSortedFrom
weaker low k [] le up = tt
weaker low k (p ∷ ps) le up = (omega (arith, up.0), up.1)

times_below : (p low : ℕ) (ps : List ℕ) → p < low → IsSortedFrom low ps → times p ps ≡ 0
unfolding IsSortedFrom
times_below p low [] less up = refl
times_below p low (q ∷ qs) less up =
    let rest = times_below p q qs (omega (arith, up.0)) up.1 in
    rw rest (grind (arith, nat_tests, up.0))

-- sorted lists with the same numbers, each as often, are equal
same_sorted : (a b : ℕ) (ps qs : List ℕ) → IsSortedFrom a ps → IsSortedFrom b qs → ((z : ℕ) → times z ps ≡ times z qs) → ps ≡ qs
unfolding IsSortedFrom
same_sorted a b [] [] up up' same = refl
same_sorted a b [] (q ∷ qs) up up' same = let at = same q in absurd (grind (arith, nat_tests, at))
same_sorted a b (p ∷ ps) [] up up' same = let at = same p in absurd (grind (arith, nat_tests, at))
same_sorted a b (p ∷ ps) (q ∷ qs) up up' same =
    elim (cases_order p q) [
      | inl is ↦
          let bits : (z : ℕ) → ◌≡◌ {A = ℕ} (if p == z then 1 else 0) (if q == z then 1 else 0) =
          λ z. ap (λ (x : ℕ). if x == z then 1 else 0) is in
          let tails : (z : ℕ) → times z ps ≡ times z qs = λ z. omega (arith, same z, bits z) in
          ap (λ x. x ∷ ps) is ∙ ap (λ xs. q ∷ xs) (same_sorted p q ps qs up.1 up'.1 tails)
      | inr (inl less) ↦
          let none = times_below p q qs less up'.1 in
          let at = same p in
          absurd (grind (arith, nat_tests, at, none))
      | inr (inr more) ↦
          let none = times_below q p ps more up.1 in
          let at = same q in
          absurd (grind (arith, nat_tests, at, none))
    ]

places_sorted : (t : Member → Bool) (k : ℕ) (ms : List Member) → IsSortedFrom k (places_from t k ms)
unfolding IsSortedFrom
places_sorted t k [] = tt
places_sorted t k (m ∷ ms) =
    let rest = weaker k (suc k) (places_from t (suc k) ms) (omega arith) (places_sorted t (suc k) ms) in
    elim (cases_Bool (t m)) [
      | inl passes ↦ rw passes (omega arith, rest)
      | inr fails ↦ rw fails rest
    ]

places_before : (t : Member → Bool) (k : ℕ) (ms : List Member) (q : ℕ) → q < k → times q (places_from t k ms) ≡ 0
places_before t k ms q less = times_below q k (places_from t k ms) less (places_sorted t k ms)

places_times : (t : Member → Bool) (k : ℕ) (ms : List Member) (p q : ℕ) → q ≡ k + p
    → times q (places_from t k ms) ≡ (if passes_at t ms p then 1 else 0)
places_times t k [] p q at = refl
places_times t k (m ∷ ms) zero q at =
    let none = places_before t (suc k) ms q (omega arith) in
    let here : (k == q) ≡ true = grind (arith, nat_tests) in
    elim (cases_Bool (t m)) [
      | inl passes ↦ rw passes (rw here (rw none refl))
      | inr fails ↦ rw fails none
    ]
places_times t k (m ∷ ms) (suc p) q at =
    let rest = places_times t (suc k) ms p q (omega arith) in
    let other : (k == q) ≡ false = grind (arith, nat_tests) in
    elim (cases_Bool (t m)) [
      | inl passes ↦ rw passes (rw other (rw rest (omega arith)))
      | inr fails ↦ rw fails rest
    ]

nth_behind : (b : List Member) (m : Member) (ms : List Member) → slice_get (b ++ m ∷ ms) (length b) ≡ Some m
nth_behind [] m ms = refl
nth_behind (x ∷ xs) m ms = nth_behind xs m ms

at_one : (all : List Member) (p : ℕ) (ps : List ℕ) (m : Member) → slice_get all p ≡ Some m → members_at all (p ∷ ps) ≡ m ∷ members_at all ps
at_one all p ps m at = ap (λ (o : Option Member). elim o [ None ↦ members_at all ps | Some x ↦ x ∷ members_at all ps ]) at

places_members : (t : Member → Bool) (b ms : List Member) → members_at (b ++ ms) (places_from t (length b) ms) ≡ filter t ms
places_members t b [] = refl
places_members t b (m ∷ ms) =
    let moved : (b ++ m ∷ []) ++ ms ≡ b ++ m ∷ ms = append_assoc b (m ∷ []) ms in
    let longer : length (b ++ m ∷ []) ≡ suc (length b) = simp length-append (omega arith) in
    let rest : members_at (b ++ m ∷ ms) (places_from t (suc (length b)) ms) ≡ filter t ms =
    subst (λ (n : ℕ). members_at (b ++ m ∷ ms) (places_from t n ms) ≡ filter t ms) longer
    (subst (λ (all : List Member). members_at all (places_from t (length (b ++ m ∷ [])) ms) ≡ filter t ms) moved
    (places_members t (b ++ m ∷ []) ms)) in
    elim (cases_Bool (t m)) [
      | inl passes ↦ rw passes (at_one (b ++ m ∷ ms) (length b) (places_from t (suc (length b)) ms) m (nth_behind b m ms)
          ∙ ap (λ xs. m ∷ xs) rest)
      | inr fails ↦ rw fails rest
    ]

times_sum : (z : ℕ) (ps : List ℕ) → times z ps ≡ sum_by (λ q. if q == z then 1 else 0) ps
times_sum z ps = is_sum_by (times z) (λ q. if q == z then 1 else 0) refl (λ _ _. refl) ps

pub times_permutation : (z : ℕ) (ps qs : List ℕ) → IsPermutation ps qs → times z qs ≡ times z ps
times_permutation z ps qs moved = times_sum z qs ∙ (sum_by-IsPermutation (λ q. if q == z then 1 else 0) ps qs moved ∙ sym (times_sum z ps))

-- once sorted, the places of the members that pass name them in order
pub members_of_places : (ms : List Member) (t : Member → Bool) (ps qs : List ℕ) → ArePlacesOf ms t ps → IsPermutation ps qs
    → IsSorted nat_cmp qs → members_at ms qs ≡ filter t ms
members_of_places ms t ps qs are moved sorted =
    let up : IsNonDecreasingBy (λ x. x) qs = IsNonDecreasingBy-from_sort (λ x. x) qs sorted in
    let counts : (z : ℕ) → times z qs ≡ times z (places_from t 0 ms) =
    λ z. times_permutation z ps qs moved ∙ (are z ∙ sym (places_times t 0 ms z z (omega arith))) in
    let same : qs ≡ places_from t 0 ms =
    same_sorted 0 0 qs (places_from t 0 ms) (sorted_from 0 qs up (λ d some. omega arith)) (places_sorted t 0 ms) counts in
    ap (members_at ms) same ∙ places_members t [] ms

at_none : (all : List Member) (p : ℕ) (ps : List ℕ) → slice_get all p ≡ None → members_at all (p ∷ ps) ≡ members_at all ps
at_none all p ps at = ap (λ (o : Option Member). elim o [ None ↦ members_at all ps | Some x ↦ x ∷ members_at all ps ]) at

push_by : (ms : List Member) (x : ℕ) (xs : List ℕ) (p : ℕ) → members_at ms (xs ++ p ∷ []) ≡ members_at ms xs ++ members_at ms (p ∷ [])
    → (o : Option Member) → slice_get ms x ≡ o → members_at ms ((x ∷ xs) ++ p ∷ []) ≡ members_at ms (x ∷ xs) ++ members_at ms (p ∷ [])
push_by ms x xs p rest None at =
    at_none ms x (xs ++ p ∷ []) at ∙ (rest ∙ ap (λ ys. ys ++ members_at ms (p ∷ [])) (sym (at_none ms x xs at)))
push_by ms x xs p rest (Some m) at =
    at_one ms x (xs ++ p ∷ []) m at ∙ (ap (λ ys. m ∷ ys) rest ∙ ap (λ ys. ys ++ members_at ms (p ∷ [])) (sym (at_one ms x xs m at)))

members_at_push : (ms : List Member) (xs : List ℕ) (p : ℕ) → members_at ms (xs ++ p ∷ []) ≡ members_at ms xs ++ members_at ms (p ∷ [])
members_at_push ms [] p = refl
members_at_push ms (x ∷ xs) p = push_by ms x xs p (members_at_push ms xs p) (slice_get ms x) refl

-- the members at one more place
pub members_at_more : (ms : List Member) (ps : List ℕ) (i : ℕ) → i < length ps
    → members_at ms (take (i + 1) ps) ≡ members_at ms (take i ps) ++ members_at ms (get_or ps i 0 ∷ [])
members_at_more ms ps i less =
    ap (members_at ms) (take_at_read ps i 0 less).1 ∙ members_at_push ms (take i ps) (get_or ps i 0)

pub members_at_some : (ms : List Member) (p : ℕ) (m : Member) → slice_get ms p ≡ Some m → members_at ms (p ∷ []) ≡ m ∷ []
members_at_some ms p m at = at_one ms p [] m at

pub members_at_none : (ms : List Member) (p : ℕ) → slice_get ms p ≡ None → members_at ms (p ∷ []) ≡ []
members_at_none ms p at = at_none ms p [] at
