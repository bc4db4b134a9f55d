-- Counts of the elements that pass a test.
use Rattle.std.proofs.Common.{◌≡◌, ℕ, ◌+◌, ◌-◌, ◌<◌, ◌≤◌, Bool, true, false, List, length, take, drop, get_or, cond, slice_range, ap, ◌∙◌, arith}
use Rattle.std.proofs.Math.Seq.{take-add}
use Rattle.std.proofs.lemmas.List.Sums.{sum_by-append, sum_by-take-le, get_or-le-sum_by, count_by_more_yes}
use Rattle.std.proofs.lemmas.List.{take-take}
use Rattle.std.specs.List.{count_by}

-- n elements further
pub count_more : (p : ℕ → Bool) (xs : List ℕ) (at n : ℕ)
    → count_by p (take (at + n) xs) ≡ count_by p (take at xs) + count_by p (slice_range xs at (at + n))
count_more p xs at n =
    let wide : n ≡ at + n - at = omega arith in
    ap (count_by p) (take-add at n xs) ∙ sum_by-append (λ x. cond (p x) 1 0) (take at xs) (take n (drop at xs))
    ∙ ap (λ k. count_by p (take at xs) + count_by p (take k (drop at xs))) wide

-- where none passes, each fails
pub count_none : (p : ℕ → Bool) (xs : List ℕ) → count_by p xs ≡ 0 → (i : ℕ) → i < length xs → p (get_or xs i 0) ≡ false
count_none p xs none i in_it = let one = get_or-le-sum_by (λ x. cond (p x) 1 0) xs i 0 in_it in grind arith

-- as many and more, further on
pub count_up : (p : ℕ → Bool) (xs : List ℕ) (i j : ℕ) → i ≤ j → count_by p (take i xs) ≤ count_by p (take j xs)
count_up p xs i j le =
    let part = sum_by-take-le (λ x. cond (p x) 1 0) (take j xs) i in
    omega (arith, part, ap (count_by p) (take-take i j xs le))

-- one more, past one that passes
pub count_past : (p : ℕ → Bool) (xs : List ℕ) (i j : ℕ) → i < length xs → p (get_or xs i 0) ≡ true → i < j
    → count_by p (take i xs) + 1 ≤ count_by p (take j xs)
count_past p xs i j in_it passes lt = omega (arith, count_by_more_yes p xs i 0 in_it passes, count_up p xs (i + 1) j (omega arith))
