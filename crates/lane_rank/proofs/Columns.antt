-- What is counted in a column, 32 bytes further.
use Rattle.std.proofs.Common.{◌≡◌, ℕ, ◌+◌, ◌-◌, Bool, List, take, drop, cond, slice_range, ap, ◌∙◌, arith}
use Rattle.std.proofs.Math.Seq.{take-add}
use Rattle.std.proofs.lemmas.List.Sums.{sum_by-append}
use Rattle.std.specs.List.{count_by}
use Rattle.lane_rank.specs.Ones.{ones_of, is_one}

pub count_more : (p : ℕ → Bool) (xs : List ℕ) (at : ℕ)
    → count_by p (take (at + 32) xs) ≡ count_by p (take at xs) + count_by p (slice_range xs at (at + 32))
count_more p xs at =
    let wide : 32 ≡ at + 32 - at = omega arith in
    ap (count_by p) (take-add at 32 xs) ∙ sum_by-append (λ x. cond (p x) 1 0) (take at xs) (take 32 (drop at xs))
    ∙ ap (λ n. count_by p (take at xs) + count_by p (take n (drop at xs))) wide

pub ones_more : (xs : List ℕ) (at : ℕ) → ones_of (take (at + 32) xs) ≡ ones_of (take at xs) + ones_of (slice_range xs at (at + 32))
ones_more = count_more is_one
