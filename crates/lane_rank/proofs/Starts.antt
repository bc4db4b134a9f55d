-- The bytes that start a character, as two comparisons tell them.
use Rattle.std.proofs.Common.{◌≡◌, ℕ, ◌+◌, ◌-◌, ◌%◌, ◌^◌, ◌≤◌, Bool, List, [], ◌∷◌, length, map, cond, replicate, refl, ap, ◌∙◌, arith}
use Rattle.std.proofs.lemmas.Simd.{tops_compared, zip2_splat_left, mask_l-mod}
use Rattle.std.proofs.lemmas.List.Sums.{sum_by-cons}
use Rattle.std.proofs.lemmas.List.{length-map}
use Rattle.std.specs.List.{count_by}
use Rattle.std.specs.Prelude.{nat_lt}
use Rattle.lane_rank.specs.Texts.{starts_char, starts_of}
use lib.Lanes.{zip2, mask_l, top}
use mir.Syntax.{Width}
use mir.Val.{bits, hbits}

-- `to_bitmask` of the comparison of a splat with lanes
pub bitmask_splat_left : (w : Width) (t : ℕ → ℕ → Bool) (xs : List ℕ) (n : ℕ) (y : ℕ) → length xs ≡ n → n ≤ 64
    → mask_l (map (top (hbits w)) (zip2 (λ a b. cond (t a b) (2 ^ bits w - 1) 0) (replicate n y) xs)) % 2 ^ 64 ≡ mask_l (map (t y) xs)
bitmask_splat_left w t xs n y size few =
    ap (λ m. mask_l m % 2 ^ 64) (tops_compared w t (replicate n y) xs ∙ zip2_splat_left t y n xs size)
    ∙ mask_l-mod (map (t y) xs) 64 (omega (arith, length-map xs (t y)))

start_part : (b : ℕ) → cond (nat_lt b 0x80) 1 0 + cond (nat_lt 0xBF b) 1 0 ≡ cond (starts_char b) 1 0
start_part b = grind arith

pub starts_parts : (bs : List ℕ) → count_by (λ b. nat_lt b 0x80) bs + count_by (nat_lt 0xBF) bs ≡ starts_of bs
starts_parts [] = refl
starts_parts (b ∷ bs) =
    let low = sum_by-cons (λ x. cond (nat_lt x 0x80) 1 0) b bs in
    let high = sum_by-cons (λ x. cond (nat_lt 0xBF x) 1 0) b bs in
    let both = sum_by-cons (λ x. cond (starts_char x) 1 0) b bs in
    omega (arith, low, high, both, start_part b, starts_parts bs)
