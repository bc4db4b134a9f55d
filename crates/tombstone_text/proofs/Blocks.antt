-- Sums of blocks of numbers.
use Rattle.std.proofs.Common.{◌≡◌, ℕ, zero, suc, ◌+◌, ◌-◌, ◌*◌, ◌<◌, ◌≤◌, List, [], ◌∷◌, length, take, drop, set, get_or, refl, sym, ap, ◌∙◌, subst, arith}
use Rattle.std.specs.List.{sum}
use Rattle.std.proofs.Math.Seq.{take-add}
use Rattle.std.proofs.lemmas.List.{drop-take, take-set-le, drop-set-lt, drop-set-add, get_or-drop, get_or-take, length-drop, get_or-set_same, get_or-set_other, length-set, get_or_read}
use Rattle.std.proofs.lemmas.List.Sums.{sum_by-append, sum_by-set, sum_by-take-drop, sum_by-take-le, get_or-le-sum_by}
use Rattle.std.proofs.Common.{Bool, true, false, nat_lt}
use Rattle.std.proofs.lemmas.List.{length-take}
use Rattle.std.proofs.lemmas.Bool.Decides.{nat_tests}
use Rattle.tombstone_text.specs.Code.Sums.{AreBlocks}
use Rattle.tombstone_text.specs.declared.sums.TheConstants.{BLOCK}

-- one block more
pub block_next : (xs : List ℕ) (j : ℕ)
    → sum (take (BLOCK * (j + 1)) xs) ≡ sum (take (BLOCK * j) xs) + sum (take BLOCK (drop (BLOCK * j) xs))
block_next xs j =
    let next : BLOCK * (j + 1) ≡ BLOCK * j + BLOCK = omega arith in
    ap (λ k. sum (take k xs)) next ∙ ap sum (take-add (BLOCK * j) BLOCK xs)
    ∙ sum_by-append (λ (n : ℕ). n) (take (BLOCK * j) xs) (take BLOCK (drop (BLOCK * j) xs))

window-before : (xs : List ℕ) (i j y : ℕ) → BLOCK * j + BLOCK ≤ i
    → take BLOCK (drop (BLOCK * j) (set xs i y)) ≡ take BLOCK (drop (BLOCK * j) xs)
window-before xs i j y le =
    sym (drop-take (BLOCK * j) BLOCK (set xs i y)) ∙ ap (λ zs. drop (BLOCK * j) zs) (take-set-le (BLOCK * j + BLOCK) xs i y le)
    ∙ drop-take (BLOCK * j) BLOCK xs

window-behind : (xs : List ℕ) (i j y : ℕ) → i < BLOCK * j → take BLOCK (drop (BLOCK * j) (set xs i y)) ≡ take BLOCK (drop (BLOCK * j) xs)
window-behind xs i j y lt = ap (λ zs. take BLOCK zs) (drop-set-lt (BLOCK * j) xs i y lt)

take_set : (n k y : ℕ) (xs : List ℕ) → take n (set xs k y) ≡ set (take n xs) k y
take_set zero k y xs = refl
take_set (suc n) k y [] = refl
take_set (suc n) zero y (x ∷ xs) = refl
take_set (suc n) (suc k) y (x ∷ xs) = ap (λ zs. x ∷ zs) (take_set n k y xs)

length-window : (xs : List ℕ) (k r : ℕ) → r < BLOCK → k + r < length xs → r < length (take BLOCK (drop k xs))
length-window xs k r lt le = omega (arith, length-take BLOCK (drop k xs), length-drop k xs)

-- the block of a number that changed
pub window-at : (xs : List ℕ) (i j y : ℕ) → i < length xs → BLOCK * j ≤ i → i < BLOCK * j + BLOCK
    → sum (take BLOCK (drop (BLOCK * j) (set xs i y))) + get_or xs i 0 ≡ sum (take BLOCK (drop (BLOCK * j) xs)) + y
window-at xs i j y lt low high =
    let r = i - BLOCK * j in
    let here : i ≡ BLOCK * j + r = omega arith in
    let within : r < length (take BLOCK (drop (BLOCK * j) xs)) = length-window xs (BLOCK * j) r (omega arith) (omega arith) in
    let changed : take BLOCK (drop (BLOCK * j) (set xs i y)) ≡ set (take BLOCK (drop (BLOCK * j) xs)) r y =
    ap (λ k. take BLOCK (drop (BLOCK * j) (set xs k y))) here ∙ ap (λ zs. take BLOCK zs) (drop-set-add (BLOCK * j) xs r y)
    ∙ take_set BLOCK r y (drop (BLOCK * j) xs) in
    let old : get_or (take BLOCK (drop (BLOCK * j) xs)) r 0 ≡ get_or xs i 0 =
    get_or-take BLOCK (drop (BLOCK * j) xs) r 0 (omega arith) ∙ get_or-drop (BLOCK * j) xs r 0 ∙ ap (λ k. get_or xs k 0) (sym here) in
    let sums = sum_by-set (λ (n : ℕ). n) (take BLOCK (drop (BLOCK * j) xs)) r y 0 within in
    ap (λ n. n + get_or xs i 0) (ap sum changed) ∙ ap (λ n. sum (set (take BLOCK (drop (BLOCK * j) xs)) r y) + n) (sym old) ∙ sums

-- a number is one of those of its block
pub in-window : (xs : List ℕ) (i j : ℕ) → i < length xs → BLOCK * j ≤ i → i < BLOCK * j + BLOCK
    → get_or xs i 0 ≤ sum (take BLOCK (drop (BLOCK * j) xs))
in-window xs i j lt low high =
    let r = i - BLOCK * j in
    let here : i ≡ BLOCK * j + r = omega arith in
    let within : r < length (take BLOCK (drop (BLOCK * j) xs)) = length-window xs (BLOCK * j) r (omega arith) (omega arith) in
    let old : get_or (take BLOCK (drop (BLOCK * j) xs)) r 0 ≡ get_or xs i 0 =
    get_or-take BLOCK (drop (BLOCK * j) xs) r 0 (omega arith) ∙ get_or-drop (BLOCK * j) xs r 0 ∙ ap (λ k. get_or xs k 0) (sym here) in
    omega (arith, get_or-le-sum_by (λ (n : ℕ). n) (take BLOCK (drop (BLOCK * j) xs)) r 0 within)

-- a block is no more than all
pub window-le : (xs : List ℕ) (k : ℕ) → sum (take BLOCK (drop k xs)) ≤ sum xs
window-le xs k = omega (arith, sum_by-take-le (λ (n : ℕ). n) (drop k xs) BLOCK, sum_by-take-drop (λ (n : ℕ). n) xs k)

-- blocks after a number changed
pub blocks-set : (bs xs : List ℕ) (i j y b : ℕ) → AreBlocks bs xs → i < length xs → BLOCK * j ≤ i → i < BLOCK * j + BLOCK
    → b + get_or xs i 0 ≡ get_or bs j 0 + y → AreBlocks (set bs j b) (set xs i y)
blocks-set bs xs i j y b a lt low high e =
    let cover = a.cover in
    let tight = a.tight in
    record {
      cover = omega (arith, length-set bs j b, length-set xs i y);
      tight = omega (arith, length-set bs j b, length-set xs i y);
      sums = λ k l. by k (omega (arith, length-set bs j b)) (nat_lt k j) (nat_lt j k) refl refl;
    }
  where
    by : (k : ℕ) → k < length bs → (p q : Bool) → nat_lt k j ≡ p → nat_lt j k ≡ q
        → get_or (set bs j b) k 0 ≡ sum (take BLOCK (drop (BLOCK * k) (set xs i y)))
    by k l true q h g =
        let less : k < j = grind (arith, nat_tests) in
        get_or-set_other bs j k b 0 (λ s. absurd (omega arith)) ∙ a.sums k l ∙ ap sum (sym (window-before xs i k y (omega arith)))
    by k l false true h g =
        let more : j < k = grind (arith, nat_tests) in
        get_or-set_other bs j k b 0 (λ s. absurd (omega arith)) ∙ a.sums k l ∙ ap sum (sym (window-behind xs i k y (omega arith)))
    by k l false false h g =
        let same : k ≡ j = grind (arith, nat_tests) in
        let at = window-at xs i j y lt low high in
        let sum_is = a.sums j (subst (λ m. m < length bs) same l) in
        let now : b ≡ sum (take BLOCK (drop (BLOCK * j) (set xs i y))) = omega arith in
        ap (λ m. get_or (set bs j b) m 0) same ∙ get_or-set_same bs j b 0 (subst (λ m. m < length bs) same l) ∙ now
        ∙ ap (λ m. sum (take BLOCK (drop (BLOCK * m) (set xs i y)))) (sym same)

-- a number that was read, and is changed: its block, and the sum of all
pub record IsChanged (bs xs : List ℕ) (i j part old block : ℕ) : Type 0 where
  pub least : old ≤ block
  pub most : block - old + part ≤ sum (set xs i part)
  pub blocks : AreBlocks (set bs j (block - old + part)) (set xs i part)
  pub some : old ≤ sum xs
  pub total : sum (set xs i part) + old ≡ sum xs + part

pub changed : (bs xs : List ℕ) (i j part old block : ℕ) → AreBlocks bs xs → i < length xs → BLOCK * j ≤ i → i < BLOCK * j + BLOCK
    → old ≡ get_or xs i old → block ≡ get_or bs j block → IsChanged bs xs i j part old block
changed bs xs i j part old block a lt low high read_old read_block =
    let cover = a.cover in
    let there : j < length bs = omega arith in
    let was : old ≡ get_or xs i 0 = get_or_read xs i old lt read_old 0 in
    let had : block ≡ get_or bs j 0 = get_or_read bs j block there read_block 0 in
    let sums = a.sums j there in
    let within = in-window xs i j lt low high in
    let at = window-at xs i j part lt low high in
    let most = window-le (set xs i part) (BLOCK * j) in
    let one = get_or-le-sum_by (λ (n : ℕ). n) xs i 0 lt in
    let whole = sum_by-set (λ (n : ℕ). n) xs i part 0 lt in
    record {
      least = omega arith;
      most = omega arith;
      blocks = blocks-set bs xs i j part (block - old + part) a lt low high (omega arith);
      some = omega arith;
      total = omega arith;
    }
