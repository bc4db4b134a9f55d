-- What is counted in UTF-8: each character has one byte that starts it, and a line feed is one byte, which no other character has.
use Rattle.std.proofs.Common.{◌≡◌, ℕ, ◌+◌, ◌/◌, ◌<◌, ◌≤◌, Bool, true, false, List, [], ◌∷◌, ◌++◌, length, map, get_or, cond, refl, ap, subst, arith}
use Rattle.std.specs.Prelude.{nat_lt, encode_utf8, encode_utf8_all}
use Rattle.std.proofs.lemmas.Bool.{cases_lt, lt-ltb, le-ltb, ne_eqb, or_from, or_left, or_right, cond_below, cond_above}
use Rattle.std.proofs.lemmas.List.Sums.{sum_by-append, sum_by-cons}
use Rattle.lane_rank.specs.Texts.{is_newline, starts_char, newlines_of, starts_of}
use lib.Utf8.{next, encode}
use mathlib.Core.Logic.{⊎_elim}

-- the bytes of a character: the first starts it, and the others are 80 to BF hexadecimal
data Spelt : ℕ → List ℕ → Type 0 where
  one : (c : ℕ) → c < 128 → Spelt c (c ∷ [])
  more : (c b : ℕ) (xs : List ℕ) → 128 ≤ c → 0xBF < b → Spelt c (b ∷ map next xs)

spelt : (c : ℕ) → Spelt c (encode_utf8 c)
unfolding encode
spelt c = ⊎_elim
    (λ low. subst (Spelt c) (cond_below c 128 _ _ low) (one c low))
    (λ high. subst (Spelt c) (cond_above c 128 _ _ _ high refl) (⊎_elim
    (λ two. subst (Spelt c) (cond_below c 2048 _ _ two) (more c (192 + c / 64) (c ∷ []) high (omega arith)))
    (λ over. subst (Spelt c) (cond_above c 2048 _ _ _ over refl) (⊎_elim
    (λ three. subst (Spelt c) (cond_below c 65536 _ _ three) (more c (224 + c / 4096) (c / 64 ∷ c ∷ []) high (omega arith)))
    (λ four. subst (Spelt c) (cond_above c 65536 _ _ _ four refl)
    (more c (240 + c / 262144) (c / 4096 ∷ c / 64 ∷ c ∷ []) high (omega arith)))
    (cases_lt c 65536)))
    (cases_lt c 2048)))
    (cases_lt c 128)

abbrev one_if : Bool → ℕ
one_if t = cond t 1 0

starts_low : (b : ℕ) → b < 128 → starts_char b ≡ true
starts_low b low = or_left (nat_lt b 0x80) (nat_lt 0xBF b) (lt-ltb b 128 low)

starts_high : (b : ℕ) → 0xBF < b → starts_char b ≡ true
starts_high b high = or_right (nat_lt b 0x80) (nat_lt 0xBF b) (lt-ltb 0xBF b high)

starts_next : (x : ℕ) → starts_char (next x) ≡ false
starts_next x =
    or_from (nat_lt (next x) 0x80) (nat_lt 0xBF (next x)) (le-ltb (next x) 0x80 (omega arith)) (le-ltb 0xBF (next x) (omega arith))

newline_high : (b : ℕ) → 128 ≤ b → is_newline b ≡ false
newline_high b high = ne_eqb b 10 (λ e. omega arith)

no_starts : (xs : List ℕ) → starts_of (map next xs) ≡ 0
no_starts [] = refl
no_starts (x ∷ xs) =
    omega (arith, sum_by-cons (λ b. cond (starts_char b) 1 0) (next x) (map next xs), ap one_if (starts_next x), no_starts xs)

no_newlines : (xs : List ℕ) → newlines_of (map next xs) ≡ 0
no_newlines [] = refl
no_newlines (x ∷ xs) =
    omega (
      arith,
      sum_by-cons (λ b. cond (is_newline b) 1 0) (next x) (map next xs),
      ap one_if (newline_high (next x) (omega arith)),
      no_newlines xs,
    )

starts_spelt : {c : ℕ} {bs : List ℕ} → Spelt c bs → starts_of bs ≡ 1
starts_spelt (one c low) = omega (arith, sum_by-cons (λ b. cond (starts_char b) 1 0) c [], ap one_if (starts_low c low))
starts_spelt (more c b xs high above) =
    omega (arith, sum_by-cons (λ b. cond (starts_char b) 1 0) b (map next xs), ap one_if (starts_high b above), no_starts xs)

newlines_spelt : {c : ℕ} {bs : List ℕ} → Spelt c bs → newlines_of bs ≡ cond (is_newline c) 1 0
newlines_spelt (one c low) = omega (arith, sum_by-cons (λ b. cond (is_newline b) 1 0) c [])
newlines_spelt (more c b xs high above) =
    let none = ap one_if (newline_high c high) in
    let first = ap one_if (newline_high b (omega arith)) in
    omega (arith, sum_by-cons (λ b. cond (is_newline b) 1 0) b (map next xs), none, first, no_newlines xs)

first_spelt : {c : ℕ} {bs : List ℕ} (rest : List ℕ) → Spelt c bs → starts_char (get_or (bs ++ rest) 0 0) ≡ true
first_spelt rest (one c low) = starts_low c low
first_spelt rest (more c b xs high above) = starts_high b above

-- a text that isn't empty begins with a byte that starts a character
pub first_starts : (cs : List ℕ) → 0 < length (encode_utf8_all cs) → starts_char (get_or (encode_utf8_all cs) 0 0) ≡ true
first_starts [] some = absurd (omega arith)
first_starts (c ∷ cs) some = first_spelt (encode_utf8_all cs) (spelt c)

-- the characters are counted by the bytes that start them
pub starts_all : (cs : List ℕ) → starts_of (encode_utf8_all cs) ≡ length cs
starts_all [] = refl
starts_all (c ∷ cs) =
    let whole = sum_by-append (λ b. cond (starts_char b) 1 0) (encode_utf8 c) (encode_utf8_all cs) in
    omega (arith, whole, starts_spelt (spelt c), starts_all cs)

-- and the line feeds by their bytes
pub newlines_all : (cs : List ℕ) → newlines_of (encode_utf8_all cs) ≡ newlines_of cs
newlines_all [] = refl
newlines_all (c ∷ cs) =
    let whole = sum_by-append (λ b. cond (is_newline b) 1 0) (encode_utf8 c) (encode_utf8_all cs) in
    omega (arith, whole, newlines_spelt (spelt c), newlines_all cs, sum_by-cons (λ b. cond (is_newline b) 1 0) c cs)
