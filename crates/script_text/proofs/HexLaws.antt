-- Which texts are hexadecimal digits in pairs.
use Rattle.std.proofs.Common.{◌≡◌, ℕ, zero, suc, ◌+◌, ◌*◌, ◌%◌, ◌<◌, ◌==◌, Bool, true, false, ◌&&◌, not, List, [], ◌∷◌, length, drop, get_or, Option, Some, None, Result, Ok, Err, IsSome, is_ok, is_some, refl, sym, ap, subst, ◌∙◌, arith, ne_eqb}
use Rattle.std.specs.Result.{result_ok}
use Rattle.hex.specs.declared.error.FromHexError.{FromHexError}
use Rattle.hex.specs.Hex.{◌>>=◌, hex_digit_value, is_hex_digit, digit_or_error, decode_pairs, decode_of}
use Rattle.script_text.specs.Fields.{octets_of}

-- each byte is a digit
abbrev pub all_digits : List ℕ → Bool
all_digits [] = true
all_digits (d ∷ ds) = is_hex_digit d && all_digits ds

all_digits_step : (ds : List ℕ) (i : ℕ) → i < length ds
    → all_digits (drop i ds) ≡ (is_hex_digit (get_or ds i 0) && all_digits (drop (suc i) ds))
all_digits_step [] i h = absurd (let no : i < 0 = h in omega (arith, no))
all_digits_step (d ∷ ds) zero h = refl
all_digits_step (d ∷ ds) (suc i) h = all_digits_step ds i (omega (arith, h))

all_digits_end : (ds : List ℕ) (i : ℕ) → ¬ (i < length ds) → all_digits (drop i ds) ≡ true
all_digits_end [] zero h = refl
all_digits_end [] (suc i) h = refl
all_digits_end (d ∷ ds) zero h = absurd (h (omega arith))
all_digits_end (d ∷ ds) (suc i) h = all_digits_end ds i (λ w. h (omega (arith, w)))

pair_first : (h l i : ℕ) (x y : Option ℕ) (r : Result (List ℕ) FromHexError) (b : Bool) → is_ok r ≡ b
    → is_ok ((digit_or_error h i x >>= λ u. digit_or_error l (i + 1) y >>= λ v. Ok (u * 16 + v)) >>= λ byte. r >>= λ bytes.
    Ok (byte ∷ bytes)) ≡ (is_some x && (is_some y && b))
pair_first h l i None y r b e = refl
pair_first h l i (Some u) None r b e = refl
pair_first h l i (Some u) (Some v) (Ok bytes) b e = e
pair_first h l i (Some u) (Some v) (Err f) b e = e

pairs_decode : (i : ℕ) (ds : List ℕ) → length ds % 2 ≡ 0 → is_ok (decode_pairs i ds) ≡ all_digits ds
unfolding decode_pairs
pairs_decode i [] even = refl
pairs_decode i (d ∷ []) even = absurd (let odd : 1 ≡ 0 = even in cc)
pairs_decode i (h ∷ l ∷ ds) even =
    pair_first h l i (hex_digit_value h) (hex_digit_value l) (decode_pairs (i + 2) ds) (all_digits ds)
    (pairs_decode (i + 2) ds (omega (arith, even)))

pub even_decodes : (ds : List ℕ) → length ds % 2 ≡ 0 → is_ok (decode_of ds) ≡ all_digits ds
even_decodes ds even = rw (ne_eqb (length ds % 2) 1 (λ odd. absurd (omega (arith, even, odd)))) (pairs_decode 0 ds even)

first_not : (b c : Bool) → not b ≡ true → (b && c) ≡ false
first_not true c e = absurd (let no : false ≡ true = e in cc)
first_not false c e = refl

first_is : (b c : Bool) → not b ≡ false → (b && c) ≡ c
first_is true c e = refl
first_is false c e = absurd (let no : true ≡ false = e in cc)

-- a byte that is no digit ends the search
pub hex_stops : (ds : List ℕ) (i : ℕ) (b : Bool) → length ds % 2 ≡ 0 → i < length ds → all_digits (drop i ds) ≡ all_digits ds
    → b ≡ is_hex_digit (get_or ds i 0) → not b ≡ true → false ≡ is_ok (decode_of ds)
hex_stops ds i b even within up is other =
    sym (even_decodes ds even ∙ sym up ∙ all_digits_step ds i within ∙ ap (λ (x : Bool). x && all_digits (drop (suc i) ds)) (sym is)
    ∙ first_not b (all_digits (drop (suc i) ds)) other)

pub hex_goes_on : (ds : List ℕ) (i : ℕ) (b : Bool) → i < length ds → all_digits (drop i ds) ≡ all_digits ds
    → b ≡ is_hex_digit (get_or ds i 0) → not b ≡ false → all_digits (drop (i + 1) ds) ≡ all_digits ds
hex_goes_on ds i b within up is digit =
    let next : suc i ≡ i + 1 = omega arith in
    let on : all_digits (drop (suc i) ds) ≡ all_digits ds =
    sym (all_digits_step ds i within ∙ ap (λ (x : Bool). x && all_digits (drop (suc i) ds)) (sym is)
    ∙ first_is b (all_digits (drop (suc i) ds)) digit) ∙ up in
    subst (λ (k : ℕ). all_digits (drop k ds) ≡ all_digits ds) next on

pub hex_ends : (ds : List ℕ) (i : ℕ) → length ds % 2 ≡ 0 → ¬ (i < length ds) → all_digits (drop i ds) ≡ all_digits ds
    → true ≡ is_ok (decode_of ds)
hex_ends ds i even past up = sym (even_decodes ds even ∙ sym up ∙ all_digits_end ds i past)

octets_from : (r : Result (List ℕ) FromHexError) → true ≡ is_ok r → IsSome (result_ok r)
octets_from (Ok bytes) e = refl
octets_from (Err f) e = absurd (let no : true ≡ false = e in cc)

octets_not : (r : Result (List ℕ) FromHexError) → false ≡ is_ok r → result_ok r ≡ None
octets_not (Ok bytes) e = absurd (let no : false ≡ true = e in cc)
octets_not (Err f) e = refl

pub octets_there : (hex : List ℕ) → (length hex == 0) ≡ false → true ≡ is_ok (decode_of hex) → IsSome (octets_of hex)
unfolding octets_of
octets_there hex some e = rw some (octets_from (decode_of hex) e)

pub octets_none : (hex : List ℕ) → (length hex == 0) ≡ false → false ≡ is_ok (decode_of hex) → octets_of hex ≡ None
unfolding octets_of
octets_none hex some e = rw some (octets_not (decode_of hex) e)
