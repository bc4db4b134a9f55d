-- Texts between quotes, each on one line.
use Rattle.std.specs.Prelude.{ℕ, ◌/◌, ◌%◌, ◌==◌, ◌||◌, nat_lt, Bool, List, [], ◌∷◌, ◌++◌, codes, encode_utf8, slice_index, if◌then◌else◌}
use Rattle.std.specs.List.{flat_map}
use Rattle.hex.specs.Hex.{lower_digits}

-- the digit of a number below 16 in base 16, a small letter from 10 on
abbrev pub digit_of : ℕ → ℕ
digit_of n = slice_index lower_digits n

-- a number below 256 in base 16, by as few digits as do
abbrev pub few_digits : ℕ → List ℕ
few_digits n = if nat_lt n 16 then digit_of n ∷ [] else digit_of (n / 16) ∷ digit_of (n % 16) ∷ []

-- the control characters of ASCII: those below the blank, and 127
abbrev pub is_control : ℕ → Bool
is_control ch = nat_lt ch 32 || (ch == 127)

-- `\u{HEX}`
abbrev pub escaped : ℕ → List ℕ
escaped ch = codes "\\u{" ++ (few_digits ch ++ codes "}")

-- a character between quotes: a line feed, a tab, a carriage return, a quote or a backslash is a letter or itself behind a backslash,
-- another control character its number, and each other one is itself
unfoldable pub quoted_character : ℕ → List ℕ
quoted_character ch =
    if ch == 10 then codes "\\n"
    else (if ch == 9 then codes "\\t"
    else (if ch == 13 then codes "\\r"
    else (if ch == 34 then codes "\\\""
    else (if ch == 92 then codes "\\\\"
    else (if is_control ch then escaped ch
    else encode_utf8 ch)))))

-- a text between quotes
abbrev pub quoted : List ℕ → List ℕ
quoted text = codes "\"" ++ (flat_map quoted_character text ++ codes "\"")
