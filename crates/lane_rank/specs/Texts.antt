-- What the bytes of a text are counted by.
use Rattle.std.specs.Prelude.{ℕ, Bool, ◌==◌, ◌||◌, nat_lt, List}
use Rattle.std.specs.List.{count_by}

-- a line feed, also as a character
abbrev pub is_newline : ℕ → Bool
is_newline b = b == 10

-- the number of line feeds
abbrev pub newlines_of : List ℕ → ℕ
newlines_of bs = count_by is_newline bs

-- the first byte of a character in UTF-8 (RFC 3629): none of 80 to BF hexadecimal, which go on in one
abbrev pub starts_char : ℕ → Bool
starts_char b = nat_lt b 0x80 || nat_lt 0xBF b

-- the number of bytes that start a character
abbrev pub starts_of : List ℕ → ℕ
starts_of bs = count_by starts_char bs
