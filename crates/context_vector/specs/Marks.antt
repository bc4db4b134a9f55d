-- Marks: a number for each list of undone names and for each list of counts, by which most different lists are told apart at a look.
use Rattle.std.specs.Prelude.{ℕ, ◌+◌, ◌*◌, ◌/◌, ◌%◌, ◌^◌, List, [], ◌∷◌, ◌==◌, if◌then◌else◌, bit_xor}
use Rattle.op_name.specs.NameData.{NameData}

-- the product with 2 ^ 64 over the golden ratio: its high bits depend on all bits of x (Knuth, The Art of Computer Programming 3, 6.4)
unfoldable pub spread : ℕ → ℕ
spread x = (x * 11400714819323198485) % 2 ^ 64

-- the high half laid over the low one
unfoldable pub folded : ℕ → ℕ
folded x = bit_xor x (x / 2 ^ 32)

-- what a name adds to a mark at a generation, from site, number and generation side by side: nothing at 0, and always less than 2 ^ 33,
-- so that the
-- sum of 2 ^ 30 names is below 2 ^ 64
unfoldable pub weight : NameData → ℕ → ℕ
weight n g = if g == 0 then 0 else spread (folded (spread (n.site * 68719476736 + n.number * 65536 + g))) / 2 ^ 31

-- the mark of a list: the sum of what its names add
abbrev pub mark_of : List (NameData × ℕ) → ℕ
mark_of [] = 0
mark_of (e ∷ es) = weight e.0 e.1 + mark_of es

-- a mark with a site and its count laid over it: different earlier marks stay different
unfoldable pub laid : ℕ → ℕ × ℕ → ℕ
laid m p = (spread (folded m) + (p.0 * 2 ^ 32 + p.1)) % 2 ^ 64

-- the mark of the counts of sites, laid over an earlier one
abbrev pub counts_mark : ℕ → List (ℕ × ℕ) → ℕ
counts_mark m [] = m
counts_mark m (p ∷ ps) = counts_mark (laid m p) ps
