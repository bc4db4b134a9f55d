-- How a text is typed: in parts.
use Rattle.std.specs.Prelude.{ℕ, zero, suc, List, [], ◌∷◌, length, take, drop}

-- a text is cut from the front into parts of so many characters and a shorter last one, into at most so many parts
unfoldable pub parts_of : ℕ → ℕ → List ℕ → List (List ℕ)
parts_of size most [] = []
parts_of size zero (ch ∷ cs) = []
parts_of size (suc most) (ch ∷ cs) = take size (ch ∷ cs) ∷ parts_of size most (drop size (ch ∷ cs))

-- all of them: there are no more than characters
abbrev pub parts : ℕ → List ℕ → List (List ℕ)
parts size text = parts_of size (length text) text
