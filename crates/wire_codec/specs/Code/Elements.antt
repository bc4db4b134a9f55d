-- Elements of one size, side by side in bytes.
use Rattle.std.specs.Prelude.{ℕ, zero, suc, List, [], ◌∷◌, take, drop}
use Rattle.std.specs.Int.{w32, from_be_bytes}

-- the first n elements, of `size` bytes each
unfoldable pub elements : {A : Type 0} → (List ℕ → A) → ℕ → ℕ → List ℕ → List A
elements one size zero bytes = []
elements one size (suc n) bytes = one (take size bytes) ∷ elements one size n (drop size bytes)

-- the bytes of a character
abbrev pub character_len : ℕ
character_len = 4

abbrev pub raw_character : List ℕ → ℕ
raw_character bytes = from_be_bytes w32 bytes
