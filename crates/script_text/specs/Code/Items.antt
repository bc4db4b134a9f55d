-- A list whose items are taken one after the other.
use Rattle.std.specs.Prelude.{ℕ, List, [], ◌==◌, Option, Some, None}
use Rattle.std.specs.List.{slice_split}

-- the items of what is left, if something is
abbrev pub left_items : Option (List ℕ) → List (List ℕ)
left_items None = []
left_items (Some bs) = slice_split (λ b. b == 44) bs
