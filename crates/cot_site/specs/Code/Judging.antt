-- What is known of an operation that was judged.
use Rattle.std.specs.Prelude.{◌≡◌, ℕ, true, List}
use Rattle.context_diff.specs.Operations.{OpData, context_of, is_original}
use Rattle.context_diff.specs.Histories.{cells_in}

-- the context of the operation, if that is an insert or delete, has so many cells
abbrev pub HasCells : List OpData → OpData → ℕ → Type 0
HasCells h o n = is_original o ≡ true → n ≡ cells_in h (context_of o)
