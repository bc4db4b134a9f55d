-- What is known of contexts by the operations that came last.
use Rattle.std.specs.Prelude.{◌≡◌, ◌⊎◌, ℕ, ◌+◌, true, List, Some, slice_get}
use Rattle.context_vector.specs.Contexts.{ContextData, raised}
use Rattle.context_diff.specs.Operations.{OpData, member_of, context_of, is_original, cells_put}
use Rattle.context_diff.specs.Histories.{cells_in}
use Rattle.context_diff.specs.declared.judged.Lately.{Lately}

-- an insert or delete stands at the place, and its context has so many cells
pub record IsLately (h : List OpData) (l : Lately) : Type 0 where
  pub op : OpData
  pub there : slice_get h l.place ≡ Some op
  pub original : is_original op ≡ true
  pub cells : l.cells ≡ cells_in h (context_of op)

-- v is the context of the insert or delete o, which has `cells` cells, or that context with o itself; n is the number of cells of v
abbrev pub IsCellsBy : OpData → ContextData → ℕ → ℕ → Type 0
IsCellsBy o v cells n =
    (is_original o ≡ true)
    × (((v ≡ context_of o) × (n ≡ cells)) ⊎ ((v ≡ raised (context_of o) (member_of o)) × (n ≡ cells + cells_put o)))
