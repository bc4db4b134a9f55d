-- What stands at a place of a list, and what is in the list.
use Rattle.std.proofs.Common.{◌≡◌, ℕ, ◌<◌, List, ◌∙◌, ap, length}
use Rattle.std.specs.Prelude.{Contains, Some, slice_get}
use Rattle.std.proofs.lemmas.Option.{slice_get_within, get_or_from_slice_get, slice_get-get_or}

pub contains_at : {X : Type 0} (xs : List X) (i : ℕ) (x : X) → slice_get xs i ≡ Some x → Contains xs x
contains_at xs i x at = (i, slice_get_within xs i x at, get_or_from_slice_get xs i x x at)

-- where an element of the list stands
pub record StandsAt {X : Type 0} (xs : List X) (x : X) : Type 0 where
  pub place : ℕ
  pub within : place < length xs
  pub at : slice_get xs place ≡ Some x

pub stands : {X : Type 0} (xs : List X) (x : X) → Contains xs x → StandsAt xs x
stands xs x c = record { place = c.0; within = c.1; at = slice_get-get_or xs c.0 x c.1 ∙ ap Some c.2 }
