-- An original without its context, taken apart and put together.
use Rattle.std.specs.Prelude.{ℕ, List, Option, Some, None}
use Rattle.op_name.specs.NameData.{NameData}
use Rattle.flat_history.specs.Checkpoints.{Placed, inserted, deleted}

-- an insert where there is a text, and else a delete
abbrev pub placed_as : NameData → ℕ → Option (List ℕ) → Placed
placed_as n p (Some text) = inserted n p text
placed_as n p None = deleted n p

abbrev pub place_of : Placed → ℕ
place_of (inserted n p text) = p
place_of (deleted n p) = p

abbrev pub text_of : Placed → Option (List ℕ)
text_of (inserted n p text) = Some text
text_of (deleted n p) = None
