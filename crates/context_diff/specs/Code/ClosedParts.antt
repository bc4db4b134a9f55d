-- Closed contexts within another one, and who made an operation.
use Rattle.std.specs.Prelude.{ℕ, List}
use Rattle.context_vector.specs.Contexts.{ContextData, Within}
use Rattle.context_diff.specs.Operations.{OpData, inserting, deleting, undoing}
use Rattle.context_diff.specs.Histories.{IsClosed}

-- the context c is closed, and lies within v
pub record IsClosedPart (h : List OpData) (v c : ContextData) : Type 0 where
  pub within : Within c v
  pub closed : IsClosed h c

-- the site that made the operation
abbrev pub author_of : OpData → ℕ
author_of (inserting n p text c) = n.site
author_of (deleting n p c) = n.site
author_of (undoing a t g c) = a
