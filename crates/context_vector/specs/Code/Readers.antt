-- Lists that are read from the front.
use Rattle.std.specs.Prelude.{List, ◌++◌}
use Rattle.context_vector.specs.Code.Pieces.{joined}

-- what is left of the part that is being read, and the pieces after it
pub record ReaderData (A : Type 0) : Type 0 where
  pub front : List A
  pub pieces : List (List A)

-- the elements that are left
abbrev pub left_of : {A : Type 0} → ReaderData A → List A
left_of r = r.front ++ joined r.pieces
