-- What is kept of the lines that are left of an input.
use Rattle.std.specs.Prelude.{ℕ, List}

-- the bytes that are kept, one line's after the other's; the length of each line that a line feed ended; and that of the line
-- after them, which no line feed ended, 0 where there is none
pub record KeptData : Type 0 where
  pub bytes : List ℕ
  pub ended : List ℕ
  pub last : ℕ
