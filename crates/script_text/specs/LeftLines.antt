-- Lines of an input that comes in pieces, as contracts see them.
use Rattle.std.specs.Prelude.{ℕ, Bool, List, Option}
use Rattle.script_text.specs.declared.reading.line.LineBad.{LineBad}

-- a line: its first bytes, one more at most than a line may have; the number of all its bytes; whether a line feed ended it
pub record LeftLine : Type 0 where
  pub bytes : List ℕ
  pub len : ℕ
  pub ended : Bool

-- an input so far: the lines that are left; how many bytes were fed, up to one past the limit; whether the input has ended;
-- and the cause for which its front line was refused
pub record InputData : Type 0 where
  pub lines : List LeftLine
  pub fed : ℕ
  pub over : Bool
  pub refusal : Option LineBad
