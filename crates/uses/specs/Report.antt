-- What the program prints for two sites that have the same operations.
use Rattle.std.specs.Prelude.{ℕ, List, ◌++◌, codes}
use Rattle.context_diff.specs.Operations.{OpData}
use Rattle.context_diff.specs.Histories.{Same}
use Rattle.uses.specs.declared.stop.Stop.{Stop}
use Rattle.uses.specs.declared.stop.Stop.TheVariants as stop

-- a line for each of the two, both with this text
abbrev pub two_lines : List ℕ → List ℕ
two_lines text = codes "Ann: " ++ (text ++ (codes "\nBob: " ++ (text ++ codes "\n")))

-- why there are no lines: one of the two has what the other lacks; or they have the same, but out of memory
abbrev pub IsUnreported : List OpData → List OpData → Stop → Type 0
IsUnreported ann bob stop.Memory = Same ann bob
IsUnreported ann bob stop.Edit = ⊥
IsUnreported ann bob stop.NoFrame = ⊥
IsUnreported ann bob stop.Refused = ⊥
IsUnreported ann bob stop.Apart = ¬ Same ann bob
IsUnreported ann bob (stop.Output error) = ⊥
