-- How many cells an insert puts.
use Rattle.std.specs.Prelude.{ℕ, ◌≤◌, List, length, max, min}
use Rattle.std.proofs.Common.{arith}
use Rattle.op_name.specs.declared.limits.TheConstants.{LETTERS}

-- one for each character of its text, which has 1 to LETTERS
abbrev pub cell_count : List ℕ → ℕ
cell_count text = max 1 (min LETTERS (length text))

pub some_cells : (text : List ℕ) → 1 ≤ cell_count text
some_cells text = omega arith

pub few_cells : (text : List ℕ) → cell_count text ≤ LETTERS
few_cells text = omega arith
