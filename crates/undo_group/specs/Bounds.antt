-- What the list of a book keeps.
use Rattle.std.specs.Prelude.{◌≤◌, List}
use Rattle.context_diff.specs.Operations.{OpData}
use Rattle.ttf_form.specs.declared.include.TheConstants.{CELLS}
use Rattle.context_diff.specs.Histories.{IsValid, all_cells}

-- a valid history whose inserts put at most as many cells as a state may have
pub record IsShortHistory (h : List OpData) : Type 0 where
  pub valid : IsValid h
  pub short : all_cells h ≤ CELLS
