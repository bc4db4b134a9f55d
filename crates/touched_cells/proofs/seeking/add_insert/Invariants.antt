use Rattle.ttf_form.specs.Cells.{cells_of}
use Rattle.touched_cells.specs.Code.Seeking.{AreWith, IsOneOf}
use Rattle.touched_cells.proofs.seeking.add_insert.Given as goal

-- the places of the cells of smaller offsets were added
abbrev pub invariant-loop-offset : goal.invariant-loop-offset
invariant-loop-offset l = AreWith (IsOneOf (cells_of l.cells.cells) l.name l.offset) l.initial.places.items l.places.items
