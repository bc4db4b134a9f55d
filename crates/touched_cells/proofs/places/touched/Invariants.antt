use Rattle.std.proofs.Common.{ℕ, []}
use Rattle.std.specs.Prelude.{◌↔◌, Contains}
use Rattle.ttf_form.specs.Cells.{applied}
use Rattle.transform_rec.specs.Executing.{executed}
use Rattle.touched_cells.specs.Code.Seeking.{IsTouchedBetween}
use Rattle.touched_cells.proofs.places.touched.Given as goal

-- the places are those that the operations before this one touched
abbrev pub invariant-loop-i : goal.invariant-loop-i
invariant-loop-i l = (p : ℕ) → Contains l.places.items p ↔ IsTouchedBetween l.site.history l.from l.i (executed applied [] l.site.forms) p
