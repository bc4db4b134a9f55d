use Rattle.std.proofs.Common.{◌≡◌, None, drop}
use Rattle.std.specs.Prelude.{fold}
use Rattle.char_marks.specs.Code.Cells.{cell_at}
use Rattle.char_marks.specs.Code.Tops.{top_with}
use Rattle.char_marks.proofs.reading.last_value.Given as goal

-- the last one so far, and what is left, give the last one of all
abbrev pub invariant-loop-kept : goal.invariant-loop-kept
invariant-loop-kept l =
    fold (top_with l.kind l.site.history l.raised.set.entries (cell_at l.spot.id)) l.top (drop l.kept-index l.marks)
    ≡ fold (top_with l.kind l.site.history l.raised.set.entries (cell_at l.spot.id)) None l.marks
