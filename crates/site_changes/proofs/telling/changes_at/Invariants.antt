-- The cells in front of the next place were told.
use Rattle.std.proofs.Common.{◌≡◌, length, take}
use Rattle.change_list.specs.Told.{told}
use Rattle.site_changes.specs.Code.Marks.{marks_of}
use Rattle.site_changes.proofs.Places.{next_place}
use Rattle.site_changes.proofs.telling.changes_at.Given as goal

abbrev pub invariant-loop-place : goal.invariant-loop-place
invariant-loop-place l =
    l.changes.items ≡ told (marks_of l.at (take (next_place l.places l.place-index (length l.cells.cells)) l.cells.cells))
