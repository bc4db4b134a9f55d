-- The cells of so many chunks were told.
use Rattle.std.proofs.Common.{◌≡◌, take}
use Rattle.tombstone_text.specs.Chunks.{flat, shown_in}
use Rattle.change_list.specs.Told.{told}
use Rattle.site_changes.specs.Code.Marks.{marks_of}
use Rattle.site_changes.proofs.telling.all_changes.Given as goal

abbrev pub invariant-loop-i : goal.invariant-loop-i
invariant-loop-i l =
    (l.changes.items ≡ told (marks_of l.at (flat (take l.i l.cells.chunks))))
    × (l.place ≡ shown_in (flat (take l.i l.cells.chunks)))
