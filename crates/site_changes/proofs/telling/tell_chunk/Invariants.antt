-- The cells in front of the chunk and so many of its own were told; the others are left to be read.
use Rattle.std.proofs.Common.{◌≡◌, ◌++◌, [], take, drop, get_or}
use Rattle.tombstone_text.specs.Chunks.{flat, shown_in}
use Rattle.change_list.specs.Told.{told}
use Rattle.site_changes.specs.Code.Marks.{marks_of}
use Rattle.site_changes.proofs.telling.tell_chunk.Given as goal

abbrev pub invariant-loop-i : goal.invariant-loop-i
invariant-loop-i l =
    (l.changes.items ≡ told (marks_of l.at (flat (take l.chunk l.cells.chunks) ++ take l.i (get_or l.cells.chunks l.chunk []))))
    × (l.place ≡ shown_in (flat (take l.chunk l.cells.chunks) ++ take l.i (get_or l.cells.chunks l.chunk [])))
    × (l.left ≡ drop l.i (get_or l.cells.chunks l.chunk []))
