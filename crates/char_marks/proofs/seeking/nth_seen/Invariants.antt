use Rattle.std.proofs.Common.{◌≡◌, drop, slice_get}
use Rattle.tombstone_text.specs.Chunks.{flat}
use Rattle.char_marks.proofs.Passing.{seen_of}
use Rattle.char_marks.proofs.seeking.nth_seen.Given as goal

-- the sought one is so many further on among what is left
abbrev pub invariant-loop-i : goal.invariant-loop-i
invariant-loop-i l =
    slice_get (seen_of l.context.set l.cells.cells) l.fn.n ≡ slice_get (seen_of l.context.set (flat (drop l.i l.cells.chunks))) l.left
