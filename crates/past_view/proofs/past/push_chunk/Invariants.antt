-- so many cells of the chunk were read, and their characters appended
use Rattle.std.proofs.Common.{◌≡◌, ◌++◌, [], take, drop, get_or}
use Rattle.past_view.specs.Code.PastCells.{past_text}
use Rattle.past_view.proofs.past.push_chunk.Given as goal

abbrev pub invariant-loop-i : goal.invariant-loop-i
invariant-loop-i l =
    (l.out.items
    ≡ l.fn.out.items ++ past_text l.at.set (take l.i (get_or l.cells.chunks l.chunk [])) (take l.i (get_or l.cells.texts l.chunk [])))
    × (l.left ≡ drop l.i (get_or l.cells.chunks l.chunk []))
