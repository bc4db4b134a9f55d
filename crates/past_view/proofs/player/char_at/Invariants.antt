-- So many characters stand in the chunks so far, all before the place.
use Rattle.std.proofs.Common.{◌≡◌, ◌≤◌, length, take}
use Rattle.tombstone_text.specs.Chunks.{joined}
use Rattle.past_view.proofs.player.char_at.Given as goal

abbrev pub invariant-loop-i : goal.invariant-loop-i
invariant-loop-i l = (l.at ≡ length (joined (take l.i l.cells.texts))) × (l.at ≤ l.place)
