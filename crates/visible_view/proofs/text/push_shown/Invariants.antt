use Rattle.std.proofs.Common.{◌≡◌, ◌++◌, take}
use Rattle.tombstone_text.specs.Chunks.{flat, joined}
use Rattle.visible_view.specs.View.{shown_text}
use Rattle.visible_view.proofs.text.push_shown.Given as goal

abbrev pub invariant-loop-i : goal.invariant-loop-i
invariant-loop-i l = l.out.items ≡ l.fn.out.items ++ shown_text (flat (take l.i l.cells.chunks)) (joined (take l.i l.cells.texts))
