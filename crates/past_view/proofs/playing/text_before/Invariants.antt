-- The first operations were executed.
use Rattle.past_view.specs.Code.Playing.{IsAfter}
use Rattle.past_view.proofs.playing.text_before.Given as goal

abbrev pub invariant-loop-i : goal.invariant-loop-i
invariant-loop-i l = IsAfter l.site.history l.site.forms l.i l.cells.cells l.cells.text
