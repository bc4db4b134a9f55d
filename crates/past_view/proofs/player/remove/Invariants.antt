-- So many bytes at the place are gone.
use Rattle.std.proofs.Common.{◌≡◌, ◌+◌, ◌++◌, take, drop}
use Rattle.past_view.proofs.player.remove.Given as goal

abbrev pub invariant-loop-k : goal.invariant-loop-k
invariant-loop-k l = l.text.items ≡ take l.at l.fn.text.items ++ drop (l.at + l._k) l.fn.text.items
