use Rattle.std.proofs.Common.{◌≤◌, length}
use Rattle.cot_site.specs.Sites.{state_of}
use Rattle.uses.proofs.Sending.{AreSentFrom}
use Rattle.uses.proofs.mail.send_all.Given as goal

-- the last operations were sent
abbrev pub invariant-loop-left : goal.invariant-loop-left
invariant-loop-left l = (l.left ≤ length l.book.ops) × AreSentFrom (state_of l.fn.to) l.book.ops l.left (state_of l.to)

abbrev pub decreases-loop-left : goal.decreases-loop-left
decreases-loop-left l = l.left
