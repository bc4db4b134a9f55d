use Rattle.std.proofs.Common.{◌≡◌, ℕ, drop, length, take}
use Rattle.context_diff.specs.Code.Counting.{cells_listed}
use Rattle.context_diff.proofs.book.Book.counted.Given as goal

-- the cells of the sites so far
abbrev pub invariant-loop-site : goal.invariant-loop-site
invariant-loop-site l = (i : ℕ) × (l.left ≡ drop i l.v.set.counts) × (l.total ≡ cells_listed l.self.ops (take i l.v.set.counts))

abbrev pub decreases-loop-site : goal.decreases-loop-site
decreases-loop-site l = length l.left
