use Rattle.std.proofs.Common.{length}
use Rattle.log_listings.proofs.Feeding.{FeedsFront, entries_bytes}
use Rattle.log_listings.proofs.hashing.feed_groups.Given as goal

-- the groups of the names that were read were fed
abbrev pub invariant-loop-undone : goal.invariant-loop-undone
invariant-loop-undone l =
    FeedsFront l.fn.hasher l.hasher (entries_bytes l.book.ops l.book.have.set.entries) (entries_bytes l.book.ops l.left)

abbrev pub decreases-loop-undone : goal.decreases-loop-undone
decreases-loop-undone l = length l.left
