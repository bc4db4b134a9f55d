use Rattle.std.proofs.Common.{length}
use Rattle.log_listings.proofs.Feeding.{FeedsFront, IsCountedRest, counts_bytes}
use Rattle.log_listings.proofs.hashing.feed_originals.Given as goal

-- the originals of the sites that were read were fed, and counts are left
abbrev pub invariant-loop-site : goal.invariant-loop-site
invariant-loop-site l = record {
  fed : FeedsFront l.fn.hasher l.hasher (counts_bytes l.book.ops l.book.have.set.counts) (counts_bytes l.book.ops l.left);
  rest : IsCountedRest l.left;
}

abbrev pub decreases-loop-site : goal.decreases-loop-site
decreases-loop-site l = length l.left
