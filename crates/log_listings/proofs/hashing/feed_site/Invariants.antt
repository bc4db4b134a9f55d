use Rattle.std.specs.List.{flat_map}
use Rattle.log_listings.specs.Digests.{content_of, originals_from}
use Rattle.log_listings.specs.Code.Hashing.{Feeds}
use Rattle.log_listings.proofs.hashing.feed_site.Given as goal

-- the first originals of the site were fed
abbrev pub invariant-loop-k : goal.invariant-loop-k
invariant-loop-k l = Feeds l.fn.hasher l.hasher (flat_map (content_of l.book.ops) (originals_from l.site 1 l.k))
