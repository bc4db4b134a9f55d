use Rattle.std.proofs.Common.{List}
use Rattle.std.specs.List.{flat_map}
use Rattle.context_diff.specs.Operations.{OpData}
use Rattle.log_listings.specs.Digests.{content_of, groups_from}
use Rattle.log_listings.specs.Code.Hashing.{Feeds}
use Rattle.log_listings.proofs.hashing.feed_name.Given as goal

-- the groups of the first generations were fed
abbrev pub invariant-loop-k : goal.invariant-loop-k
invariant-loop-k l = (h : List OpData) → Feeds l.fn.hasher l.hasher (flat_map (content_of h) (groups_from l.name 1 l.k))
