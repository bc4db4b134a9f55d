use Rattle.std.proofs.Common.{arith}
use Rattle.wire_codec.proofs.CallerLemmas.{FollowsCounts}
use Rattle.cotpad_c.proofs.Spelled.{next_count}
use Rattle.cotpad_c.specs.Pasts.{count_told}
use Rattle.cotpad_c.proofs.sets.with_counts.Goals as goal

-- the next count follows those that were pushed
follows : (c : goal.After-row_known-1) → FollowsCounts c.loop-count.set.set.counts (count_told c.in-Some.count.now)
follows c =
    next_count c.args.counts.now c.loop-count.set.set.counts c.loop-count.left.now c.in-Some.others.now c.in-Some.count.now c.requires
    c.loop-count.invariant.0 c.in-Some.ensures.cases.0

pub overflow_cast-count : goal.overflow_cast-count
overflow_cast-count c = let site = (follows c).site in omega (arith, site)

pub push_count-requires-clause-last : goal.push_count-requires-clause-last
push_count-requires-clause-last c = (follows c).last

pub push_count-requires-clause-site : goal.push_count-requires-clause-site
push_count-requires-clause-site c = (follows c).site

pub push_count-requires-clause-least : goal.push_count-requires-clause-least
push_count-requires-clause-least c = (follows c).least

pub push_count-requires-clause-greatest : goal.push_count-requires-clause-greatest
push_count-requires-clause-greatest c = (follows c).greatest
