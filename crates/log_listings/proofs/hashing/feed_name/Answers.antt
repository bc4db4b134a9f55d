use Rattle.std.proofs.Common.{◌≡◌, ◌+◌, ℕ, sym, subst, arith}
use Rattle.std.specs.List.{flat_map}
use Rattle.log_listings.specs.Digests.{content_of, group_bytes, groups_from}
use Rattle.log_listings.specs.Code.Hashing.{Feeds}
use Rattle.log_listings.proofs.Feeding.{fed_nothing, fed_then, fed_same, groups_more}
use Rattle.log_listings.proofs.hashing.feed_name.Goals as goal

pub loop-k-init : goal.loop-k-init
loop-k-init c = λ h. fed_nothing c.args.hasher.now

pub loop-k-preserved : goal.loop-k-preserved
loop-k-preserved c = λ h.
    let n = c.args.name.now in
    let old = c.args.hasher.now in
    let new = c.feed_group.new.hasher in
    fed_same old new _ _ (sym (groups_more h n c.loop-k.k))
    (fed_then old c.loop-k.hasher new (flat_map (content_of h) (groups_from n 1 c.loop-k.k)) (group_bytes n (c.loop-k.k + 1))
    (c.loop-k.invariant h) c.feed_group.ensures)

pub returns : goal.returns
returns c = λ h.
    let all : c.loop-k.k ≡ c.args.generation = omega arith in
    subst (λ (g : ℕ). Feeds c.args.hasher.now c.loop-k.hasher (flat_map (content_of h) (groups_from c.args.name.now 1 g))) all
    (c.loop-k.invariant h)
