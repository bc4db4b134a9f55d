use Rattle.std.proofs.Common.{◌≡◌, ◌+◌, ℕ, sym, subst, arith}
use Rattle.std.specs.List.{flat_map}
use Rattle.op_name.specs.declared.member.Member.TheVariants.{Original}
use Rattle.log_listings.specs.Digests.{content_of, originals_from}
use Rattle.log_listings.specs.Code.Hashing.{Feeds}
use Rattle.log_listings.proofs.Feeding.{fed_nothing, fed_then, fed_same, originals_more}
use Rattle.log_listings.proofs.hashing.feed_site.Goals as goal

pub loop-k-init : goal.loop-k-init
loop-k-init c = fed_nothing c.args.hasher.now

pub loop-k-preserved : goal.loop-k-preserved
loop-k-preserved c =
    let h = c.args.book.now.ops in
    let old = c.args.hasher.now in
    let new = c.feed_original.new.hasher in
    let front = flat_map (content_of h) (originals_from c.args.site 1 c.loop-k.k) in
    let next = content_of h (Original (record { site = c.args.site; number = c.loop-k.k + 1 })) in
    fed_same old new _ _ (sym (originals_more h c.args.site c.loop-k.k))
    (fed_then old c.loop-k.hasher new front next c.loop-k.invariant c.in_ok-feed_original.ensures)

pub returns : goal.returns
returns c =
    let h = c.args.book.now.ops in
    let all : c.loop-k.k ≡ c.args.count = omega arith in
    subst (λ (n : ℕ). Feeds c.args.hasher.now c.loop-k.hasher (flat_map (content_of h) (originals_from c.args.site 1 n))) all
    c.loop-k.invariant
