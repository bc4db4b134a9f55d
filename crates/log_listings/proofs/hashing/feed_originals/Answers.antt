use Rattle.std.proofs.Common.{◌≡◌, List, ℕ, ap, sym, subst, ◌∙◌}
use Rattle.context_vector.specs.Contexts.{AreCounts}
use Rattle.context_vector.specs.Vectors.{VectorData}
use Rattle.log_listings.proofs.Feeding.{FeedsFront, counts_bytes, front_none, front_all, site_fed, none_left, counted_rest, counted_first, counted_next}
use Rattle.log_listings.proofs.hashing.feed_originals.Goals as goal

pub loop-site-init : goal.loop-site-init
loop-site-init c =
    let h = c.args.book.now.ops in
    let a = c.args.hasher.now in
    let all = c.args.book.now.have.set.counts in
    let is : c.sites_read-left.result ≡ all = c.sites_read-left.ensures ∙ ap (λ (v : VectorData). v.set.counts) c.have-2.ensures in
    let counts : AreCounts 0 all = subst (λ (v : VectorData). AreCounts 0 v.set.counts) c.have.ensures c.known.ensures.counts in
    record {
      fed =
          subst (λ (ps : List (ℕ × ℕ)). FeedsFront a a (counts_bytes h all) (counts_bytes h ps)) (sym is)
          (front_none a (counts_bytes h all));
      rest = counted_rest 0 c.sites_read-left.result (subst (AreCounts 0) (sym is) counts);
    }

pub feed_site-requires-clause-site : goal.feed_site-requires-clause-site
feed_site-requires-clause-site c =
    (counted_first c.loop-site.left (c.in-Some.site, c.in-Some.count) c.loop-site.invariant.rest c.in-Some.ensures.first).0

pub feed_site-requires-clause-count : goal.feed_site-requires-clause-count
feed_site-requires-clause-count c =
    (counted_first c.loop-site.left (c.in-Some.site, c.in-Some.count) c.loop-site.invariant.rest c.in-Some.ensures.first).1

pub loop-site-preserved : goal.loop-site-preserved
loop-site-preserved c =
    let h = c.args.book.now.ops in
    record {
      fed =
          site_fed h c.args.hasher.now c.loop-site.hasher c.feed_site.new.hasher (counts_bytes h c.args.book.now.have.set.counts)
          c.loop-site.left c.next.new.self (c.in-Some.site, c.in-Some.count) c.loop-site.invariant.fed c.in-Some.ensures.first
          c.next.ensures.rest c.in_ok-feed_site.ensures;
      rest = counted_next c.loop-site.left c.next.new.self c.loop-site.invariant.rest c.next.ensures.rest;
    }

pub returns : goal.returns
returns c =
    let h = c.args.book.now.ops in
    front_all c.args.hasher.now c.loop-site.hasher (counts_bytes h c.args.book.now.have.set.counts) (counts_bytes h c.loop-site.left)
    c.loop-site.invariant.fed (ap (counts_bytes h) (none_left c.loop-site.left c.in_default.ensures.first))
