use Rattle.std.proofs.Common.{◌≡◌, ℕ, List, ◌∷◌, ◌++◌, sym, ap, ◌∙◌}
use Rattle.wire_codec.proofs.Pushes.{FollowsCounts, follows_counts}
use Rattle.wire_codec.proofs.vectors.with_counts.Goals as goal

-- the next count follows those that were pushed
follows : (c : goal.After-vector-1) → FollowsCounts c.loop-site.vector.set.counts (c.in-Some.site, c.in-Some.count)
follows c =
    let pair : ℕ × ℕ = (c.in-Some.site, c.in-Some.count) in
    let before : List (ℕ × ℕ) = c.loop-site.vector.set.counts in
    let parts : before ++ pair ∷ c.next.new.self ≡ c.args.counts.now =
    ap (λ (t : List (ℕ × ℕ)). before ++ t) (sym c.in-Some.ensures.steps) ∙ c.loop-site.invariant.0 in
    follows_counts c.args.counts.now before c.next.new.self pair c.requires parts

pub push_count-requires-clause-last : goal.push_count-requires-clause-last
push_count-requires-clause-last c = (follows c).last

pub push_count-requires-clause-site : goal.push_count-requires-clause-site
push_count-requires-clause-site c = (follows c).site

pub push_count-requires-clause-least : goal.push_count-requires-clause-least
push_count-requires-clause-least c = (follows c).least

pub push_count-requires-clause-greatest : goal.push_count-requires-clause-greatest
push_count-requires-clause-greatest c = (follows c).greatest
