use Rattle.std.proofs.Common.{◌≡◌, ◌∷◌, ◌++◌, sym, ap, ◌∙◌}
use Rattle.context_vector.specs.Contexts.{put_count}
use Rattle.context_vector.specs.Equality.{counts_decide, count_list_decides}
use Rattle.context_vector.specs.Code.Readers.{left_of}
use Rattle.context_vector.proofs.Merging.{begins}
use Rattle.context_vector.proofs.Counting.{put_between}
use Rattle.context_vector.proofs.vector.follows.has_put.Goals as goal

pub returns : goal.returns
returns c alike =
    let n = c.name.inside in
    let lower = c.seek-lower.ensures in
    let both = c.same_first.ensures c.if-not-same_first.false in
    let left = left_of c.seek-lower.new.counts in
    let right = left_of c.same_first.new.theirs in
    let rest = left_of c.pass_site.new.counts in
    let first : c.in-Some.count ≡ (n.site, n.number) =
    (counts_decide c.in-Some.count c.new.result).0 (sym c.eq.ensures ∙ c.if-eq.true) ∙ c.new.ensures in
    let behind : rest ≡ left_of c.next.new.self = (count_list_decides rest (left_of c.next.new.self)).0 (sym c.are_same.ensures ∙ alike) in
    let parts : right ≡ (n.site, n.number) ∷ rest =
    begins right c.in-Some.count (sym c.next.ensures.first ∙ c.in-Some.is) ∙ (λ j. first j ∷ (sym c.next.ensures.rest ∙ sym behind) j) in
    let whole : left_of c.args.before ≡ both.0 ++ left_of c.same_first.new.mine = ap left_of (sym c.again-whole.ensures) ∙ both.2 in
    let is = both.3 ∙ ap (λ xs. both.0 ++ xs) parts in
    let long = lower.1 ∙ sym both.1 in
    put_between _ _ lower.0 both.0 left _ rest n.site n.number long lower.2 whole lower.3 (c.pass_site.ensures n.number) is
    ∙ (λ j. put_count (c.name.view_is j).site (c.name.view_is j).number (left_of c.args.before))
