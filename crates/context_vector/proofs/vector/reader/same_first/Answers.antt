use Rattle.std.proofs.Common.{◌≡◌, ◌≤◌, ◌++◌, true, length, take, arith}
use Rattle.std.proofs.lemmas.List.{length-append, length-take-le}
use lib.Pointwise.{pointwise}
use Rattle.context_vector.specs.Code.Readers.{left_of}
use Rattle.context_vector.proofs.Parts.{are_the_same, goes_on, passed_on}
use Rattle.context_vector.proofs.vector.reader.same_first.Goals as goal

pub loop-more-preserved : goal.loop-more-preserved
loop-more-preserved g c =
    let part = c.loop-more.invariant.0 in
    let k = c.min-k.result in
    let p = c.front-one.result.now in
    let q = c.front-other.result.now in
    let short : k ≤ length p = omega (arith, c.split_at.ensures.back_len) in
    let short' : k ≤ length q = omega (arith, c.split_at-else-k-eq0.ensures.back_len) in
    let equal : pointwise g.T.PartialEq.eq (take k p) (take k q) ≡ true = cc in
    let same = are_the_same g.T.PartialEq.eq g.met.T.Element.exact (take k p) (take k q) equal in
    let mine = goes_on k c.front-one.new.self p c.front-one.ensures.front short in
    let theirs = goes_on k c.front-other.new.self q c.front-other.ensures.front short' in
    let mine_left : left_of c.loop-more.mine ≡ take k p ++ left_of c.pass.new.self = cc in
    let theirs_left : left_of c.loop-more.theirs ≡ take k p ++ left_of c.pass-in-loop-more.new.self = cc in (
      part ++ take k p,
      omega (arith, length-append part (take k p), length-take-le k p short, c.loop-more.invariant.1),
      passed_on part _ _ (take k p) _ c.loop-more.invariant.2 mine_left,
      passed_on part _ _ (take k p) _ c.loop-more.invariant.3 theirs_left,
    )
