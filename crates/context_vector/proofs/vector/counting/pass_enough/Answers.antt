use Rattle.std.proofs.Common.{◌≡◌, ◌≤◌, ◌++◌, length, take, drop, sym, ap, subst, ◌∙◌, arith}
use Rattle.std.proofs.lemmas.List.{length-drop}
use Rattle.context_vector.specs.Contexts.{count_in, AreCounts}
use Rattle.context_vector.specs.Shortfalls.{first_short}
use Rattle.context_vector.specs.Code.Counting.{AreEnough}
use Rattle.context_vector.specs.Code.Pieces.{joined}
use Rattle.context_vector.specs.Code.Readers.{left_of}
use Rattle.context_vector.proofs.Counting.{in_parts, counts_drop, parts_passed}
use Rattle.context_vector.proofs.vector.counting.pass_enough.Goals as goal

pub loop-had-preserved : goal.loop-had-preserved
loop-had-preserved c =
    let n = c.min-n.result in
    let p = c.front-had.result.now in let ps = joined c.front-had.new.self.pieces in
    let q = c.front-wanted.result.now in let qs = joined c.front-wanted.new.self.pieces in
    let mine = in_parts c.loop-had.mine c.front-had.new.self p c.front-had.ensures.same c.front-had.ensures.front in
    let theirs = in_parts c.loop-had.theirs c.front-wanted.new.self q c.front-wanted.ensures.same c.front-wanted.ensures.front in
    let mine_left : left_of c.pass.new.self ≡ drop n (p ++ ps) =
    c.pass.ensures ∙ ap (λ xs. drop n (xs ++ ps)) (sym c.front-had.ensures.front) in
    let theirs_left : left_of c.pass-in-loop-had.new.self ≡ drop n (q ++ qs) =
    c.pass-in-loop-had.ensures ∙ ap (λ xs. drop n (xs ++ qs)) (sym c.front-wanted.ensures.front) in
    let short : n ≤ length p = omega (arith, c.split_at.ensures.back_len) in
    let short' : n ≤ length q = omega (arith, c.split_at-in-loop-had.ensures.back_len) in
    let first : AreEnough (take n p) c.split_at-in-loop-had.result.0.now =
    let same : AreEnough c.split_at.result.0.now c.split_at-in-loop-had.result.0.now = c.are_enough.ensures c.if-not-are_enough.false in
    subst (λ xs. AreEnough xs c.split_at-in-loop-had.result.0.now) c.split_at.ensures.front same in
    let enough : AreEnough (take n p) (take n q) = subst (AreEnough (take n p)) c.split_at-in-loop-had.ensures.front first in
    let are = subst (AreCounts 0) mine c.loop-had.invariant.mine in
    let are' = subst (AreCounts 0) theirs c.loop-had.invariant.theirs in
    record {
      mine = subst (AreCounts 0) (sym mine_left) (counts_drop 0 n (p ++ ps) are);
      theirs = subst (AreCounts 0) (sym theirs_left) (counts_drop 0 n (q ++ qs) are');
      same = c.loop-had.invariant.same
          ∙ ((λ j. first_short (count_in (mine j)) (theirs j))
          ∙ (parts_passed n p q ps qs short short' enough are' ∙ (λ j. first_short (count_in (sym mine_left j)) (sym theirs_left j))));
      fewer = omega (arith, c.loop-had.invariant.fewer, ap length mine, ap length mine_left, length-drop n (p ++ ps));
      fewer_wanted = omega (arith, c.loop-had.invariant.fewer_wanted, ap length theirs, ap length theirs_left, length-drop n (q ++ qs));
    }
