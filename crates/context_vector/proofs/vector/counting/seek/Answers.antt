use Rattle.std.proofs.Common.{◌+◌, ◌++◌, length, take, drop, sym, ap, subst, ◌∙◌, arith}
use Rattle.std.proofs.lemmas.List.{length-append, length-take-le}
use Rattle.context_vector.specs.Contexts.{AreCounts}
use Rattle.context_vector.specs.Code.Counting.{SitesFrom}
use Rattle.context_vector.specs.Code.Pieces.{joined}
use Rattle.context_vector.specs.Code.Readers.{left_of}
use Rattle.context_vector.proofs.Counts.{sites_at_most}
use Rattle.context_vector.proofs.Counting.{in_parts, past_first, past_part, passed_first, passed_part}
use Rattle.context_vector.proofs.Counting.{counts_left, counts_right, below_append, from_append, from_low}
use Rattle.context_vector.proofs.vector.counting.seek.Goals as goal

pub ends_below-requires : goal.ends_below-requires
ends_below-requires c =
    let part = c.front-part.result.now in let at = c.front-part.new.self in
    let whole = in_parts c.loop-part.counts at part c.front-part.ensures.same c.front-part.ensures.front in
    counts_left 0 part (joined at.pieces) (subst (AreCounts 0) whole c.loop-part.invariant.are)

pub place_from-n-requires : goal.place_from-n-requires
place_from-n-requires c =
    let part = c.front-part.result.now in let at = c.front-part.new.self in
    let whole = in_parts c.loop-part.counts at part c.front-part.ensures.same c.front-part.ensures.front in
    counts_left 0 part (joined at.pieces) (subst (AreCounts 0) whole c.loop-part.invariant.are)

pub overflow_add-result : goal.overflow_add-result
overflow_add-result c =
    let part = c.front-part.result.now in let at = c.front-part.new.self in
    let whole = ap length (in_parts c.loop-part.counts at part c.front-part.ensures.same c.front-part.ensures.front) in
    let lesser = c.loop-part.invariant.lesser in
    let all = ap length lesser.2 ∙ length-append lesser.0 (left_of c.loop-part.counts) in
    let parts = length-append part (joined at.pieces) in
    let most = sites_at_most 0 (left_of c.args.counts.now) (omega arith) c.requires in
    record { fits = omega (arith, most, lesser.1, all, whole, parts, c.place_from-n.ensures.bound) }

pub returns-then-not-ends_below : goal.returns-then-not-ends_below
returns-then-not-ends_below c =
    let part = c.front-part.result.now in let at = c.front-part.new.self in let s = c.args.site in
    let n = c.place_from-n.result in
    let whole = in_parts c.loop-part.counts at part c.front-part.ensures.same c.front-part.ensures.front in
    let left = past_first at c.pass.new.self part n c.front-part.ensures.front c.place_from-n.ensures.bound c.pass.ensures in
    let lesser = c.loop-part.invariant.lesser in
    let are = subst (AreCounts 0) whole c.loop-part.invariant.are in
    let reached = c.ends_below.ensures.reached c.if-not-ends_below.true (joined at.pieces) are in
    let after = from_low (s + 1) s (joined at.pieces) (omega arith) reached in
    let from = from_append s (drop n part) (joined at.pieces) c.place_from-n.ensures.from after in (
      lesser.0 ++ take n part,
      omega (arith, lesser.1, length-append lesser.0 (take n part), length-take-le n part c.place_from-n.ensures.bound),
      passed_first _ lesser.0 _ part _ _ n lesser.2 whole left,
      below_append lesser.0 (take n part) s lesser.3 c.place_from-n.ensures.below,
      subst (SitesFrom s) (sym left) from,
    )

pub overflow_add-passed : goal.overflow_add-passed
overflow_add-passed c =
    let part = c.front-part.result.now in let at = c.front-part.new.self in
    let whole = ap length (in_parts c.loop-part.counts at part c.front-part.ensures.same c.front-part.ensures.front) in
    let lesser = c.loop-part.invariant.lesser in
    let all = ap length lesser.2 ∙ length-append lesser.0 (left_of c.loop-part.counts) in
    let parts = length-append part (joined at.pieces) in
    let most = sites_at_most 0 (left_of c.args.counts.now) (omega arith) c.requires in
    record { fits = omega (arith, most, lesser.1, all, whole, parts) }

pub loop-part-preserved : goal.loop-part-preserved
loop-part-preserved c =
    let part = c.front-part.result.now in let at = c.front-part.new.self in
    let whole = in_parts c.loop-part.counts at part c.front-part.ensures.same c.front-part.ensures.front in
    let left = past_part at c.pass-in-loop-part.new.self part c.front-part.ensures.front c.pass-in-loop-part.ensures in
    let lesser = c.loop-part.invariant.lesser in
    record {
      are = subst (AreCounts 0) (sym left) (counts_right 0 part (joined at.pieces) (subst (AreCounts 0) whole c.loop-part.invariant.are));
      lesser = (
        lesser.0 ++ part,
        omega (arith, lesser.1, length-append lesser.0 part),
        passed_part _ lesser.0 _ part _ _ lesser.2 whole left,
        below_append lesser.0 part c.args.site lesser.3 (c.ends_below.ensures.below c.if-not-ends_below.false),
      );
    }
