use Rattle.std.proofs.Common.{sym, ap, subst, ◌∙◌}
use Rattle.context_vector.specs.Contexts.{count_in, AreCounts}
use Rattle.context_vector.specs.Code.Pieces.{joined}
use Rattle.context_vector.proofs.Counting.{in_parts, past_part, counts_left, counts_right, count_past, count_front}
use Rattle.context_vector.proofs.vector.counting.count_of.Goals as goal

pub ends_below-requires : goal.ends_below-requires
ends_below-requires c =
    let part = c.front-part.result.now in let at = c.front-part.new.self in
    let whole = in_parts c.loop-left.left at part c.front-part.ensures.same c.front-part.ensures.front in
    counts_left 0 part (joined at.pieces) (subst (AreCounts 0) whole c.loop-left.invariant.are)

pub count_near-requires : goal.count_near-requires
count_near-requires c =
    let part = c.front-part.result.now in let at = c.front-part.new.self in
    let whole = in_parts c.loop-left.left at part c.front-part.ensures.same c.front-part.ensures.front in
    counts_left 0 part (joined at.pieces) (subst (AreCounts 0) whole c.loop-left.invariant.are)

pub returns-then-not-ends_below-clause-count : goal.returns-then-not-ends_below-clause-count
returns-then-not-ends_below-clause-count c =
    let part = c.front-part.result.now in let at = c.front-part.new.self in let s = c.args.site in
    let whole = in_parts c.loop-left.left at part c.front-part.ensures.same c.front-part.ensures.front in
    let are = subst (AreCounts 0) whole c.loop-left.invariant.are in
    let after = c.ends_below.ensures.reached c.if-not-ends_below.true (joined at.pieces) are in
    c.count_near.ensures.count
    ∙ sym (c.loop-left.invariant.same ∙ (ap (λ xs. count_in xs s) whole ∙ count_front part (joined at.pieces) s after))

pub loop-left-preserved : goal.loop-left-preserved
loop-left-preserved c =
    let part = c.front-part.result.now in let at = c.front-part.new.self in let s = c.args.site in
    let whole = in_parts c.loop-left.left at part c.front-part.ensures.same c.front-part.ensures.front in
    let left = past_part at c.pass.new.self part c.front-part.ensures.front c.pass.ensures in
    let past = count_past part (joined at.pieces) s (c.ends_below.ensures.below c.if-not-ends_below.false) in
    record {
      are = subst (AreCounts 0) (sym left) (counts_right 0 part (joined at.pieces) (subst (AreCounts 0) whole c.loop-left.invariant.are));
      same = c.loop-left.invariant.same ∙ (ap (λ xs. count_in xs s) whole ∙ (past ∙ ap (λ xs. count_in xs s) (sym left)));
    }
