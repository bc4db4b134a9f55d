use Rattle.std.proofs.Common.{length, ap, arith}
use Rattle.std.proofs.lemmas.List.{length-append}
use Rattle.context_vector.specs.Code.Pieces.{joined}
use Rattle.context_vector.specs.Code.Readers.{left_of}
use Rattle.context_vector.proofs.Counts.{sites_at_most}
use Rattle.context_vector.proofs.Counting.{in_parts}
use Rattle.context_vector.proofs.vector.counting.sites.Goals as goal

pub overflow_cast-result : goal.overflow_cast-result
overflow_cast-result c =
    let most = sites_at_most 0 (left_of c.args.counts) (omega arith) c.requires in
    record { fits = omega (arith, c.loop-left.invariant, most) }

pub returns-then-is_empty-clause-range : goal.returns-then-is_empty-clause-range
returns-then-is_empty-clause-range c =
    omega (arith, c.loop-left.invariant, sites_at_most 0 (left_of c.args.counts) (omega arith) c.requires)

pub overflow_add-sum : goal.overflow_add-sum
overflow_add-sum c =
    let part = c.front-part.result.now in let at = c.front-part.new.self in
    let whole = ap length (in_parts c.loop-left.left at part c.front-part.ensures.same c.front-part.ensures.front) in
    let most = sites_at_most 0 (left_of c.args.counts) (omega arith) c.requires in
    record { fits = omega (arith, c.loop-left.invariant, whole, length-append part (joined at.pieces), most) }
