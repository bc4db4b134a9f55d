use Rattle.std.proofs.Common.{ℕ, arith}
use Rattle.std.proofs.lemmas.List.Sums.{sum_by-take-le}
use Rattle.tombstone_text.proofs.counts.Counts.start_of.Goals as goal

pub overflow_cast-result : goal.overflow_cast-result
overflow_cast-result c =
    omega (arith, c.start_of.ensures, c.self.invariant, sum_by-take-le (λ (n : ℕ). n) c.self.inside.sums.parts c.args.i)
