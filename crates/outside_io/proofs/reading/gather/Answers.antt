use Rattle.std.proofs.Common.{◌+◌, arith}
use Rattle.outside_io.specs.declared.reading.TheConstants.{MAX_INPUT}
use Rattle.outside_io.proofs.Read.{LosesFront-more}
use Rattle.outside_io.proofs.reading.gather.Goals as goal

pub returns-in-Err-clause-lost : goal.returns-in-Err-clause-lost
returns-in-Err-clause-lost g c =
    LosesFront-more _ _ _ _ _ _ (MAX_INPUT + 1) c.loop-piece.invariant.gathers c.in-Err.ensures.lost
    (omega (arith, c.loop-piece.invariant.few))
