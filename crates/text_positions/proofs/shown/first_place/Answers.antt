use Rattle.std.proofs.Common.{arith}
use Rattle.text_positions.specs.Code.{characters_in}
use Rattle.text_positions.proofs.Weights.{past_none}
use Rattle.text_positions.proofs.shown.first_place.Goals as goal

pub returns-then-offset-weight : goal.returns-then-offset-weight
returns-then-offset-weight c =
    past_none c.args.measure (characters_in c.args.cells.now) c.args.offset (omega (arith, c.weight.ensures, c.if-offset-weight.true))
