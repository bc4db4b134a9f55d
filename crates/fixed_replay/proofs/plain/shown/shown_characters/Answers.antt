use Rattle.std.proofs.Common.{map, ◌∙◌}
use Rattle.context_diff.specs.Ops.{data_of}
use Rattle.fixed_replay.proofs.Standing.{characters_more}
use Rattle.fixed_replay.proofs.plain.shown.shown_characters.Goals as goal

pub loop-cell-preserved : goal.loop-cell-preserved
loop-cell-preserved c =
    characters_more (map data_of c.args.ops.now) c.loop-cell.characters.items _ c.args.cells.now c.loop-cell.cell-index c.cell-item.result
    c.loop-cell-test.true c.cell-item.is c.in_ok-add_shown.ensures
    ∙ c.loop-cell.invariant
