use Rattle.char_marks.proofs.Spots.{among_cells, found_at}
use Rattle.char_marks.proofs.spot.place_of_cell.Goals as goal

pub unreachable-requires : goal.unreachable-requires
unreachable-requires c =
    c.in-None.ensures.none
    (among_cells c.args.site.now.history c.args.cells.now.cells c.args.id.now c.requires.replayed c.requires.there)

pub returns : goal.returns
returns c = found_at c.args.id.now c.args.cells.now.cells c.in-Some.sought c.in-Some.ensures.place
