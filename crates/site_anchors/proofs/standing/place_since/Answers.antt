use Rattle.site_anchors.specs.Anchors.{cell_at}
use Rattle.site_anchors.proofs.Told.{there_among, found_at}
use Rattle.site_anchors.proofs.standing.place_since.Goals as goal

pub unreachable-requires : goal.unreachable-requires
unreachable-requires c =
    c.in-None.ensures.none
    (there_among c.args.site.now.history c.args.cells.now.cells (cell_at c.args.id.now) c.known.ensures.history c.requires.replayed
    c.requires.has)

pub returns : goal.returns
returns c = found_at c.args.id.now c.args.cells.now.cells c.in-Some.sought c.in-Some.ensures.place
