use Rattle.std.proofs.Common.{refl, ◌∙◌}
use Rattle.site_anchors.specs.Anchors.{cell_at, shown_up_to}
use Rattle.site_anchors.proofs.Told.{counted_up_to, where_is}
use Rattle.site_anchors.proofs.anchors.place_after.Goals as goal

pub returns-in-Some : goal.returns-in-Some
returns-in-Some c =
    let h = c.args.site.now.history in
    let cell = cell_at c.args.id.now in
    where_is h cell (shown_up_to h cell) c.visible_before.result (c.in-Some.ensures.some.0 refl)
    (c.visible_before.ensures
    ∙ counted_up_to h c.known.ensures.history cell c.cells-cells.result.now.cells c.cells-cells.ensures.replayed c.in-Some.place
    c.in-Some.ensures.there)
