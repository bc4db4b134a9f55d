use Rattle.std.proofs.Common.{refl, ◌∙◌}
use Rattle.site_anchors.specs.Anchors.{cell_at, shown_before}
use Rattle.site_anchors.proofs.Told.{counted_before, where_is}
use Rattle.site_anchors.proofs.anchors.place_before.Goals as goal

pub returns-in-Some : goal.returns-in-Some
returns-in-Some c =
    let h = c.args.site.now.history in
    let cell = cell_at c.args.id.now in
    where_is h cell (shown_before h cell) c.visible_before.result (c.in-Some.ensures.some.0 refl)
    (c.visible_before.ensures
    ∙ counted_before h c.known.ensures.history cell c.cells-cells.result.now.cells c.cells-cells.ensures.replayed c.in-Some.place
    c.in-Some.ensures.there)
