use Rattle.std.proofs.Common.{◌∙◌, None, Some, arith, ◌-◌, ◌<◌}
use Rattle.site_anchors.specs.declared.anchors.Anchor.TheVariants.{After}
use Rattle.tombstone_text.specs.declared.cell.CellId.{CellId}
use Rattle.site_anchors.proofs.Told.{shown_anchor, left_later}
use Rattle.site_anchors.proofs.anchors.left_of.Goals as goal

pub returns-in-Some : goal.returns-in-Some
returns-in-Some c =
    let h = c.args.site.now.history in
    let place = c.args.place in
    let later : 0 < place = omega arith in
    shown_anchor (λ (id : CellId). After id) h c.cells.result.now.cells (place - 1) (Some c.in-Some.id) c.cells.ensures.replayed
    c.in-Some.ensures
    ∙ left_later h place later

pub returns-in-None : goal.returns-in-None
returns-in-None c =
    let h = c.args.site.now.history in
    let place = c.args.place in
    let later : 0 < place = omega arith in
    shown_anchor (λ (id : CellId). After id) h c.cells.result.now.cells (place - 1) None c.cells.ensures.replayed c.in-None.ensures
    ∙ left_later h place later
