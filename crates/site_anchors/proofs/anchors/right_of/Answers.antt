use Rattle.std.proofs.Common.{◌∙◌, None, Some, arith, length, ◌≢◌}
use Rattle.context_diff.specs.Replays.{shown}
use Rattle.site_anchors.specs.declared.anchors.Anchor.TheVariants.{Before}
use Rattle.tombstone_text.specs.declared.cell.CellId.{CellId}
use Rattle.site_anchors.proofs.Told.{shown_anchor, right_before}
use Rattle.site_anchors.proofs.anchors.right_of.Goals as goal

pub returns-in-Some : goal.returns-in-Some
returns-in-Some c =
    let h = c.args.site.now.history in
    let other : c.args.place ≢ length (shown h) = λ e. omega arith in
    shown_anchor (λ (id : CellId). Before id) h c.cells.result.now.cells c.args.place (Some c.in-Some.id) c.cells.ensures.replayed
    c.in-Some.ensures
    ∙ right_before h c.args.place other

pub returns-in-None : goal.returns-in-None
returns-in-None c =
    let h = c.args.site.now.history in
    let other : c.args.place ≢ length (shown h) = λ e. omega arith in
    shown_anchor (λ (id : CellId). Before id) h c.cells.result.now.cells c.args.place None c.cells.ensures.replayed c.in-None.ensures
    ∙ right_before h c.args.place other
