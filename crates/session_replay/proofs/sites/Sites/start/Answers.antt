use Rattle.std.proofs.Common.{◌∙◌, sym}
use Rattle.std.proofs.lemmas.Bool.{le-leb}
use Rattle.op_name.specs.declared.name.TheConstants.{SITES}
use Rattle.session_replay.proofs.Lines.{opening_steps, sites_made, sites_short}
use Rattle.session_replay.proofs.sites.Sites.start.Goals as goal

pub returns-in-Ok : goal.returns-in-Ok
returns-in-Ok c =
    let steps =
    opening_steps c.args.count c.args.self.now (sym c.is_started.ensures ∙ c.if-is_started.false)
    (le-leb c.args.count SITES c.if-count-gt-SITES.false) in
    sites_made _ c.args.count c.args.self.now _ steps (c.drop.view_is ∙ c.in-Ok.ensures)

pub returns-in-Err : goal.returns-in-Err
returns-in-Err c =
    let steps =
    opening_steps c.args.count c.args.self.now (sym c.is_started.ensures ∙ c.if-is_started.false)
    (le-leb c.args.count SITES c.if-count-gt-SITES.false) in
    sites_short _ _ c.args.self.now steps
