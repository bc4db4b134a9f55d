use Rattle.std.proofs.Common.{◌∙◌}
use Rattle.form_rows.proofs.Turns.{moved_blocks}
use Rattle.form_rows.proofs.blocks.move_blocks.Goals as goal

pub returns-in-Ok : goal.returns-in-Ok
returns-in-Ok g c =
    moved_blocks c.args.blocks.now.items c.args.more.items c.append.new.self.items c.args.rest.now.items c.shrink_to_fit.new.self.items
    c.in-Ok.ensures.items
    (c.shrink_to_fit.ensures.items ∙ c.clear.ensures.items) c.requires
