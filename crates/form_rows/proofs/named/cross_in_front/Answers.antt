use Rattle.std.proofs.Common.{◌∙◌}
use Rattle.form_rows.proofs.Crossings.{insert_stays, insert_moves}
use Rattle.form_rows.proofs.named.cross_in_front.Goals as goal

pub returns-clause-stays : goal.returns-clause-stays
returns-clause-stays c = insert_stays c.args.first.now c.args.other.now c.requires.before

pub returns-clause-moves : goal.returns-clause-moves
returns-clause-moves c = c.shift_insert.ensures ∙ insert_moves c.args.other.now c.args.first.now c.requires.before
