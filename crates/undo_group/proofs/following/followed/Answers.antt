use Rattle.undo_group.specs.Laws.Groups.{form_follows}
use Rattle.undo_group.proofs.following.followed.Goals as goal

pub returns-in-Ins-clause-law : goal.returns-in-Ins-clause-law
returns-in-Ins-clause-law c = form_follows

pub returns-in-Cover-clause-law : goal.returns-in-Cover-clause-law
returns-in-Cover-clause-law c = form_follows
