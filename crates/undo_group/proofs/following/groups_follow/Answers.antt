use Rattle.undo_group.specs.Laws.Groups.{first_follower, next_follower}
use Rattle.undo_group.proofs.following.groups_follow.Goals as goal

pub returns-clause-first : goal.returns-clause-first
returns-clause-first c = first_follower

pub returns-clause-further : goal.returns-clause-further
returns-clause-further c = next_follower
