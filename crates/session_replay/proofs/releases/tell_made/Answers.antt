use Rattle.session_replay.proofs.Steps.{told_on, told_short}
use Rattle.session_replay.proofs.releases.tell_made.Goals as goal

pub returns-clause-ok : goal.returns-clause-ok
returns-clause-ok c = told_on c.tell_releases.result _ _ _ _ _ c.in_ok-op_line.ensures.ok c.tell_releases.ensures.ok

pub returns-clause-err : goal.returns-clause-err
returns-clause-err c = told_short c.tell_releases.result _ _ _ _ c.in_ok-op_line.ensures.ok c.tell_releases.ensures.err
