use Rattle.std.proofs.Common.{refl}
use Rattle.session_replay.proofs.Steps.{done_nothing}
use Rattle.session_replay.proofs.sites.Sites.type_part.Goals as goal

pub returns-in-Err-clause-done : goal.returns-in-Err-clause-done
returns-in-Err-clause-done c = done_nothing _ c.args.self.now _ _ _ refl refl
