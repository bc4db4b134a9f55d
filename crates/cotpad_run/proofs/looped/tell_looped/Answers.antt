use Rattle.cot_site.specs.Sites.{state_of}
use Rattle.cotpad_run.proofs.Looping.{told_of_stop}
use Rattle.cotpad_run.proofs.looped.tell_looped.Goals as goal

pub returns-in-Err-clause-told : goal.returns-in-Err-clause-told
returns-in-Err-clause-told g c =
    λ left faults. told_of_stop (state_of c.args.server.now) (state_of c.args.joiner.now) c.args.met _ _ _ _ c.in-Err.is
    (c.tell_stop.ensures.told left left faults faults)
