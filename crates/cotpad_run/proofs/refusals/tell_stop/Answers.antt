use Rattle.cotpad_run.proofs.Meetings.{stop_told_as}
use Rattle.cotpad_run.proofs.refusals.tell_stop.Goals as goal

pub returns-in-Peer-clause-told : goal.returns-in-Peer-clause-told
returns-in-Peer-clause-told g c =
    λ left after faults later. stop_told_as c.args.why _ _ _ _ c.in-Peer.is (c.tell_refusal.ensures.told left after faults later)
