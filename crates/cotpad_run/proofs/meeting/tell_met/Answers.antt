use Rattle.cotpad_run.proofs.Meetings.{told_of_log, told_of_stop}
use Rattle.cotpad_run.proofs.meeting.tell_met.Goals as goal

pub returns-in-Ok-clause-told : goal.returns-in-Ok-clause-told
returns-in-Ok-clause-told g c =
    λ left after faults later. told_of_log c.args.met _ _ _ _ _ c.in-Ok.is (c.write_site.ensures.made left after faults later)

pub returns-in-Err-clause-told : goal.returns-in-Err-clause-told
returns-in-Err-clause-told g c =
    λ left after faults later. told_of_stop c.args.met _ _ _ _ _ c.in-Err.is (c.tell_stop.ensures.told left after faults later)
