use Rattle.cot_site.specs.Sites.{state_of}
use Rattle.cotpad_run.proofs.Peers.{join_unrefused}
use Rattle.cotpad_run.proofs.meeting.JoiningMeets.meet.Goals as goal

pub returns-clause-unrefused : goal.returns-clause-unrefused
returns-clause-unrefused g c = λ other theirs received why is told messages.
    join_unrefused c.agreeing_sites_are_not_refused.ensures (state_of c.args.site.now) (state_of c.join.new.site) other c.join.result _ _ _
    theirs received why
    (record { number = c.known.ensures.number; history = c.known.ensures.history; waiting = c.known.ensures.waiting }) messages is told
    c.join.ensures.stopped c.join.ensures.cut
