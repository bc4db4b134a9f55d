use Rattle.cot_site.specs.Sites.{state_of}
use Rattle.cotpad_run.proofs.Peers.{serve_unrefused}
use Rattle.cotpad_run.proofs.meeting.ServingMeets.meet.Goals as goal

pub returns-clause-unrefused : goal.returns-clause-unrefused
returns-clause-unrefused g c = λ other theirs received why is told messages.
    serve_unrefused c.agreeing_sites_are_not_refused.ensures c.taking_in_keeps_histories.ensures (state_of c.args.site.now)
    (state_of c.serve.new.site) other c.serve.result _ _ _ theirs received why
    (record { number = c.known.ensures.number; history = c.known.ensures.history; waiting = c.known.ensures.waiting }) messages is told
    c.serve.ensures.stopped c.serve.ensures.cut
