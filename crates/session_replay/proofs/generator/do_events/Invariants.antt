use Rattle.std.proofs.Common.{◌≡◌, length}
use Rattle.session_replay.specs.Generating.{generating}
use Rattle.session_replay.specs.Code.Drawing.{plan_of}
use Rattle.session_replay.proofs.generator.do_events.Given as goal

-- the events so far are done
abbrev pub invariant-loop-event : goal.invariant-loop-event
invariant-loop-event l = record {
  session : l.session ≡ (generating (plan_of l.start l.order) l.event).session;
  number : l.draws.number ≡ (generating (plan_of l.start l.order) l.event).number;
  sites : length l.session.sites ≡ l.order.sites;
  end : l.event-end ≡ l.order.events;
}
