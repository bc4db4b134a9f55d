use Rattle.std.proofs.Common.{◌∙◌, ◌+◌, ap, sym, refl, length}
use Rattle.session_replay.specs.Sessions.{SessionData}
use Rattle.session_replay.specs.Generating.{is_due}
use Rattle.session_replay.specs.Code.Drawing.{plan_of}
use Rattle.session_replay.proofs.Gathering.{new_count}
use Rattle.session_replay.proofs.Rounds.{generating_none, session_next, number_next, synced_due, not_due}
use Rattle.session_replay.proofs.generator.do_events.Goals.{then-is_due+in_ok-sync, else-is_due}
use Rattle.session_replay.proofs.generator.do_events.Goals as goal

pub loop-event-init : goal.loop-event-init
loop-event-init c =
    let p = plan_of c.args.start c.args.order in
    let none = generating_none p in
    record {
      session = c.in_ok-session.ensures ∙ sym none.0;
      number = c.new-draws.ensures ∙ sym none.1;
      sites = ap (λ (d : SessionData). length d.sites) c.in_ok-session.ensures ∙ new_count 0 c.args.order.sites;
      end = refl;
    }

pub loop-event-preserved : goal.loop-event-preserved
loop-event-preserved c =
    let p = plan_of c.args.start c.args.order in
    let k = c.loop-event.event in
    let was = c.loop-event.invariant in
    let next =
    session_next p k c.loop-event.session _ c.loop-event.draws.number c.event.result was.session was.number c.event.ensures.draws
    c.in_ok-act.ensures.done.0 in
    record {
      session = elim c.if-is_due.branch [
        | then-is_due+in_ok-sync w ↦ w.session-is
            ∙ (synced_due (is_due p (k + 1)) _ _ (sym c.is_due.ensures ∙ w.if-is_due.true) w.in_ok-sync.ensures.done.0 ∙ next)
        | else-is_due w ↦ w.session-is ∙ (not_due (is_due p (k + 1)) _ (sym c.is_due.ensures ∙ w.if-is_due.false) ∙ next)
      ];
      number = number_next p k c.loop-event.draws.number _ was.number c.event.ensures.number;
      sites = elim c.if-is_due.branch [
        | then-is_due+in_ok-sync w ↦ ap (λ (d : SessionData). length d.sites) w.session-is
            ∙ (w.in_ok-sync.ensures.sites ∙ (c.in_ok-act.ensures.sites ∙ was.sites))
        | else-is_due w ↦ ap (λ (d : SessionData). length d.sites) w.session-is ∙ (c.in_ok-act.ensures.sites ∙ was.sites)
      ];
      end = refl;
    }
