use Rattle.cot_site.specs.Sites.{state_of}
use Rattle.cotpad_run.proofs.Looping.{first_is, second_is, loop_answered, loop_told}
use Rattle.cotpad_run.proofs.looped.answer_looped.Goals as goal

pub returns-in-Ok-clause-answer : goal.returns-in-Ok-clause-answer
returns-in-Ok-clause-answer g c = λ left faults.
    let s = state_of c.into_pair-server.result.0 in
    let j = state_of c.into_pair-server.result.1 in
    let m = c.exchange_twice-met.ensures in
    loop_answered c.args.start s (state_of c.exchange_twice-met.new.server) j (state_of c.exchange_twice-met.new.joiner)
    c.exchange_twice-met.result _ _ _ _ c.tell_looped.result
    (record {
      server = first_is c.args.start c.in-Ok.generated.sites s j c.in-Ok.ensures.sites c.into_pair-server.ensures;
      joiner = second_is c.args.start c.in-Ok.generated.sites s j c.in-Ok.ensures.sites c.into_pair-server.ensures;
      looped = m.looped;
      stopped = m.stopped;
      cause = m.cause;
      link = record { asked = m.asked; asks = m.asks; peer = m.peer };
    })
    (c.tell_looped.ensures.told left faults)

pub returns-in-Ok-clause-told : goal.returns-in-Ok-clause-told
returns-in-Ok-clause-told g c = λ left faults telling.
    let s = state_of c.into_pair-server.result.0 in
    let j = state_of c.into_pair-server.result.1 in
    let m = c.exchange_twice-met.ensures in
    loop_told c.sites_stay_alone.ensures c.unrefused_calls_join.ensures c.agreeing_sites_meet.ensures c.second_exchanges_are_empty.ensures
    c.any_exchanges_meet.ensures c.short_histories_have_short_messages.ensures
    c.args.start s (state_of c.exchange_twice-met.new.server) j (state_of c.exchange_twice-met.new.joiner) c.exchange_twice-met.result _ _ _
    _ c.tell_looped.result
    (record {
      server = first_is c.args.start c.in-Ok.generated.sites s j c.in-Ok.ensures.sites c.into_pair-server.ensures;
      joiner = second_is c.args.start c.in-Ok.generated.sites s j c.in-Ok.ensures.sites c.into_pair-server.ensures;
      looped = m.looped;
      stopped = m.stopped;
      cause = m.cause;
      link = record { asked = m.asked; asks = m.asks; peer = m.peer };
    })
    (c.tell_looped.ensures.told left faults) telling
