use Rattle.std.proofs.Common.{◌≡◌, refl, sym, subst}
use Rattle.std.specs.Prelude.{Some, None, Err, IfSome}
use Rattle.std.specs.Io.KnownBytes.{IsAtEnd}
use Rattle.outside_io.specs.declared.reading.ReadBad.TheVariants.{Fault}
use Rattle.cot_site.specs.Sites.{state_of}
use Rattle.log_replies.specs.Replies.{IsLoadedAs, IsRefusedInto}
use Rattle.log_replies.proofs.CallerLemmas.{if_some, if_none}
use Rattle.cotpad_run.proofs.Meetings.{met_answered, met_complete, refused_answered, loaded_is, not_refused}
use Rattle.cotpad_run.proofs.meeting.answer_met.Goals as goal

pub returns-in-Ok-Some-clause-answer : goal.returns-in-Ok-Some-clause-answer
returns-in-Ok-Some-clause-answer g c =
    let k = c.in-Ok-Some in
    let e = k.field-0-is in
    let f = k.site-is in
    let is : k.field-0 ≡ Some k.site = cc in
    let m = c.meet-met.ensures in
    met_answered (g.P.Meets.side c.args.peer.now) (g.P.Meets.port c.args.peer.now) (state_of k.site) (state_of c.meet-met.new.site)
    c.meet-met.result _ _ _ _ c.tell_met.result
    (record {
      loaded = if_some k.field-0 k.site (λ s. IfSome (g.S.Source.left c.args.source.now) (λ bytes. IsLoadedAs 0 bytes (state_of s))) is
          k.ensures.loaded;
      met = m.met;
      stopped = m.stopped;
      cut = m.cut;
      later = m.later;
      cause = m.cause;
      link = record { asked = m.asked; asks = m.asks; peer = m.peer; other_sent = m.other_sent; other_received = m.other_received };
      input = record { read = k.ensures.rest; faultless = k.ensures.no_fault (λ e. absurd cc) };
      at_end = if_some k.field-0 k.site (λ s. IsAtEnd (g.S.Source.left c.load_input.new.source)) is k.ensures.ended;
    })
    (c.tell_met.ensures.told _ _ _ _)

pub returns-in-Ok-Some-clause-complete : goal.returns-in-Ok-Some-clause-complete
returns-in-Ok-Some-clause-complete g c = λ agrees well.
    let k = c.in-Ok-Some in
    let e = k.field-0-is in
    let f = k.site-is in
    let is : k.field-0 ≡ Some k.site = cc in
    let m = c.meet-met.ensures in
    let left = g.S.Source.left c.args.source.now in
    let loaded = if_some k.field-0 k.site (λ s. IfSome left (λ bytes. IsLoadedAs 0 bytes (state_of s))) is k.ensures.loaded in
    let same : state_of k.site ≡ agrees.site =
    loaded_is c.one_loading.ensures left agrees.log agrees.site (state_of k.site) agrees.left loaded agrees.loaded in
    met_complete (g.P.Meets.side c.args.peer.now) (state_of c.meet-met.new.site) c.meet-met.result _ _ _ _ c.tell_met.result m.cause
    (c.tell_met.ensures.told _ _ _ _)
    (λ why. m.unrefused agrees.other agrees.theirs agrees.received why agrees.peer agrees.told
    (subst (λ s. (g.P.Meets.side c.args.peer.now).theirs s agrees.other agrees.theirs) (sym same) agrees.messages))
    well

pub returns-in-Ok-None-clause-answer : goal.returns-in-Ok-None-clause-answer
returns-in-Ok-None-clause-answer g c =
    let k = c.in-Ok-None in
    let e = k.field-0-is in
    let is : k.field-0 ≡ None = cc in
    let left = g.S.Source.left c.args.source.now in
    let refused =
    if_none k.field-0 (IfSome left (λ bytes. IsRefusedInto 0 bytes c.new-out.result.items c.load_input.new.out.items)) is
    k.ensures.refused in
    refused_answered (g.P.Meets.side c.args.peer.now) (g.P.Meets.port c.args.peer.now) c.new-out.result.items c.deref.result.now _ _ _ _
    c.write_refusal.result c.new-out.ensures.items
    (subst (λ line. IfSome left (λ bytes. IsRefusedInto 0 bytes c.new-out.result.items line)) (sym c.deref.ensures.value) refused)
    (record { read = k.ensures.rest; faultless = k.ensures.no_fault (λ e. absurd cc) }) refl
    (c.write_refusal.ensures.written _ _ _ _)

pub returns-in-Ok-None-clause-complete : goal.returns-in-Ok-None-clause-complete
returns-in-Ok-None-clause-complete g c = λ agrees well.
    let k = c.in-Ok-None in
    let e = k.field-0-is in
    let is : k.field-0 ≡ None = cc in
    let left = g.S.Source.left c.args.source.now in
    let refused =
    if_none k.field-0 (IfSome left (λ bytes. IsRefusedInto 0 bytes c.new-out.result.items c.load_input.new.out.items)) is
    k.ensures.refused in
    absurd (not_refused c.one_loading.ensures left agrees.log c.new-out.result.items c.load_input.new.out.items agrees.site agrees.left
    refused agrees.loaded)

-- a fault of the source is none that a faultless call has
pub returns-in-Err-Fault-clause-complete : goal.returns-in-Err-Fault-clause-complete
returns-in-Err-Fault-clause-complete g c = λ agrees well.
    let k = c.in-Err-Fault in
    let e = k.is in
    let f = k.field-0-is in
    let fault : c.load_input.result ≡ Err Fault = cc in
    absurd (well.source (c.load_input.ensures.fault fault))
