use Rattle.std.proofs.Common.{refl, sym, ◌∙◌, inr}
use Rattle.cot_site.specs.Releases.{IsSound}
use Rattle.cot_site.specs.Sites.{state_of}
use Rattle.peer_exchange.specs.Exchanges.{AgreeInAll, OnlyMemoryRefuses}
use Rattle.site_node.specs.declared.node.Node.TheVariants as node
use Rattle.site_node.proofs.Loopers.{quiet_by, unstarted, Offer, offer_by, unasked, Heard, heard_by, unanswered, Answer, answer_by}
use Rattle.site_node.proofs.Loopers.{unbrought, Told, told_by, unclosed, Closing, closing_by, unheard, Ended, ended_by, unserved}
use Rattle.site_node.proofs.Loopers.{looped}
use Rattle.site_node.proofs.looping.exchange.Goals as goal

pub returns-in-Err-clause-stopped : goal.returns-in-Err-clause-stopped
returns-in-Err-clause-stopped g c =
    unstarted (g.W.Wire.ends c.args.wire.now) (g.W.Wire.ends c.args.wire.now) (state_of c.args.server.now) (state_of c.args.joiner.now)
    node.Memory refl refl (inr refl)

pub returns-in-Err-carry-clause-stopped : goal.returns-in-Err-carry-clause-stopped
returns-in-Err-carry-clause-stopped g c =
    let quiet = quiet_by (g.W.Wire.ends c.args.wire.now) c.requires.nothing in
    let offer : Offer (state_of c.args.joiner.now) c.deref.result.now =
    offer_by (state_of c.args.joiner.now) c.new-first.result.items c.deref.result.now c.known-2.ensures.history c.new-first.ensures.items
    (c.deref.ensures.value ∙ c.in-Ok.ensures.ok) in
    unasked (g.W.Wire.ends c.args.wire.now) (g.W.Wire.ends c.carry.new.wire) (state_of c.args.server.now) (state_of c.args.joiner.now)
    c.deref.result.now c.in-Err-carry.why quiet offer c.in-Err-carry.ensures.uncarried c.in-Err-carry.ensures.received
    c.in-Err-carry.ensures.to_come c.in-Err-carry.ensures.other_sent

pub returns-in-Err-answer-clause-stopped : goal.returns-in-Err-answer-clause-stopped
returns-in-Err-answer-clause-stopped g c =
    let quiet = quiet_by (g.W.Wire.ends c.args.wire.now) c.requires.nothing in
    let offer : Offer (state_of c.args.joiner.now) c.deref.result.now =
    offer_by (state_of c.args.joiner.now) c.new-first.result.items c.deref.result.now c.known-2.ensures.history c.new-first.ensures.items
    (c.deref.ensures.value ∙ c.in-Ok.ensures.ok) in
    let heard : Heard (g.W.Wire.ends c.args.wire.now) (g.W.Wire.ends c.carry.new.wire) (state_of c.args.joiner.now) c.deref.result.now
    c.deref-2.result.now =
    heard_by (g.W.Wire.ends c.args.wire.now) (g.W.Wire.ends c.carry.new.wire) (state_of c.args.joiner.now) c.deref.result.now
    c.deref-2.result.now quiet offer (rw (sym c.deref-2.ensures.value) at c.in-Ok-carry.ensures.whole)
    (rw (sym c.deref-2.ensures.value) at c.in-Ok-carry.ensures.wanted) (rw (sym c.deref-2.ensures.value) at c.in-Ok-carry.ensures.carried)
    (record { sent = c.in-Ok-carry.ensures.sent; received = c.in-Ok-carry.ensures.received; to_come = c.in-Ok-carry.ensures.to_come })
    c.in-Ok-carry.ensures.other_sent in
    rw c.node_of.ensures (unanswered (g.W.Wire.ends c.args.wire.now) (g.W.Wire.ends c.carry.new.wire) (state_of c.args.server.now)
    (state_of c.args.joiner.now) c.deref.result.now c.deref-2.result.now c.in-Err-answer.why heard c.in-Err-answer.ensures.refused)

pub returns-in-Err-carry-2-clause-stopped : goal.returns-in-Err-carry-2-clause-stopped
returns-in-Err-carry-2-clause-stopped g c =
    let quiet = quiet_by (g.W.Wire.ends c.args.wire.now) c.requires.nothing in
    let offer : Offer (state_of c.args.joiner.now) c.deref.result.now =
    offer_by (state_of c.args.joiner.now) c.new-first.result.items c.deref.result.now c.known-2.ensures.history c.new-first.ensures.items
    (c.deref.ensures.value ∙ c.in-Ok.ensures.ok) in
    let heard : Heard (g.W.Wire.ends c.args.wire.now) (g.W.Wire.ends c.carry.new.wire) (state_of c.args.joiner.now) c.deref.result.now
    c.deref-2.result.now =
    heard_by (g.W.Wire.ends c.args.wire.now) (g.W.Wire.ends c.carry.new.wire) (state_of c.args.joiner.now) c.deref.result.now
    c.deref-2.result.now quiet offer (rw (sym c.deref-2.ensures.value) at c.in-Ok-carry.ensures.whole)
    (rw (sym c.deref-2.ensures.value) at c.in-Ok-carry.ensures.wanted) (rw (sym c.deref-2.ensures.value) at c.in-Ok-carry.ensures.carried)
    (record { sent = c.in-Ok-carry.ensures.sent; received = c.in-Ok-carry.ensures.received; to_come = c.in-Ok-carry.ensures.to_come })
    c.in-Ok-carry.ensures.other_sent in
    let answer : Answer (state_of c.args.server.now) c.deref-2.result.now c.deref-3.result.now c.in-Ok-answer.count =
    answer_by (state_of c.args.server.now) c.deref-2.result.now c.new-second.result.items c.deref-3.result.now c.in-Ok-answer.count
    c.known.ensures.history c.new-second.ensures.items (rw (sym c.deref-3.ensures.value) at c.in-Ok-answer.ensures.answered) in
    unbrought (g.W.Wire.ends c.args.wire.now) (g.W.Wire.ends c.carry.new.wire) (g.W.Wire.ends c.carry-2.new.wire)
    (state_of c.args.server.now) (state_of c.args.joiner.now) c.deref.result.now c.deref-2.result.now c.deref-3.result.now
    c.in-Ok-answer.count c.in-Err-carry-2.why heard answer c.in-Err-carry-2.ensures.uncarried c.in-Err-carry-2.ensures.received
    c.in-Err-carry-2.ensures.to_come c.in-Err-carry-2.ensures.other_sent

pub returns-in-Err-close-clause-stopped : goal.returns-in-Err-close-clause-stopped
returns-in-Err-close-clause-stopped g c =
    let quiet = quiet_by (g.W.Wire.ends c.args.wire.now) c.requires.nothing in
    let offer : Offer (state_of c.args.joiner.now) c.deref.result.now =
    offer_by (state_of c.args.joiner.now) c.new-first.result.items c.deref.result.now c.known-2.ensures.history c.new-first.ensures.items
    (c.deref.ensures.value ∙ c.in-Ok.ensures.ok) in
    let heard : Heard (g.W.Wire.ends c.args.wire.now) (g.W.Wire.ends c.carry.new.wire) (state_of c.args.joiner.now) c.deref.result.now
    c.deref-2.result.now =
    heard_by (g.W.Wire.ends c.args.wire.now) (g.W.Wire.ends c.carry.new.wire) (state_of c.args.joiner.now) c.deref.result.now
    c.deref-2.result.now quiet offer (rw (sym c.deref-2.ensures.value) at c.in-Ok-carry.ensures.whole)
    (rw (sym c.deref-2.ensures.value) at c.in-Ok-carry.ensures.wanted) (rw (sym c.deref-2.ensures.value) at c.in-Ok-carry.ensures.carried)
    (record { sent = c.in-Ok-carry.ensures.sent; received = c.in-Ok-carry.ensures.received; to_come = c.in-Ok-carry.ensures.to_come })
    c.in-Ok-carry.ensures.other_sent in
    let answer : Answer (state_of c.args.server.now) c.deref-2.result.now c.deref-3.result.now c.in-Ok-answer.count =
    answer_by (state_of c.args.server.now) c.deref-2.result.now c.new-second.result.items c.deref-3.result.now c.in-Ok-answer.count
    c.known.ensures.history c.new-second.ensures.items (rw (sym c.deref-3.ensures.value) at c.in-Ok-answer.ensures.answered) in
    let told : Told (g.W.Wire.ends c.args.wire.now) (g.W.Wire.ends c.carry-2.new.wire) (state_of c.args.server.now)
    (state_of c.args.joiner.now) c.deref.result.now c.deref-2.result.now c.deref-3.result.now c.deref-4.result.now c.in-Ok-answer.count =
    told_by (g.W.Wire.ends c.args.wire.now) (g.W.Wire.ends c.carry.new.wire) (g.W.Wire.ends c.carry-2.new.wire)
    (state_of c.args.server.now) (state_of c.args.joiner.now) c.deref.result.now c.deref-2.result.now c.deref-3.result.now
    c.deref-4.result.now c.in-Ok-answer.count heard answer (rw (sym c.deref-4.ensures.value) at c.in-Ok-carry-2.ensures.whole)
    (rw (sym c.deref-4.ensures.value) at c.in-Ok-carry-2.ensures.carried) (record {
      sent = c.in-Ok-carry-2.ensures.sent;
      received = c.in-Ok-carry-2.ensures.received;
      to_come = c.in-Ok-carry-2.ensures.to_come;
    }) c.in-Ok-carry-2.ensures.other_sent in
    let server : IsSound (state_of c.args.server.now) =
    record { number = c.known.ensures.number; history = c.known.ensures.history; waiting = c.known.ensures.waiting } in
    let joiner : IsSound (state_of c.args.joiner.now) =
    record { number = c.known-2.ensures.number; history = c.known-2.ensures.history; waiting = c.known-2.ensures.waiting } in
    let only : AgreeInAll (state_of c.args.server.now) (state_of c.args.joiner.now)
    → OnlyMemoryRefuses (state_of c.args.server.now) (state_of c.args.joiner.now) =
    λ agree. c.agreeing_sites_are_not_refused.ensures (state_of c.args.server.now) (state_of c.args.joiner.now) server joiner agree in
    rw c.node_of-in-Err-close.ensures (unclosed (g.W.Wire.ends c.args.wire.now) (g.W.Wire.ends c.carry-2.new.wire)
    (state_of c.args.server.now) (state_of c.args.joiner.now) (state_of c.close.new.site) c.deref.result.now c.deref-2.result.now
    c.deref-3.result.now c.deref-4.result.now c.in-Ok-answer.count c.in-Err-close.why only told c.in-Err-close.ensures.refused)

pub returns-in-Err-carry-3-clause-stopped : goal.returns-in-Err-carry-3-clause-stopped
returns-in-Err-carry-3-clause-stopped g c =
    let quiet = quiet_by (g.W.Wire.ends c.args.wire.now) c.requires.nothing in
    let offer : Offer (state_of c.args.joiner.now) c.deref.result.now =
    offer_by (state_of c.args.joiner.now) c.new-first.result.items c.deref.result.now c.known-2.ensures.history c.new-first.ensures.items
    (c.deref.ensures.value ∙ c.in-Ok.ensures.ok) in
    let heard : Heard (g.W.Wire.ends c.args.wire.now) (g.W.Wire.ends c.carry.new.wire) (state_of c.args.joiner.now) c.deref.result.now
    c.deref-2.result.now =
    heard_by (g.W.Wire.ends c.args.wire.now) (g.W.Wire.ends c.carry.new.wire) (state_of c.args.joiner.now) c.deref.result.now
    c.deref-2.result.now quiet offer (rw (sym c.deref-2.ensures.value) at c.in-Ok-carry.ensures.whole)
    (rw (sym c.deref-2.ensures.value) at c.in-Ok-carry.ensures.wanted) (rw (sym c.deref-2.ensures.value) at c.in-Ok-carry.ensures.carried)
    (record { sent = c.in-Ok-carry.ensures.sent; received = c.in-Ok-carry.ensures.received; to_come = c.in-Ok-carry.ensures.to_come })
    c.in-Ok-carry.ensures.other_sent in
    let answer : Answer (state_of c.args.server.now) c.deref-2.result.now c.deref-3.result.now c.in-Ok-answer.count =
    answer_by (state_of c.args.server.now) c.deref-2.result.now c.new-second.result.items c.deref-3.result.now c.in-Ok-answer.count
    c.known.ensures.history c.new-second.ensures.items (rw (sym c.deref-3.ensures.value) at c.in-Ok-answer.ensures.answered) in
    let told : Told (g.W.Wire.ends c.args.wire.now) (g.W.Wire.ends c.carry-2.new.wire) (state_of c.args.server.now)
    (state_of c.args.joiner.now) c.deref.result.now c.deref-2.result.now c.deref-3.result.now c.deref-4.result.now c.in-Ok-answer.count =
    told_by (g.W.Wire.ends c.args.wire.now) (g.W.Wire.ends c.carry.new.wire) (g.W.Wire.ends c.carry-2.new.wire)
    (state_of c.args.server.now) (state_of c.args.joiner.now) c.deref.result.now c.deref-2.result.now c.deref-3.result.now
    c.deref-4.result.now c.in-Ok-answer.count heard answer (rw (sym c.deref-4.ensures.value) at c.in-Ok-carry-2.ensures.whole)
    (rw (sym c.deref-4.ensures.value) at c.in-Ok-carry-2.ensures.carried) (record {
      sent = c.in-Ok-carry-2.ensures.sent;
      received = c.in-Ok-carry-2.ensures.received;
      to_come = c.in-Ok-carry-2.ensures.to_come;
    }) c.in-Ok-carry-2.ensures.other_sent in
    let closing : Closing (state_of c.args.joiner.now) (state_of c.close.new.site) c.deref-4.result.now c.deref-5.result.now
    c.in-Ok-close.counts =
    closing_by (state_of c.args.joiner.now) (state_of c.close.new.site) c.deref-4.result.now c.new-third.result.items c.deref-5.result.now
    c.in-Ok-close.counts c.known-3.ensures.history c.new-third.ensures.items
    (rw (sym c.deref-5.ensures.value) at c.in-Ok-close.ensures.closed) in
    unheard (g.W.Wire.ends c.args.wire.now) (g.W.Wire.ends c.carry-2.new.wire) (g.W.Wire.ends c.carry-3.new.wire)
    (state_of c.args.server.now) (state_of c.args.joiner.now) (state_of c.close.new.site) c.deref.result.now c.deref-2.result.now
    c.deref-3.result.now c.deref-4.result.now c.deref-5.result.now c.in-Ok-answer.count c.in-Ok-close.counts c.in-Err-carry-3.why told
    closing c.in-Err-carry-3.ensures.uncarried c.in-Err-carry-3.ensures.received c.in-Err-carry-3.ensures.to_come
    c.in-Err-carry-3.ensures.other_sent

pub returns-in-Ok-finish-clause-exchanged : goal.returns-in-Ok-finish-clause-exchanged
returns-in-Ok-finish-clause-exchanged g c =
    let quiet = quiet_by (g.W.Wire.ends c.args.wire.now) c.requires.nothing in
    let offer : Offer (state_of c.args.joiner.now) c.deref.result.now =
    offer_by (state_of c.args.joiner.now) c.new-first.result.items c.deref.result.now c.known-2.ensures.history c.new-first.ensures.items
    (c.deref.ensures.value ∙ c.in-Ok.ensures.ok) in
    let heard : Heard (g.W.Wire.ends c.args.wire.now) (g.W.Wire.ends c.carry.new.wire) (state_of c.args.joiner.now) c.deref.result.now
    c.deref-2.result.now =
    heard_by (g.W.Wire.ends c.args.wire.now) (g.W.Wire.ends c.carry.new.wire) (state_of c.args.joiner.now) c.deref.result.now
    c.deref-2.result.now quiet offer (rw (sym c.deref-2.ensures.value) at c.in-Ok-carry.ensures.whole)
    (rw (sym c.deref-2.ensures.value) at c.in-Ok-carry.ensures.wanted) (rw (sym c.deref-2.ensures.value) at c.in-Ok-carry.ensures.carried)
    (record { sent = c.in-Ok-carry.ensures.sent; received = c.in-Ok-carry.ensures.received; to_come = c.in-Ok-carry.ensures.to_come })
    c.in-Ok-carry.ensures.other_sent in
    let answer : Answer (state_of c.args.server.now) c.deref-2.result.now c.deref-3.result.now c.in-Ok-answer.count =
    answer_by (state_of c.args.server.now) c.deref-2.result.now c.new-second.result.items c.deref-3.result.now c.in-Ok-answer.count
    c.known.ensures.history c.new-second.ensures.items (rw (sym c.deref-3.ensures.value) at c.in-Ok-answer.ensures.answered) in
    let told : Told (g.W.Wire.ends c.args.wire.now) (g.W.Wire.ends c.carry-2.new.wire) (state_of c.args.server.now)
    (state_of c.args.joiner.now) c.deref.result.now c.deref-2.result.now c.deref-3.result.now c.deref-4.result.now c.in-Ok-answer.count =
    told_by (g.W.Wire.ends c.args.wire.now) (g.W.Wire.ends c.carry.new.wire) (g.W.Wire.ends c.carry-2.new.wire)
    (state_of c.args.server.now) (state_of c.args.joiner.now) c.deref.result.now c.deref-2.result.now c.deref-3.result.now
    c.deref-4.result.now c.in-Ok-answer.count heard answer (rw (sym c.deref-4.ensures.value) at c.in-Ok-carry-2.ensures.whole)
    (rw (sym c.deref-4.ensures.value) at c.in-Ok-carry-2.ensures.carried) (record {
      sent = c.in-Ok-carry-2.ensures.sent;
      received = c.in-Ok-carry-2.ensures.received;
      to_come = c.in-Ok-carry-2.ensures.to_come;
    }) c.in-Ok-carry-2.ensures.other_sent in
    let closing : Closing (state_of c.args.joiner.now) (state_of c.close.new.site) c.deref-4.result.now c.deref-5.result.now
    c.in-Ok-close.counts =
    closing_by (state_of c.args.joiner.now) (state_of c.close.new.site) c.deref-4.result.now c.new-third.result.items c.deref-5.result.now
    c.in-Ok-close.counts c.known-3.ensures.history c.new-third.ensures.items
    (rw (sym c.deref-5.ensures.value) at c.in-Ok-close.ensures.closed) in
    let ended : Ended (g.W.Wire.ends c.args.wire.now) (g.W.Wire.ends c.carry-3.new.wire) (state_of c.args.server.now)
    (state_of c.args.joiner.now) (state_of c.close.new.site) c.deref.result.now c.deref-2.result.now c.deref-3.result.now
    c.deref-4.result.now c.deref-5.result.now c.deref-6.result.now c.in-Ok-answer.count c.in-Ok-close.counts =
    ended_by (g.W.Wire.ends c.args.wire.now) (g.W.Wire.ends c.carry-2.new.wire) (g.W.Wire.ends c.carry-3.new.wire)
    (state_of c.args.server.now) (state_of c.args.joiner.now) (state_of c.close.new.site) c.deref.result.now c.deref-2.result.now
    c.deref-3.result.now c.deref-4.result.now c.deref-5.result.now c.deref-6.result.now c.in-Ok-answer.count c.in-Ok-close.counts told
    closing (rw (sym c.deref-6.ensures.value) at c.in-Ok-carry-3.ensures.whole)
    (rw (sym c.deref-6.ensures.value) at c.in-Ok-carry-3.ensures.carried) (record {
      sent = c.in-Ok-carry-3.ensures.sent;
      received = c.in-Ok-carry-3.ensures.received;
      to_come = c.in-Ok-carry-3.ensures.to_come;
    }) c.in-Ok-carry-3.ensures.other_sent in
    looped (g.W.Wire.ends c.args.wire.now) (g.W.Wire.ends c.carry-3.new.wire) (state_of c.args.server.now) (state_of c.finish.new.site)
    (state_of c.args.joiner.now) (state_of c.close.new.site) c.deref.result.now c.deref-2.result.now c.deref-3.result.now
    c.deref-4.result.now c.deref-5.result.now c.deref-6.result.now c.in-Ok-answer.count _ c.in-Ok-close.counts ended
    c.in-Ok-finish.ensures.finished

pub returns-clause-stopped : goal.returns-clause-stopped
returns-clause-stopped g c =
    let quiet = quiet_by (g.W.Wire.ends c.args.wire.now) c.requires.nothing in
    let offer : Offer (state_of c.args.joiner.now) c.deref.result.now =
    offer_by (state_of c.args.joiner.now) c.new-first.result.items c.deref.result.now c.known-2.ensures.history c.new-first.ensures.items
    (c.deref.ensures.value ∙ c.in-Ok.ensures.ok) in
    let heard : Heard (g.W.Wire.ends c.args.wire.now) (g.W.Wire.ends c.carry.new.wire) (state_of c.args.joiner.now) c.deref.result.now
    c.deref-2.result.now =
    heard_by (g.W.Wire.ends c.args.wire.now) (g.W.Wire.ends c.carry.new.wire) (state_of c.args.joiner.now) c.deref.result.now
    c.deref-2.result.now quiet offer (rw (sym c.deref-2.ensures.value) at c.in-Ok-carry.ensures.whole)
    (rw (sym c.deref-2.ensures.value) at c.in-Ok-carry.ensures.wanted) (rw (sym c.deref-2.ensures.value) at c.in-Ok-carry.ensures.carried)
    (record { sent = c.in-Ok-carry.ensures.sent; received = c.in-Ok-carry.ensures.received; to_come = c.in-Ok-carry.ensures.to_come })
    c.in-Ok-carry.ensures.other_sent in
    let answer : Answer (state_of c.args.server.now) c.deref-2.result.now c.deref-3.result.now c.in-Ok-answer.count =
    answer_by (state_of c.args.server.now) c.deref-2.result.now c.new-second.result.items c.deref-3.result.now c.in-Ok-answer.count
    c.known.ensures.history c.new-second.ensures.items (rw (sym c.deref-3.ensures.value) at c.in-Ok-answer.ensures.answered) in
    let told : Told (g.W.Wire.ends c.args.wire.now) (g.W.Wire.ends c.carry-2.new.wire) (state_of c.args.server.now)
    (state_of c.args.joiner.now) c.deref.result.now c.deref-2.result.now c.deref-3.result.now c.deref-4.result.now c.in-Ok-answer.count =
    told_by (g.W.Wire.ends c.args.wire.now) (g.W.Wire.ends c.carry.new.wire) (g.W.Wire.ends c.carry-2.new.wire)
    (state_of c.args.server.now) (state_of c.args.joiner.now) c.deref.result.now c.deref-2.result.now c.deref-3.result.now
    c.deref-4.result.now c.in-Ok-answer.count heard answer (rw (sym c.deref-4.ensures.value) at c.in-Ok-carry-2.ensures.whole)
    (rw (sym c.deref-4.ensures.value) at c.in-Ok-carry-2.ensures.carried) (record {
      sent = c.in-Ok-carry-2.ensures.sent;
      received = c.in-Ok-carry-2.ensures.received;
      to_come = c.in-Ok-carry-2.ensures.to_come;
    }) c.in-Ok-carry-2.ensures.other_sent in
    let closing : Closing (state_of c.args.joiner.now) (state_of c.close.new.site) c.deref-4.result.now c.deref-5.result.now
    c.in-Ok-close.counts =
    closing_by (state_of c.args.joiner.now) (state_of c.close.new.site) c.deref-4.result.now c.new-third.result.items c.deref-5.result.now
    c.in-Ok-close.counts c.known-3.ensures.history c.new-third.ensures.items
    (rw (sym c.deref-5.ensures.value) at c.in-Ok-close.ensures.closed) in
    let ended : Ended (g.W.Wire.ends c.args.wire.now) (g.W.Wire.ends c.carry-3.new.wire) (state_of c.args.server.now)
    (state_of c.args.joiner.now) (state_of c.close.new.site) c.deref.result.now c.deref-2.result.now c.deref-3.result.now
    c.deref-4.result.now c.deref-5.result.now c.deref-6.result.now c.in-Ok-answer.count c.in-Ok-close.counts =
    ended_by (g.W.Wire.ends c.args.wire.now) (g.W.Wire.ends c.carry-2.new.wire) (g.W.Wire.ends c.carry-3.new.wire)
    (state_of c.args.server.now) (state_of c.args.joiner.now) (state_of c.close.new.site) c.deref.result.now c.deref-2.result.now
    c.deref-3.result.now c.deref-4.result.now c.deref-5.result.now c.deref-6.result.now c.in-Ok-answer.count c.in-Ok-close.counts told
    closing (rw (sym c.deref-6.ensures.value) at c.in-Ok-carry-3.ensures.whole)
    (rw (sym c.deref-6.ensures.value) at c.in-Ok-carry-3.ensures.carried) (record {
      sent = c.in-Ok-carry-3.ensures.sent;
      received = c.in-Ok-carry-3.ensures.received;
      to_come = c.in-Ok-carry-3.ensures.to_come;
    }) c.in-Ok-carry-3.ensures.other_sent in
    let server : IsSound (state_of c.args.server.now) =
    record { number = c.known.ensures.number; history = c.known.ensures.history; waiting = c.known.ensures.waiting } in
    let joiner : IsSound (state_of c.args.joiner.now) =
    record { number = c.known-2.ensures.number; history = c.known-2.ensures.history; waiting = c.known-2.ensures.waiting } in
    let only : AgreeInAll (state_of c.args.server.now) (state_of c.args.joiner.now)
    → OnlyMemoryRefuses (state_of c.args.server.now) (state_of c.args.joiner.now) =
    λ agree. c.agreeing_sites_are_not_refused.ensures (state_of c.args.server.now) (state_of c.args.joiner.now) server joiner agree in
    rw c.node_of-in-Err-finish.ensures (unserved (g.W.Wire.ends c.args.wire.now) (g.W.Wire.ends c.carry-3.new.wire)
    (state_of c.args.server.now) (state_of c.finish.new.site) (state_of c.args.joiner.now) (state_of c.close.new.site) c.deref.result.now
    c.deref-2.result.now c.deref-3.result.now c.deref-4.result.now c.deref-5.result.now c.deref-6.result.now c.in-Ok-answer.count
    c.in-Ok-close.counts c.in-Err-finish.why only ended c.in-Err-finish.ensures.refused)
