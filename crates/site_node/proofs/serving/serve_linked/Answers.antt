use Rattle.std.proofs.Common.{sym}
use Rattle.site_node.proofs.Servers.{asked_by, unasked, unsent, answered_by, unheard, unserved, served}
use Rattle.site_node.proofs.serving.serve_linked.Goals as goal

pub returns-in-Err-clause-stopped : goal.returns-in-Err-clause-stopped
returns-in-Err-clause-stopped g c = unasked _ _ _ c.in-Err.why c.in-Err.ensures.stopped

pub answer-requires : goal.answer-requires
answer-requires g c = rw c.deref.ensures.value c.in-Ok.ensures.short

pub returns-in-Err-send-clause-stopped : goal.returns-in-Err-send-clause-stopped
returns-in-Err-send-clause-stopped g c =
    let asked =
    asked_by _ _ c.deref.result.now (rw (sym c.deref.ensures.value) at c.in-Ok.ensures.whole)
    (rw (sym c.deref.ensures.value) at c.in-Ok.ensures.wanted) (rw (sym c.deref.ensures.value) at c.in-Ok.ensures.received) in
    unsent _ _ _ _ _ _ c.deref-2.result.now c.in-Ok-answer.sent asked c.new-second.ensures.items
    (rw (sym c.deref-2.ensures.value) at c.in-Ok-answer.ensures.answered) c.in-Err-send.ensures.front c.in-Err-send.ensures.received
    c.in-Err-send.ensures.to_come

pub returns-in-Err-receive-clause-stopped : goal.returns-in-Err-receive-clause-stopped
returns-in-Err-receive-clause-stopped g c =
    let asked =
    asked_by _ _ c.deref.result.now (rw (sym c.deref.ensures.value) at c.in-Ok.ensures.whole)
    (rw (sym c.deref.ensures.value) at c.in-Ok.ensures.wanted) (rw (sym c.deref.ensures.value) at c.in-Ok.ensures.received) in
    let answered =
    answered_by _ _ _ _ _ _ c.deref-2.result.now c.in-Ok-answer.sent asked c.new-second.ensures.items
    (rw (sym c.deref-2.ensures.value) at c.in-Ok-answer.ensures.answered) c.in-Ok-send.ensures.whole c.in-Ok-send.ensures.received
    c.in-Ok-send.ensures.to_come in
    unheard _ _ _ _ _ _ c.in-Ok-answer.sent c.in-Err-receive.why answered c.in-Err-receive.ensures.stopped

pub finish-requires : goal.finish-requires
finish-requires g c = rw c.deref-3.ensures.value c.in-Ok-receive.ensures.short

pub returns-in-Ok-finish-clause-served : goal.returns-in-Ok-finish-clause-served
returns-in-Ok-finish-clause-served g c =
    let asked =
    asked_by _ _ c.deref.result.now (rw (sym c.deref.ensures.value) at c.in-Ok.ensures.whole)
    (rw (sym c.deref.ensures.value) at c.in-Ok.ensures.wanted) (rw (sym c.deref.ensures.value) at c.in-Ok.ensures.received) in
    let answered =
    answered_by _ _ _ _ _ _ c.deref-2.result.now c.in-Ok-answer.sent asked c.new-second.ensures.items
    (rw (sym c.deref-2.ensures.value) at c.in-Ok-answer.ensures.answered) c.in-Ok-send.ensures.whole c.in-Ok-send.ensures.received
    c.in-Ok-send.ensures.to_come in
    served _ _ _ _ _ _ _ c.deref-3.result.now c.in-Ok-answer.sent c.in-Ok-finish.taken answered
    (rw (sym c.deref-3.ensures.value) at c.in-Ok-receive.ensures.whole)
    (rw (sym c.deref-3.ensures.value) at c.in-Ok-receive.ensures.received) c.in-Ok-finish.ensures.finished

pub returns-clause-stopped : goal.returns-clause-stopped
returns-clause-stopped g c =
    let asked =
    asked_by _ _ c.deref.result.now (rw (sym c.deref.ensures.value) at c.in-Ok.ensures.whole)
    (rw (sym c.deref.ensures.value) at c.in-Ok.ensures.wanted) (rw (sym c.deref.ensures.value) at c.in-Ok.ensures.received) in
    let answered =
    answered_by _ _ _ _ _ _ c.deref-2.result.now c.in-Ok-answer.sent asked c.new-second.ensures.items
    (rw (sym c.deref-2.ensures.value) at c.in-Ok-answer.ensures.answered) c.in-Ok-send.ensures.whole c.in-Ok-send.ensures.received
    c.in-Ok-send.ensures.to_come in
    rw c.node_of-in-Err-finish.ensures (unserved _ _ _ _ _ _ _ c.deref-3.result.now c.in-Ok-answer.sent c.in-Err-finish.why answered
    (rw (sym c.deref-3.ensures.value) at c.in-Ok-receive.ensures.whole)
    (rw (sym c.deref-3.ensures.value) at c.in-Ok-receive.ensures.received) c.in-Err-finish.ensures.refused)
