use Rattle.std.proofs.Common.{sym, ◌∙◌}
use Rattle.site_node.proofs.Joiners.{unoffered, unsent, offered_by, unclosed, closed_by, cut_off, joined}
use Rattle.site_node.proofs.joining.join_linked.Goals as goal

pub returns-in-Err-clause-stopped : goal.returns-in-Err-clause-stopped
returns-in-Err-clause-stopped g c = unoffered _ _

pub returns-in-Err-send-clause-stopped : goal.returns-in-Err-send-clause-stopped
returns-in-Err-send-clause-stopped g c =
    unsent _ _ _ c.new-first.result.items c.deref.result.now c.new-first.ensures.items (c.deref.ensures.value ∙ c.in-Ok.ensures.ok)
    c.in-Err-send.ensures.front c.in-Err-send.ensures.received c.in-Err-send.ensures.to_come

pub close-requires : goal.close-requires
close-requires g c = rw c.deref-2.ensures.value c.in-Ok-receive.ensures.short

pub returns-in-Err-close-clause-stopped : goal.returns-in-Err-close-clause-stopped
returns-in-Err-close-clause-stopped g c =
    let offered =
    offered_by _ _ _ c.new-first.result.items c.deref.result.now c.new-first.ensures.items (c.deref.ensures.value ∙ c.in-Ok.ensures.ok)
    c.in-Ok-send.ensures.whole c.in-Ok-send.ensures.received c.in-Ok-send.ensures.to_come in
    rw c.node_of.ensures (unclosed _ _ _ _ _ _ c.deref-2.result.now c.in-Err-close.why offered
    (rw (sym c.deref-2.ensures.value) at c.in-Ok-receive.ensures.whole)
    (rw (sym c.deref-2.ensures.value) at c.in-Ok-receive.ensures.received) c.in-Err-close.ensures.refused)

pub returns-in-Ok-send-2-clause-joined : goal.returns-in-Ok-send-2-clause-joined
returns-in-Ok-send-2-clause-joined g c =
    let offered =
    offered_by _ _ _ c.new-first.result.items c.deref.result.now c.new-first.ensures.items (c.deref.ensures.value ∙ c.in-Ok.ensures.ok)
    c.in-Ok-send.ensures.whole c.in-Ok-send.ensures.received c.in-Ok-send.ensures.to_come in
    let closed =
    closed_by _ _ _ _ _ _ c.deref-2.result.now _ c.deref-3.result.now c.in-Ok-close.counts offered
    (rw (sym c.deref-2.ensures.value) at c.in-Ok-receive.ensures.whole)
    (rw (sym c.deref-2.ensures.value) at c.in-Ok-receive.ensures.received) c.new-third.ensures.items
    (rw (sym c.deref-3.ensures.value) at c.in-Ok-close.ensures.closed) in
    joined _ _ _ _ _ _ _ _ c.in-Ok-close.counts closed c.in-Ok-send-2.ensures.whole c.in-Ok-send-2.ensures.received
    c.in-Ok-send-2.ensures.to_come

pub returns-clause-stopped : goal.returns-clause-stopped
returns-clause-stopped g c =
    let offered =
    offered_by _ _ _ c.new-first.result.items c.deref.result.now c.new-first.ensures.items (c.deref.ensures.value ∙ c.in-Ok.ensures.ok)
    c.in-Ok-send.ensures.whole c.in-Ok-send.ensures.received c.in-Ok-send.ensures.to_come in
    let closed =
    closed_by _ _ _ _ _ _ c.deref-2.result.now _ c.deref-3.result.now c.in-Ok-close.counts offered
    (rw (sym c.deref-2.ensures.value) at c.in-Ok-receive.ensures.whole)
    (rw (sym c.deref-2.ensures.value) at c.in-Ok-receive.ensures.received) c.new-third.ensures.items
    (rw (sym c.deref-3.ensures.value) at c.in-Ok-close.ensures.closed) in
    cut_off _ _ _ _ _ _ _ _ c.in-Ok-close.counts closed c.in-Err-send-2.ensures.front c.in-Err-send-2.ensures.received
    c.in-Err-send-2.ensures.to_come
