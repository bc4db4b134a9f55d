use Rattle.std.proofs.Common.{◌+◌, ◌≤◌, length, sym, subst, arith, List, ℕ}
use Rattle.std.specs.Prelude.{Option, IfSome}
use Rattle.context_diff.specs.Operations.{OpData}
use Rattle.context_diff.specs.declared.op.Op.{Op}
use Rattle.cot_site.specs.Sites.{state_of}
use Rattle.peer_exchange.specs.declared.peer.Peer.{Peer}
use Rattle.peer_exchange.specs.Messages.{IsThird}
use Rattle.peer_exchange.specs.Code.Receiving.{AreUntaken, IsFirstOf}
use Rattle.op_name.proofs.CallerLemmas.{handed_on}
use Rattle.wire_codec.proofs.CallerLemmas.{on_err}
use Rattle.peer_exchange.proofs.Receivings.{IsTaking, taking_begins, next_formed, taking_more, taking_stops, taking_fails, frame_left}
use Rattle.peer_exchange.proofs.Receivings.{next_left}
use Rattle.peer_exchange.proofs.receiving.take_frames.Goals as goal

pub loop-next-init : goal.loop-next-init
loop-next-init c = taking_begins (state_of c.args.site.now) c.args.bytes.now c.requires.frames

pub take_next-requires : goal.take_next-requires
take_next-requires c =
    let first =
    subst (λ (p : Option (Op × ℕ)). (os : List OpData) → IsThird c.loop-next.left.now os → IsFirstOf c.loop-next.left.now os p)
    c.in-Ok-Some.field-0-is c.in-Ok-Some.ensures.first in
    next_formed (state_of c.args.site.now) c.args.bytes.now c.loop-next.left.now (state_of c.loop-next.site) c.loop-next.count
    c.in-Ok-Some.next c.loop-next.invariant first

pub overflow_add-count : goal.overflow_add-count
overflow_add-count c =
    let few = c.loop-next.invariant.few in
    let within =
    subst (λ (p : Option (Op × ℕ)). IfSome p (λ q. (1 ≤ q.1) × (q.1 ≤ length c.loop-next.left.now))) c.in-Ok-Some.field-0-is
    c.in-Ok-Some.ensures.within in
    let short = c.requires.short in
    omega (arith, few, within.0, within.1, short)

pub loop-next-preserved : goal.loop-next-preserved
loop-next-preserved c =
    let first =
    subst (λ (p : Option (Op × ℕ)). (os : List OpData) → IsThird c.loop-next.left.now os → IsFirstOf c.loop-next.left.now os p)
    c.in-Ok-Some.field-0-is c.in-Ok-Some.ensures.first in
    let more =
    taking_more (state_of c.args.site.now) c.args.bytes.now c.loop-next.left.now (state_of c.loop-next.site) c.loop-next.count
    c.in-Ok-Some.next c.loop-next.invariant first
    (state_of c.take_next.new.site) c.in_ok-take_next-in-Ok-Some.ensures.taken in
    subst (λ (left : List ℕ). IsTaking (state_of c.args.site.now) c.args.bytes.now left (state_of c.take_next.new.site)
    (c.loop-next.count + 1)) (sym c.split_at.ensures.back) more

pub returns-in_err-take_next-in-Ok-Some-clause-untaken : goal.returns-in_err-take_next-in-Ok-Some-clause-untaken
returns-in_err-take_next-in-Ok-Some-clause-untaken c =
    let s = state_of c.args.site.now in
    let t = state_of c.take_next.new.site in
    let why = c.in_err-take_next-in-Ok-Some.field-0.0 in
    let first =
    subst (λ (p : Option (Op × ℕ)). (os : List OpData) → IsThird c.loop-next.left.now os → IsFirstOf c.loop-next.left.now os p)
    c.in-Ok-Some.field-0-is c.in-Ok-Some.ensures.first in
    handed_on (λ (e : Peer). (os : List OpData) × IsThird c.args.bytes.now os × AreUntaken s os t e) c.from_residual.result why
    c.from_residual.ensures.1
    (taking_stops s c.args.bytes.now c.loop-next.left.now (state_of c.loop-next.site) c.loop-next.count c.in-Ok-Some.next
    c.loop-next.invariant first t why c.in_err-take_next-in-Ok-Some.ensures.untaken)

pub returns-in_err-take_next-in-Ok-Some-clause-needed : goal.returns-in_err-take_next-in-Ok-Some-clause-needed
returns-in_err-take_next-in-Ok-Some-clause-needed c =
    let first =
    subst (λ (p : Option (Op × ℕ)). (os : List OpData) → IsThird c.loop-next.left.now os → IsFirstOf c.loop-next.left.now os p)
    c.in-Ok-Some.field-0-is c.in-Ok-Some.ensures.first in
    on_err c.from_residual.result (next_left (state_of c.args.site.now) c.args.bytes.now c.loop-next.left.now (state_of c.loop-next.site)
    c.loop-next.count c.in-Ok-Some.next c.loop-next.invariant first)

pub returns-in-Err-clause-needed : goal.returns-in-Err-clause-needed
returns-in-Err-clause-needed c =
    frame_left (state_of c.args.site.now) c.args.bytes.now c.loop-next.left.now (state_of c.loop-next.site) c.loop-next.count
    c.loop-next.invariant c.in-Err.ensures.needed

pub returns-in-Err-clause-untaken : goal.returns-in-Err-clause-untaken
returns-in-Err-clause-untaken c =
    taking_fails (state_of c.args.site.now) c.args.bytes.now c.loop-next.left.now (state_of c.loop-next.site) c.loop-next.count
    c.loop-next.invariant
