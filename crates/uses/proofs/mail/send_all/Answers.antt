use Rattle.std.proofs.Common.{◌≡◌, ◌+◌, ◌-◌, List, sym, ap, subst, ◌∙◌, arith}
use Rattle.std.specs.Prelude.{None, option_map, slice_get}
use Rattle.std.specs.Borrow.{Bor}
use Rattle.context_diff.specs.declared.op.Op.{Op}
use Rattle.context_diff.specs.Operations.{OpData}
use Rattle.context_diff.specs.Ops.{data_of}
use Rattle.context_diff.proofs.CallerLemmas.{complete, not_past}
use Rattle.cot_site.specs.Sites.{state_of}
use Rattle.cot_site.proofs.CallerLemmas.{formed_at}
use Rattle.uses.specs.Mail.{IsPartlySent}
use Rattle.uses.proofs.Sending.{AreSentFrom, sent_more, partly_sent}
use Rattle.op_name.proofs.CallerLemmas.{handed_on}
use Rattle.uses.proofs.mail.send_all.Goals as goal

pub send-requires : goal.send-requires
send-requires c =
    let h = c.book-book.result.now.ops in
    formed_at h (c.loop-left.left - 1) (data_of c.in-Some.op.now) (complete h c.known.ensures.valid).formed (sym c.in-Some.ensures)

pub loop-left-preserved : goal.loop-left-preserved
loop-left-preserved c =
    let h = c.book-book.result.now.ops in
    let s = state_of c.args.to.now in
    let t = state_of c.loop-left.to in
    let i = c.loop-left.left - 1 in
    let place : c.loop-left.left ≡ i + 1 = omega (arith, c.loop-left-test.true) in
    let sent : AreSentFrom s h (i + 1) t = subst (λ k. AreSentFrom s h k t) place c.loop-left.invariant.1 in (
      omega (arith, c.loop-left.invariant.0),
      sent_more s h i (data_of c.in-Some.op.now) (sym c.in-Some.ensures) t (state_of c.send.new.to) sent c.in_ok-send-in-Some.ensures.state
          c.in_ok-send-in-Some.ensures.taken,
    )

pub returns-in_err-send-in-Some-clause-refused : goal.returns-in_err-send-in-Some-clause-refused
returns-in_err-send-in-Some-clause-refused c =
    let h = c.book-book.result.now.ops in
    let s = state_of c.args.to.now in
    let t = state_of c.loop-left.to in
    let u = state_of c.send.new.to in
    let i = c.loop-left.left - 1 in
    let why = c.in_err-send-in-Some.field-0.0 in
    let place : c.loop-left.left ≡ i + 1 = omega (arith, c.loop-left-test.true) in
    let sent : AreSentFrom s h (i + 1) t = subst (λ k. AreSentFrom s h k t) place c.loop-left.invariant.1 in
    let cut : IsPartlySent h s u why =
    partly_sent s h i (data_of c.in-Some.op.now) (sym c.in-Some.ensures) t u why sent c.in_err-send-in-Some.ensures.refused in
    handed_on (IsPartlySent c.args.from.now.history s u) c.from_residual.result why c.from_residual.ensures.1
    (subst (λ (k : List OpData). IsPartlySent k s u why) c.book-book.ensures cut)

pub unreachable-requires : goal.unreachable-requires
unreachable-requires c =
    let h = c.book-book.result.now.ops in
    let i = c.loop-left.left - 1 in
    let at : slice_get h i ≡ None = sym c.op.ensures ∙ ap (option_map (λ (o : Bor Op). data_of o.now)) c.in-None.is in
    not_past h i (omega (arith, c.loop-left.invariant.0, c.loop-left-test.true)) at
