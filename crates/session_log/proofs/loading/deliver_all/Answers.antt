use Rattle.std.proofs.Common.{subst}
use Rattle.context_diff.specs.Ops.{data_of}
use Rattle.cot_site.specs.Sites.{state_of}
use Rattle.session_log.specs.Loadings.{verdicts_after, IsRefusal, IsUnloaded}
use Rattle.op_name.proofs.CallerLemmas.{handed_on}
use Rattle.session_log.proofs.Listings.{passes_placed, at_placed}
use Rattle.session_log.proofs.TakingIn.{loading_more, loading_refused}
use Rattle.session_log.proofs.loading.deliver_all.Goals as goal

pub loop-released-preserved : goal.loop-released-preserved
loop-released-preserved c =
    let p = c.in-Some.field-0 in
    let left = c.loop-released.left in
    let next = c.next.new.self in
    let step = passes_placed left next c.in_ok-offset.field-0 p c.in-Some.is c.in_ok-offset.ensures.step in
    loading_more c.args.site.now.number c.args.bytes.now left next (state_of c.loop-released.site) (state_of c.take_in.new.site)
    (data_of p.op) c.loop-released.invariant step c.in_ok-take_in.ensures.taken c.in_ok-take_in.ensures.state

pub returns-in_err-take_in-clause-refused : goal.returns-in_err-take_in-clause-refused
returns-in_err-take_in-clause-refused c =
    let p = c.in-Some.field-0 in
    let left = c.loop-released.left in
    let next = c.next.new.self in
    let s = state_of c.loop-released.site in
    let why = c.in_err-take_in.field-0.0 in
    let step = passes_placed left next c.in_ok-offset.field-0 p c.in-Some.is c.in_ok-offset.ensures.step in
    let at = at_placed left c.in_ok-offset.field-0 p c.in-Some.is c.in_ok-offset.ensures.place in
    let refusal = subst (λ n. IsRefusal n (verdicts_after s (data_of p.op)) why) at c.in_err-take_in.ensures.refused in
    handed_on (IsUnloaded c.args.site.now.number c.args.bytes.now) c.from_residual-in_err-take_in.result why
    c.from_residual-in_err-take_in.ensures.1
    (loading_refused c.args.site.now.number c.args.bytes.now left next s (data_of p.op) why c.requires.log c.loop-released.invariant step
    refusal)
