use Rattle.std.proofs.Common.{◌∙◌, ◌++◌, ℕ, List, Bool, ap, sym, subst}
use Rattle.std.specs.Prelude.{Ok, Err}
use Rattle.op_name.specs.declared.memory.Memory.{Memory}
use Rattle.std.proofs.lemmas.Result.{err_from_is_err_and}
use Rattle.context_diff.specs.Operations.{OpData, IsWellFormed}
use Rattle.context_diff.specs.Ops.{data_of}
use Rattle.cot_site.specs.Sites.{state_of}
use Rattle.cot_site.specs.States.{judged, delivered}
use Rattle.cot_site.proofs.CallerLemmas.{delivered_number}
use Rattle.participant.specs.Reached.{Reached}
use Rattle.session_replay.specs.Sessions.{told_verdict}
use Rattle.session_replay.specs.Code.Doing.{free_lines}
use Rattle.session_replay.proofs.Steps.{stopped}
use Rattle.session_replay.proofs.Releasing.{all_told, untaken_reached}
use Rattle.session_replay.proofs.releases.take_in_and_tell.Goals as goal

pub tell_taken-requires : goal.tell_taken-requires
tell_taken-requires c = subst IsWellFormed (sym c.take_in.ensures.op) c.requires

pub returns-in_err-tell_taken-in-Ok-clause-done : goal.returns-in_err-tell_taken-in-Ok-clause-done
returns-in_err-tell_taken-in-Ok-clause-done c =
    let s = state_of c.args.site.now in
    let o = data_of c.args.op.now in
    let p = err_from_is_err_and c.from_residual.result c.from_residual.ensures.1 in
    let named = c.number.ensures ∙ (c.take_in.ensures.later.number ∙ sym (delivered_number s o)) in
    stopped c.from_residual.result p.0 p.1 _ _ _ _ _
    (all_told {T = Bool} (Err p.0) _ s (delivered s o) _ c.number.result _ _ c.args.out.now.items _
    (ap (λ (r : Reached). r.state) c.in-Ok.ensures.taken)
    named c.clear.ensures.items (ap (λ (r : Reached). r.released) c.in-Ok.ensures.taken) tt c.in_err-tell_taken-in-Ok.ensures.err)

pub returns-in_ok-tell_taken-in-Ok-clause-done : goal.returns-in_ok-tell_taken-in-Ok-clause-done
returns-in_ok-tell_taken-in-Ok-clause-done c =
    let s = state_of c.args.site.now in
    let o = data_of c.args.op.now in
    let n = c.number.result in
    let many = c.args.many in
    let verdict = c.in-Ok.verdict in
    let here = c.number.ensures ∙ c.take_in.ensures.later.number in
    let told =
    ap (λ (p : OpData). told_verdict many p verdict n) c.take_in.ensures.op
    ∙ ap (λ v. told_verdict many o v n) c.in-Ok.ensures.verdict
    ∙ ap (λ k. told_verdict many o (judged s o) k) here
    in
    let all =
    c.in_ok-tell_taken-in-Ok.ensures.ok ∙ ap (λ (w : List ℕ). c.args.out.now.items ++ (w ++ free_lines n c.deref.result.now)) told in
    all_told {E = Memory} (Ok c.is_had.result) _ s (delivered s o) _ n _ _ c.args.out.now.items _
    (ap (λ (r : Reached). r.state) c.in-Ok.ensures.taken)
    (here ∙ sym (delivered_number s o)) c.clear.ensures.items
    (c.deref.ensures.value ∙ ap (λ (r : Reached). r.released) c.in-Ok.ensures.taken) all tt

pub returns-in-Err-clause-done : goal.returns-in-Err-clause-done
returns-in-Err-clause-done c =
    untaken_reached c.args.many (data_of c.args.op.now) (state_of c.args.site.now) _ _ _ c.args.out.now.items _ c.in-Err.ensures.untaken
