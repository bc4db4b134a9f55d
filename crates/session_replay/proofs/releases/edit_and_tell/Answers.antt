use Rattle.std.proofs.Common.{◌∙◌, List, ap, subst, arith}
use Rattle.std.specs.Prelude.{Err}
use Rattle.context_diff.specs.Operations.{OpData}
use Rattle.context_diff.specs.Histories.{all_cells}
use Rattle.context_diff.specs.Ops.{data_of}
use Rattle.cot_site.specs.Releases.{IsSound}
use Rattle.cot_site.specs.Sites.{state_of}
use Rattle.cot_site.specs.States.{with_last}
use Rattle.participant.specs.declared.edits.Stopped.{Stopped}
use Rattle.participant.specs.Reached.{Reached, at}
use Rattle.participant.specs.Edits.{made_by, IsDone, IsLeftUnsettled}
use Rattle.session_replay.proofs.Commanding.{edit_next, made_behind}
use Rattle.session_replay.proofs.Releasing.{all_told, half_untold}
use Rattle.session_replay.proofs.Steps.{on_ok}
use Rattle.session_replay.proofs.releases.edit_and_tell.Goals as goal

pub returns-in-Ok-clause-told : goal.returns-in-Ok-clause-told
returns-in-Ok-clause-told c =
    let s = state_of c.args.site.now in
    let o = data_of c.in-Ok.op in
    let made = with_last s o in
    let done = c.in-Ok.ensures.done in
    let known = c.known.ensures in
    let sound : IsSound s = record { number = known.number; history = known.history; waiting = known.waiting } in
    record {
      op = o;
      is = done.0;
      next = edit_next s sound c.args.edit.now c.check_letters.ensures o done.0;
      done = all_told c.tell_made.result _ made made _ c.number.result _ _ _ _ (ap (λ (r : Reached). r.state) done.1)
          (c.number.ensures ∙ c.do_edit.ensures.later.number) c.clear.ensures.items
          (c.deref.ensures.value ∙ ap (λ (r : Reached). r.released) done.1) c.tell_made.ensures.ok c.tell_made.ensures.err;
    }

pub returns-in-Ok-clause-behind : goal.returns-in-Ok-clause-behind
returns-in-Ok-clause-behind c =
    let s = state_of c.args.site.now in
    let o = data_of c.in-Ok.op in
    let done = c.in-Ok.ensures.done in
    let known = c.known.ensures in
    let sound : IsSound s = record { number = known.number; history = known.history; waiting = known.waiting } in
    on_ok c.tell_made.result
    (made_behind s (state_of c.do_edit.new.site) c.args.edit.now o sound
    (edit_next s sound c.args.edit.now c.check_letters.ensures o done.0) done.0 (ap (λ (r : Reached). r.state) done.1)
    (omega (arith, c.known-in-Ok.ensures.cells, ap (λ (h : List OpData). all_cells h) c.book.ensures)))

pub returns-in-Err-Unsettled-clause-told : goal.returns-in-Err-Unsettled-clause-told
returns-in-Err-Unsettled-clause-told c =
    let s = state_of c.args.site.now in
    let before = at c.args.site.now c.clear.new.self.items in
    let after = at c.do_edit.new.site c.do_edit.new.released.items in
    let left : IsLeftUnsettled (made_by c.args.edit.now s) before after =
    subst (λ (why : Stopped). IsDone (made_by c.args.edit.now s) before (Err why) after) c.in-Err-Unsettled.field-0-is
    c.in-Err-Unsettled.ensures.done
    in
    let made = with_last s left.op in
    let known = c.known.ensures in
    let sound : IsSound s = record { number = known.number; history = known.history; waiting = known.waiting } in
    record {
      op = left.op;
      is = left.is;
      next = edit_next s sound c.args.edit.now c.check_letters.ensures left.op left.is;
      done = half_untold _ made made _ _ _ _ left.half;
    }
