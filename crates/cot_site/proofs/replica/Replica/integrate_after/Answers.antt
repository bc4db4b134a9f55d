use Rattle.std.proofs.Common.{◌≡◌, ◌∙◌, refl, sym, ap, subst, List, [], ◌∷◌, ◌++◌}
use Rattle.context_diff.specs.Operations.{OpData}
use Rattle.context_diff.specs.Histories.{IsNext, context_of_all}
use Rattle.context_diff.specs.Ops.{data_of}
use Rattle.ttf_form.specs.declared.form.Form.{Form}
use Rattle.fixed_replay.specs.Replayed.{AreCharacters}
use Rattle.form_rows.specs.Stretches.{AreNoted}
use Rattle.cot_site.specs.Sites.{AreCached}
use Rattle.cot_site.specs.Code.Judging.{HasCells}
use Rattle.cot_site.specs.Code.Replicas.{ReplicaData, IsExecuted, AreRowsOf, KnowsAll, before_last}
use Rattle.cot_site.proofs.Executions.{added_at, next_after_at, fits_at, step_at, executed_same}
use Rattle.cot_site.proofs.Characters.{characters_same, letters_many, text_at}
use Rattle.cot_site.specs.Code.Notes.{entries_of, AreTold}
use Rattle.cot_site.proofs.Noted.{notes_more, notes_none, notes_same}
use Rattle.cot_site.proofs.RowForms.{before_last_is, knows_before, no_rows, rows_same}
use Rattle.cot_site.proofs.replica.Replica.integrate_after.Goals as goal

pub invariant_of-self-in_err-reserve : goal.invariant_of-self-in_err-reserve
invariant_of-self-in_err-reserve c =
    let cs = c.self.inside.cells.cells in
    let kept = notes_same c.self.inside.book.ops c.reserve.new.self.ops c.self.inside.notes c.reserve.ensures.ops
    (c.self.invariant.1, c.self.invariant.2) in (
      executed_same c.self.inside.book.ops c.reserve.new.self.ops c.self.inside.forms.items c.reserve_one.new.list.items cs cs
          c.self.invariant.0 c.reserve.ensures.ops c.reserve_one.ensures.items (λ i. cs),
      kept.0,
      kept.1,
      rows_same c.self.inside.book.ops c.reserve.new.self.ops c.self.inside.rows c.self.invariant.3 c.reserve.ensures.ops,
      subst (λ (fs : List Form). AreNoted c.self.inside.passages fs) (sym c.reserve_one.ensures.items) c.self.invariant.4,
      characters_same c.self.inside.book.ops c.reserve.new.self.ops cs cs c.self.inside.cells.text c.self.inside.cells.text
          c.self.invariant.5 c.reserve.ensures.ops (λ i. cs) (λ i. c.self.inside.cells.text),
    )

pub push_counted-requires-clause-counted : goal.push_counted-requires-clause-counted
push_counted-requires-clause-counted c =
    let same = c.reserve.ensures.ops ∙ ap (λ (r : ReplicaData). r.history) c.self.view_is in
    subst (λ (h : List OpData). HasCells h (data_of c.args.op) c.args.cells) (sym same) c.requires.cells

pub execute-requires-clause-noted : goal.execute-requires-clause-noted
execute-requires-clause-noted c = subst (λ (fs : List Form). AreNoted c.self.inside.passages fs) (sym c.reserve_one.ensures.items)
    c.self.invariant.4

pub execute-requires-clause-added : goal.execute-requires-clause-added
execute-requires-clause-added c =
    let h = c.self.inside.book.ops in
    let o = data_of c.args.op in
    let next = subst (λ (r : ReplicaData). IsNext r.history o) (sym c.self.view_is) c.requires.next in
    let grown : c.push_counted.new.self.ops ≡ h ++ o ∷ [] =
    c.push_counted.ensures ∙ ap (λ (l : List OpData). l ++ o ∷ []) c.reserve.ensures.ops in
    let before = before_last_is h o c.push_counted.new.self.ops c.known.ensures.valid next grown in
    added_at h o c.push_counted.new.self.ops (before_last c.push_counted.new.self.ops) c.member-member.result c.known.ensures.valid next
    grown before c.member-member.ensures.member

pub execute-requires-clause-next : goal.execute-requires-clause-next
execute-requires-clause-next c =
    let h = c.self.inside.book.ops in
    let o = data_of c.args.op in
    let next = subst (λ (r : ReplicaData). IsNext r.history o) (sym c.self.view_is) c.requires.next in
    let grown : c.push_counted.new.self.ops ≡ h ++ o ∷ [] =
    c.push_counted.ensures ∙ ap (λ (l : List OpData). l ++ o ∷ []) c.reserve.ensures.ops in
    let before = before_last_is h o c.push_counted.new.self.ops c.known.ensures.valid next grown in
    next_after_at h o c.push_counted.new.self.ops (before_last c.push_counted.new.self.ops) c.member-member.result c.self.inside.forms.items
    c.reserve_one.new.list.items c.self.inside.cells.cells c.self.inside.rows c.known.ensures.valid next grown before
    c.member-member.ensures.member c.self.invariant.0 c.reserve_one.ensures.items c.self.invariant.3

pub execute-requires-clause-knows : goal.execute-requires-clause-knows
execute-requires-clause-knows c sure =
    let h = c.self.inside.book.ops in
    let o = data_of c.args.op in
    let next = subst (λ (r : ReplicaData). IsNext r.history o) (sym c.self.view_is) c.requires.next in
    let grown : c.push_counted.new.self.ops ≡ h ++ o ∷ [] =
    c.push_counted.ensures ∙ ap (λ (l : List OpData). l ++ o ∷ []) c.reserve.ensures.ops in
    let knows = subst (λ (r : ReplicaData). KnowsAll (context_of_all r.history) o) (sym c.self.view_is) (c.requires.knows sure) in
    knows_before h o c.push_counted.new.self.ops c.known.ensures.valid next grown (context_of_all h) c.member-member.result refl
    c.member-member.ensures.member knows

pub execute-requires-clause-fits : goal.execute-requires-clause-fits
execute-requires-clause-fits c =
    let h = c.self.inside.book.ops in
    let o = data_of c.args.op in
    let next = subst (λ (r : ReplicaData). IsNext r.history o) (sym c.self.view_is) c.requires.next in
    let grown : c.push_counted.new.self.ops ≡ h ++ o ∷ [] =
    c.push_counted.ensures ∙ ap (λ (l : List OpData). l ++ o ∷ []) c.reserve.ensures.ops in
    let before = before_last_is h o c.push_counted.new.self.ops c.known.ensures.valid next grown in
    fits_at h o c.push_counted.new.self.ops (before_last c.push_counted.new.self.ops) c.member-member.result c.self.inside.forms.items
    c.self.inside.cells.cells c.known.ensures.valid next grown before c.member-member.ensures.member c.self.invariant.0

pub execute-requires-clause-letters : goal.execute-requires-clause-letters
execute-requires-clause-letters c =
    let h = c.self.inside.book.ops in
    let o = data_of c.args.op in
    let next = subst (λ (r : ReplicaData). IsNext r.history o) (sym c.self.view_is) c.requires.next in
    let grown : c.push_counted.new.self.ops ≡ h ++ o ∷ [] =
    c.push_counted.ensures ∙ ap (λ (l : List OpData). l ++ o ∷ []) c.reserve.ensures.ops in
    let before = before_last_is h o c.push_counted.new.self.ops c.known.ensures.valid next grown in
    letters_many h o c.push_counted.new.self.ops (before_last c.push_counted.new.self.ops) c.member-member.result c.known.ensures.valid
    next grown before c.member-member.ensures.member

pub execute-requires-clause-kept : goal.execute-requires-clause-kept
execute-requires-clause-kept c =
    let h = c.self.inside.book.ops in
    let o = data_of c.args.op in
    let next = subst (λ (r : ReplicaData). IsNext r.history o) (sym c.self.view_is) c.requires.next in
    let grown : c.push_counted.new.self.ops ≡ h ++ o ∷ [] =
    c.push_counted.ensures ∙ ap (λ (l : List OpData). l ++ o ∷ []) c.reserve.ensures.ops in
    notes_more h o c.push_counted.new.self.ops c.self.inside.notes c.known.ensures.valid next grown (c.self.invariant.1, c.self.invariant.2)

pub invariant_of-self-in-Ok : goal.invariant_of-self-in-Ok
invariant_of-self-in-Ok c =
    let h = c.self.inside.book.ops in
    let o = data_of c.args.op in
    let next = subst (λ (r : ReplicaData). IsNext r.history o) (sym c.self.view_is) c.requires.next in
    let grown : c.push_counted.new.self.ops ≡ h ++ o ∷ [] =
    c.push_counted.ensures ∙ ap (λ (l : List OpData). l ++ o ∷ []) c.reserve.ensures.ops in
    let before = before_last_is h o c.push_counted.new.self.ops c.known.ensures.valid next grown in
    let made =
    step_at h o c.push_counted.new.self.ops (before_last c.push_counted.new.self.ops) c.member-member.result c.self.inside.forms.items
    c.reserve_one.new.list.items c.execute.new.forms.items c.self.inside.cells c.execute.new.cells c.known.ensures.valid
    next grown before c.member-member.ensures.member c.self.invariant.0 c.reserve_one.ensures.items c.in-Ok.ensures.step in
    let text =
    text_at h o c.push_counted.new.self.ops (before_last c.push_counted.new.self.ops) c.member-member.result c.known.ensures.valid next
    grown before c.member-member.ensures.member c.self.inside.forms.items c.reserve_one.new.list.items c.execute.new.forms.items
    c.self.inside.cells c.execute.new.cells c.self.invariant.0 c.self.invariant.5 c.in-Ok.ensures.step in
    subst (λ (k : List OpData). IsExecuted k c.execute.new.forms.items c.execute.new.cells.cells
    × AreCached k (entries_of k c.execute.new.notes) × AreTold k c.execute.new.notes × AreRowsOf k c.execute.new.rows
    × AreNoted c.execute.new.passages c.execute.new.forms.items
    × AreCharacters k c.execute.new.cells.cells c.execute.new.cells.text) (sym c.share.ensures.ops)
    (made, c.in-Ok.ensures.kept.0, c.in-Ok.ensures.kept.1, c.in-Ok.ensures.rows, c.in-Ok.ensures.noted, text)

pub invariant_of-self-in-Err : goal.invariant_of-self-in-Err
invariant_of-self-in-Err c =
    let h = c.self.inside.book.ops in
    let o = data_of c.args.op in
    let grown : c.push_counted.new.self.ops ≡ h ++ o ∷ [] =
    c.push_counted.ensures ∙ ap (λ (l : List OpData). l ++ o ∷ []) c.reserve.ensures.ops in
    let back = c.take_back.new.book.ops in
    let kept = notes_none back c.take_back.new.notes c.take_back.ensures.notes in (
      executed_same h back c.self.inside.forms.items c.execute.new.forms.items c.self.inside.cells.cells c.execute.new.cells.cells
          c.self.invariant.0 (c.take_back.ensures.ops h o grown)
          (c.in-Err.ensures.forms ∙ c.reserve_one.ensures.items) c.in-Err.ensures.cells,
      kept.0,
      kept.1,
      no_rows back c.take_back.new.rows c.take_back.ensures.rows,
      c.in-Err.ensures.noted,
      characters_same h back c.self.inside.cells.cells c.execute.new.cells.cells c.self.inside.cells.text c.execute.new.cells.text
          c.self.invariant.5 (c.take_back.ensures.ops h o grown) c.in-Err.ensures.cells c.in-Err.ensures.text,
    )
