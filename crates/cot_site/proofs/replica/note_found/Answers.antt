use Rattle.std.proofs.Common.{Option, ◌∙◌, arith, ap, subst}
use Rattle.std.specs.Prelude.{IfSome, Some}
use Rattle.op_name.specs.declared.member.Member.TheVariants.{Original}
use Rattle.ttf_form.specs.declared.form.Form.{Form}
use Rattle.ttf_form.specs.Forms.{form_over}
use Rattle.transform_rec.specs.Histories.{family_in}
use Rattle.undo_group.specs.BaseForms.{base_form}
use Rattle.form_rows.specs.Names.{insert_of}
use Rattle.form_rows.specs.Kept.{IsFormWith}
use Rattle.cot_site.specs.declared.notes.At.TheVariants.{Before}
use Rattle.cot_site.specs.Code.Notes.{note_of}
use Rattle.cot_site.proofs.Noted.{form_before_last, notes_with}
use Rattle.cot_site.proofs.replica.note_found.Goals as goal

pub note_insert-requires-clause-first : goal.note_insert-requires-clause-first
note_insert-requires-clause-first c =
    let h = c.args.book.now.ops in
    let is = c.in-Some-Ins.is ∙ ap Some c.in-Some-Ins.field-0-is in
    subst (λ (a : Option Form). IfSome a (IsFormWith form_over insert_of (family_in h (base_form h)) (Original c.args.name.now))) is
    c.requires.first

pub note_insert-requires-clause-kept : goal.note_insert-requires-clause-kept
note_insert-requires-clause-kept c =
    let h = c.args.book.now.ops in
    let last = c.last_place-last.result in
    let form = form_before_last h c.args.name.now last c.args.form c.last_place-last.ensures c.requires.form in
    notes_with h (note_of c.args.name.now (Before last) c.args.form) c.args.notes.now c.keep.new.self 63 c.requires.kept form
    (omega (arith, c.last_place-last.ensures)) c.keep.ensures

pub returns : goal.returns
returns c =
    let h = c.args.book.now.ops in
    let last = c.last_place-last.result in
    let form = form_before_last h c.args.name.now last c.args.form c.last_place-last.ensures c.requires.form in
    record {
      kept = notes_with h (note_of c.args.name.now (Before last) c.args.form) c.args.notes.now c.keep.new.self 63 c.requires.kept
          form (omega (arith, c.last_place-last.ensures)) c.keep.ensures;
    }

pub returns-2 : goal.returns-2
returns-2 c =
    let h = c.args.book.now.ops in
    let last = c.last_place-last.result in
    let form = form_before_last h c.args.name.now last c.args.form c.last_place-last.ensures c.requires.form in
    record {
      kept = notes_with h (note_of c.args.name.now (Before last) c.args.form) c.args.notes.now c.keep.new.self 63 c.requires.kept
          form (omega (arith, c.last_place-last.ensures)) c.keep.ensures;
    }
