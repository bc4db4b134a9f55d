use Rattle.std.proofs.Common.{refl, arith}
use Rattle.ttf_form.specs.declared.form.Form.TheVariants.{Ins as Insert}
use Rattle.cot_site.specs.declared.notes.At.TheVariants.{With}
use Rattle.cot_site.specs.Code.Notes.{note_of}
use Rattle.cot_site.proofs.Noted.{form_with_last, notes_with}
use Rattle.cot_site.proofs.replica.note_insert.Goals as goal

pub returns-then-knew_base : goal.returns-then-knew_base
returns-then-knew_base c =
    let h = c.args.book.now.ops in
    let x = c.args.ins.name in
    let f = Insert c.args.ins in
    let form =
    form_with_last h c.known.ensures.valid c.args.name.now x c.args.last f c.requires.last c.requires.place refl c.requires.first
    (c.knew_base.ensures c.if-knew_base.true) in
    record {
      kept = notes_with h (note_of x (With c.args.last) f) c.args.notes.now c.keep.new.self 63 c.requires.kept form
          (omega (arith, c.requires.place)) c.keep.ensures;
    }
