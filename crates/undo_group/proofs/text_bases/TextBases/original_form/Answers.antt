use Rattle.std.proofs.Common.{List, ap, sym, ◌∙◌}
use Rattle.undo_group.specs.Laws.Members.{contains_in}
use Rattle.undo_group.specs.Laws.Forms.{form_at}
use Rattle.context_diff.specs.Operations.{OpData}
use Rattle.context_diff.specs.Ops.{data_of}
use Rattle.undo_group.specs.BaseForms.{original_form}
use Rattle.undo_group.proofs.text_bases.TextBases.original_form.Goals as goal

pub returns : goal.returns
returns c =
    let h = c.self.inside.book.now.ops in
    let o = data_of c.in-Some.op.now in
    c.form_of.ensures
    ∙ (sym (form_at h c.known.ensures.valid o c.args.name.now (contains_in o h c.in-Some.ensures.there) c.in-Some.ensures.named)
    ∙ ap (λ (os : List OpData). original_form os c.args.name.now) c.self.view_is)
