use Rattle.std.proofs.Common.{ap, sym, ◌∙◌}
use Rattle.context_diff.specs.declared.op.Op.{Op}
use Rattle.context_diff.specs.Ops.{data_of}
use Rattle.undo_group.specs.BaseForms.{form_of}
use Rattle.undo_group.proofs.text_bases.form_of.Goals as goal

pub returns-in-Insert : goal.returns-in-Insert
returns-in-Insert c = c.put_form.ensures ∙ sym (ap (λ (o : Op). form_of (data_of o)) c.in-Insert.is)
