use Rattle.std.proofs.Common.{◌≡◌, ℕ, ◌+◌, ap, sym, subst, ◌∙◌, arith}
use Rattle.ttf_form.specs.declared.form.Form.{Form}
use Rattle.form_rows.specs.Stretches.{place_after}
use Rattle.form_rows.proofs.Moved.{moves_behind, stays_before}
use Rattle.form_rows.proofs.passages.place_after.Goals as goal

pub returns-in-Ins : goal.returns-in-Ins
returns-in-Ins c =
    subst (λ (f : Form). c.saturating_add.result ≡ place_after c.args.place f) (sym c.in-Ins.is)
    (c.saturating_add.ensures ∙ moves_behind c.args.place c.extent.result c.in-Ins.ins (omega arith) c.extent.ensures)

pub returns-in_default : goal.returns-in_default
returns-in_default c =
    subst (λ (f : Form). c.args.place ≡ place_after c.args.place f) (sym c.in-Ins.is)
    (stays_before c.args.place c.in-Ins.ins (omega arith) (omega arith))
