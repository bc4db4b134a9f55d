use Rattle.std.proofs.Common.{ap, sym, subst, ◌∙◌}
use Rattle.op_name.proofs.CallerLemmas.{name_same}
use Rattle.context_diff.specs.Operations.{OpData}
use Rattle.context_diff.specs.Ops.{data_of}
use Rattle.touched_cells.specs.Code.Seeking.{IsOnlyOf}
use Rattle.touched_cells.proofs.only.is_only_of.Goals as goal

pub returns-then-len-eq1 : goal.returns-then-len-eq1
returns-then-len-eq1 c = λ e.
    subst (λ (o : OpData). IsOnlyOf o c.args.cell.now) (sym (ap data_of c.in-Insert.is))
    (sym c.len.ensures ∙ c.if-len-eq1.true, sym c.id.ensures.name ∙ name_same _ _ (sym c.eq.ensures ∙ e))

pub returns-in-Delete : goal.returns-in-Delete
returns-in-Delete c = λ e.
    subst (λ (o : OpData). IsOnlyOf o c.args.cell.now) (sym (ap data_of c.in-Delete.is)) (c.is_deleted_by.ensures.0 e)
