use Rattle.std.proofs.Common.{sym, ◌∙◌}
use Rattle.context_diff.specs.Ops.{data_of}
use Rattle.causal_gate.proofs.UndoIndex.{undos_push_original}
use Rattle.causal_gate.proofs.undos.note_undo.Goals as goal

pub returns-then-is_original-clause-noted : goal.returns-then-is_original-clause-noted
returns-then-is_original-clause-noted c =
    λ os undos. undos_push_original _ os (data_of c.args.op.now) (sym c.is_original.ensures ∙ c.if-is_original.true) undos
