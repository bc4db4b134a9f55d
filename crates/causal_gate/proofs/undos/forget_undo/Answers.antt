use Rattle.std.proofs.Common.{refl, sym, ◌∙◌}
use Rattle.context_diff.specs.Ops.{data_of}
use Rattle.causal_gate.proofs.UndoIndex.{undos_remove, undos_remove_original}
use Rattle.causal_gate.proofs.undos.forget_undo.Goals as goal

pub returns-then-is_original : goal.returns-then-is_original
returns-then-is_original c =
    λ os i apart at undos. undos_remove_original _ os i (data_of c.args.op.now) (sym c.is_original.ensures ∙ c.if-is_original.true) at undos

pub returns : goal.returns
returns c =
    λ os i apart at undos. undos_remove _ _ os i c.args.op.now (data_of c.args.op.now) refl c.swap_remove.ensures.updates.0 apart at undos
