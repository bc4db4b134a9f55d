use Rattle.context_diff.specs.Ops.{data_of}
use Rattle.causal_gate.proofs.UndoIndex.{undos_push}
use Rattle.causal_gate.proofs.undos.put.Goals as goal

pub returns-clause-noted : goal.returns-clause-noted
returns-clause-noted c =
    λ os undos. undos_push _ _ os c.in_ok-copy.copy (data_of c.args.op.now) c.in_ok-copy.ensures (c.in_ok-insert.ensures).updates.0 undos
