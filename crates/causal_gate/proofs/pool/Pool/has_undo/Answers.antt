use Rattle.std.proofs.Common.{List, subst}
use Rattle.context_diff.specs.Operations.{OpData}
use Rattle.causal_gate.specs.Undos.{AreUndos}
use Rattle.causal_gate.proofs.UndoIndex.{undo_waits, undo_found}
use Rattle.causal_gate.proofs.pool.Pool.has_undo.Goals as goal

pub returns : goal.returns
returns c =
    let ks = c.self.inside.undos.keys in
    let os : List OpData = c.args.self.now in
    let undos : AreUndos ks os = subst (λ (xs : List OpData). AreUndos c.self.inside.undos.keys xs) c.self.view_is c.self.invariant.5 in (
      λ waits. undo_waits c.args.op.now ks os c.contains.result undos c.requires c.contains.ensures waits,
      λ there. undo_found c.args.op.now ks os c.contains.result undos c.requires c.contains.ensures there,
    )
