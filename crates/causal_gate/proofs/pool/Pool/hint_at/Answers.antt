use Rattle.std.proofs.Common.{◌≡◌, true, List, ap, sym, subst, ◌∙◌, map, IfSome}
use Rattle.std.specs.Prelude.{Option, Some, slice_get}
use Rattle.op_name.specs.declared.member.Member.{Member}
use Rattle.context_vector.specs.Contexts.{has}
use Rattle.context_diff.specs.Operations.{OpData}
use Rattle.causal_gate.specs.Names.{op_in}
use Rattle.causal_gate.specs.Waiting.{context_at}
use Rattle.causal_gate.proofs.HintLists.{hint_some}
use Rattle.causal_gate.proofs.pool.Pool.hint_at.Goals as goal

pub returns-in-Some : goal.returns-in-Some
returns-in-Some c =
    let hs = c.self.inside.hints.items in
    let at : slice_get hs c.args.i ≡ Some c.in-Some.hint =
    ap (λ (ks : List (Option Member)). slice_get ks c.args.i) (sym c.as_slice.ensures.value) ∙ (sym c.hint_in.ensures ∙ c.in-Some.is) in
    subst (λ (os : List OpData). IfSome c.in-Some.hint (λ m. has (context_at os c.args.i) m ≡ true)) c.self.view_is
    (hint_some (map op_in c.self.inside.ops.items) hs c.args.i c.in-Some.hint c.self.invariant.1 at)
