use Rattle.std.proofs.Common.{◌≡◌, ◌<◌, true, List, sym, subst, map, length, arith, IfSome}
use Rattle.op_name.specs.declared.member.Member.{Member}
use Rattle.context_vector.specs.Contexts.{has}
use Rattle.context_diff.specs.Operations.{OpData}
use Rattle.causal_gate.specs.Names.{op_in}
use Rattle.causal_gate.specs.Waiting.{context_at}
use Rattle.causal_gate.proofs.HintLists.{hints_length, hints_put}
use Rattle.causal_gate.proofs.pool.Pool.renew_at.Goals as goal

pub index_mut-requires : goal.index_mut-requires
index_mut-requires c =
    let same = hints_length (map op_in c.self.inside.ops.items) c.self.inside.hints.items c.self.invariant.1 in
    let waits : c.args.i < length (map op_in c.self.inside.ops.items) =
    subst (λ os. c.args.i < length os) (sym c.self.view_is) c.requires in
    omega (arith, c.self.inside.hints.ok.0, same, waits)

pub invariant_of-self : goal.invariant_of-self
invariant_of-self c =
    let h = c.fresh_hint-hint.result in
    let there =
    subst (λ (os : List OpData). IfSome h (λ (m : Member). has (context_at os c.args.i) m ≡ true)) (sym c.self.view_is)
    c.fresh_hint-hint.ensures in (
      c.self.invariant.0,
      hints_put (map op_in c.self.inside.ops.items) c.self.inside.hints.items c.args.i h c.self.invariant.1 there,
      c.self.invariant.2,
      c.self.invariant.3,
      c.self.invariant.4,
      c.self.invariant.5,
    )
