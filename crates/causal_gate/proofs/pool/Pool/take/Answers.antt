use Rattle.std.proofs.Common.{◌≡◌, ◌<◌, ◌∙◌, List, ap, sym, subst, subst₂, length, map, remove, arith}
use Rattle.std.specs.Prelude.{Option, slice_get}
use Rattle.indexmap.proofs.SetLemmas.{map-remove}
use Rattle.op_name.specs.declared.member.Member.{Member}
use Rattle.op_name.specs.NameData.{NameData}
use Rattle.context_diff.specs.Operations.{OpData}
use Rattle.causal_gate.specs.Waiting.{IsPool}
use Rattle.causal_gate.specs.Hints.{AreHints, AreBefore}
use Rattle.causal_gate.specs.Names.{op_in, AreNamed}
use Rattle.causal_gate.specs.Undos.{AreUndos}
use Rattle.causal_gate.proofs.Apart.{pool_remove}
use Rattle.causal_gate.proofs.HintLists.{hints_length, hints_remove}
use Rattle.causal_gate.proofs.Turns.{befores_length, befores_remove}
use Rattle.causal_gate.proofs.Named.{at_box}
use Rattle.causal_gate.proofs.pool.Pool.take.Goals as goal

pub remove-requires : goal.remove-requires
remove-requires c =
    let same = hints_length (map op_in c.self.inside.ops.items) c.self.inside.hints.items c.self.invariant.1 in
    let waits : c.args.i < length (map op_in c.self.inside.ops.items) =
    subst (λ os. c.args.i < length os) (sym c.self.view_is) c.requires in
    omega (arith, same, waits)

pub remove-requires-2 : goal.remove-requires-2
remove-requires-2 c =
    let same = befores_length (map op_in c.self.inside.ops.items) c.self.inside.befores.items c.self.invariant.2 in
    let waits : c.args.i < length (map op_in c.self.inside.ops.items) =
    subst (λ os. c.args.i < length os) (sym c.self.view_is) c.requires in
    omega (arith, same, waits)

pub invariant_of-self : goal.invariant_of-self
invariant_of-self c =
    let i = c.args.i in
    let boxes = c.self.inside.ops.items in
    let waits : c.args.i < length (map op_in c.self.inside.ops.items) =
    subst (λ os. c.args.i < length os) (sym c.self.view_is) c.requires in
    let left : map op_in c.remove-boxed.new.self.items ≡ remove (map op_in boxes) i =
    ap (λ bs. map op_in bs) c.remove-boxed.ensures.items ∙ map-remove op_in boxes i in
    let at = at_box boxes i c.remove-boxed.result c.into_inner-taken.result waits c.remove-boxed.ensures.value c.into_inner-taken.ensures in (
      subst IsPool (sym left) (pool_remove (map op_in boxes) i c.self.invariant.0 waits),
      subst₂ (λ (os : List OpData) (hs : List (Option Member)). AreHints os hs) (sym left) (sym c.remove.ensures.items)
          (hints_remove (map op_in boxes) c.self.inside.hints.items i c.self.invariant.1),
      subst₂ (λ (os : List OpData) (ns : List (Option NameData)). AreBefore os ns) (sym left) (sym c.remove-2.ensures.items)
          (befores_remove (map op_in boxes) c.self.inside.befores.items i c.self.invariant.2),
      subst (λ (os : List OpData). AreNamed c.forget.new.names.entries os) (sym left)
          (c.forget.ensures (map op_in boxes) i c.self.invariant.0.apart at c.self.invariant.3),
      omega (arith, c.remove-3.ensures.len, c.remove-boxed.ensures.len, c.self.invariant.4),
      subst (λ (os : List OpData). AreUndos c.forget_undo.new.undos.keys os) (sym left)
          (c.forget_undo.ensures (map op_in boxes) i c.self.invariant.0.apart at c.self.invariant.5),
    )

pub returns-clause-taken : goal.returns-clause-taken
returns-clause-taken c =
    let waits : c.args.i < length (map op_in c.self.inside.ops.items) =
    subst (λ os. c.args.i < length os) (sym c.self.view_is) c.requires in
    ap (λ os. slice_get os c.args.i) (sym c.self.view_is)
    ∙ at_box c.self.inside.ops.items c.args.i c.remove-boxed.result c.into_inner-taken.result waits c.remove-boxed.ensures.value
    c.into_inner-taken.ensures

pub returns-clause-others : goal.returns-clause-others
returns-clause-others c =
    ap (λ bs. map op_in bs) c.remove-boxed.ensures.items ∙ map-remove op_in c.self.inside.ops.items c.args.i
    ∙ ap (λ os. remove os c.args.i) c.self.view_is
