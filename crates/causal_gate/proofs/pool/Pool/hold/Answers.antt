use Rattle.std.proofs.Common.{◌≡◌, ◌∙◌, ℕ, ◌++◌, ◌∷◌, [], List, ap, sym, subst, subst₂, arith, length, map}
use Rattle.std.specs.Prelude.{Contains, Option, None}
use Rattle.std.proofs.lemmas.Bool.{false≢true}
use Rattle.std.proofs.lemmas.List.{length-map, map-append}
use Rattle.op_name.specs.declared.member.Member.{Member}
use Rattle.op_name.specs.NameData.{NameData}
use Rattle.context_diff.specs.Operations.{OpData}
use Rattle.context_diff.specs.Ops.{data_of}
use Rattle.causal_gate.specs.Waiting.{IsPool, NamesAgree}
use Rattle.causal_gate.specs.Hints.{AreHints, AreBefore}
use Rattle.causal_gate.specs.Names.{op_in, AreNamed}
use Rattle.causal_gate.specs.Undos.{AreUndos}
use Rattle.causal_gate.proofs.Apart.{pool_push}
use Rattle.causal_gate.proofs.HintLists.{hints_push}
use Rattle.causal_gate.proofs.Turns.{befores_push}
use Rattle.causal_gate.proofs.pool.Pool.hold.Goals as goal

pub invariant_of-self-2 : goal.invariant_of-self-2
invariant_of-self-2 c =
    let o : OpData = data_of c.args.op.now in
    let boxes = c.self.inside.ops.items in
    let os : List OpData = map op_in c.self.inside.ops.items in
    let boxed = c.in_ok-boxed.boxed in
    let same : op_in c.in_ok-boxed.boxed ≡ data_of c.args.op.now = c.in_ok-boxed.ensures in
    let put : map op_in c.push_reserved.new.self.items ≡ map op_in c.self.inside.ops.items ++ data_of c.args.op.now ∷ [] =
    ap (λ bs. map op_in bs) (c.push_reserved.ensures.items ∙ ap (λ bs. bs ++ c.in_ok-boxed.boxed ∷ []) c.make_room.ensures.ops.0)
    ∙ map-append op_in boxes (boxed ∷ [])
    ∙ ap (λ (d : OpData). map op_in c.self.inside.ops.items ++ d ∷ []) same in
    let new : ¬ Contains os o =
    λ there. false≢true (sym c.if-has.false
    ∙ c.has.ensures.1 (subst (λ (xs : List OpData). Contains xs (data_of c.args.op.now)) c.self.view_is there)) in
    let agree : NamesAgree os o = subst (λ (xs : List OpData). NamesAgree xs (data_of c.args.op.now)) (sym c.self.view_is) c.requires in
    let seen : length (map op_in c.self.inside.ops.items) ≡ length c.self.inside.ops.items = length-map boxes op_in in
    let count = c.len.ensures in
    let room = c.if-len-ge-OPS.false in
    let hints : c.push_reserved-3.new.self.items ≡ c.self.inside.hints.items ++ None ∷ [] =
    c.push_reserved-3.ensures.items ∙ ap (λ (hs : List (Option Member)). hs ++ None ∷ []) c.make_room.ensures.hints in
    let befores : c.push_reserved-4.new.self.items ≡ c.self.inside.befores.items ++ c.before_in.result ∷ [] =
    c.push_reserved-4.ensures.items ∙ ap (λ (ns : List (Option NameData)). ns ++ c.before_in.result ∷ []) c.make_room.ensures.befores in
    let named : AreNamed c.make_room.new.names.entries os =
    subst (λ (es : List (NameData × ℕ)). AreNamed es (map op_in c.self.inside.ops.items)) (sym c.make_room.ensures.names)
    c.self.invariant.3 in (
      subst IsPool (sym put) (pool_push os o c.self.invariant.0 new agree (omega arith)),
      subst₂ (λ (xs : List OpData) (hs : List (Option Member)). AreHints xs hs) (sym put) (sym hints)
          (hints_push os c.self.inside.hints.items o None c.self.invariant.1 tt),
      subst₂ (λ (xs : List OpData) (ns : List (Option NameData)). AreBefore xs ns) (sym put) (sym befores)
          (befores_push os c.self.inside.befores.items o c.before_in.result c.self.invariant.2 c.before_in.ensures),
      subst (λ (xs : List OpData). AreNamed c.note.new.names.entries xs) (sym put) (c.note.ensures os named),
      omega (
        arith,
        c.push_reserved-2.ensures.len,
        c.make_room.ensures.numbers.1,
        c.push_reserved.ensures.len,
        c.make_room.ensures.ops.1,
        c.self.invariant.4,
      ),
      subst (λ (xs : List OpData). AreUndos c.note_undo.new.undos.keys xs) (sym put)
          ((c.in_ok-note_undo.ensures).noted os c.self.invariant.5),
    )
