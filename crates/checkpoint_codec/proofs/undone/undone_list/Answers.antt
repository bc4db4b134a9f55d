use Rattle.std.proofs.Common.{◌≡◌, ℕ, ◌+◌, List, [], ◌∷◌, ◌++◌, Some, sym, ap, subst, ◌∙◌, arith}
use Rattle.std.proofs.lemmas.Result.{err_from_is_err_and}
use Rattle.op_name.specs.NameData.{NameData}
use Rattle.checkpoint_codec.specs.Reading.{undone_at, no_name, last_after}
use Rattle.checkpoint_codec.specs.Code.Reads.{fault_of}
use Rattle.checkpoint_codec.proofs.Loops.{IsUnderWay, goes_on, ends, is_done}
use Rattle.checkpoint_codec.proofs.undone.undone_list.Goals as goal

pub returns-in_err-name : goal.returns-in_err-name
returns-in_err-name c =
    let p = err_from_is_err_and c.from_residual.result c.from_residual.ensures.1 in
    rw (p.1, p.2) (ends (undone_at c.args.known.now.set) last_after c.args.len no_name c.args.left.now c.loop.counter c.loop.list.items
    c.loop.last c.loop.left (fault_of c.in_err-name.field-0.0) c.loop-test.true (sym c.in_err-name.ensures.read) c.loop.invariant.0)

pub loop-preserved : goal.loop-preserved
loop-preserved c =
    let step = undone_at c.args.known.now.set in
    let before = c.loop.list.items in
    let name = c.in_ok-name.name in
    let e : NameData × ℕ = (name, c.in_ok-name.generation) in
    let left = c.undone.new.left in
    let items : c.push.new.self.items ≡ before ++ e ∷ [] =
    c.in_ok-push.ensures.items ∙ ap (λ (x : NameData × ℕ). before ++ x ∷ []) c.new.ensures in
    let way = goes_on step last_after c.args.len no_name c.args.left.now c.loop.counter before c.loop.last c.loop.left left e
    c.loop-test.true (sym c.in_ok-name.ensures.read) c.loop.invariant.0 in
    let few = c.in_ok-name.ensures.few in
    let same = c.from.ensures in (
      subst
          (λ (es : List (NameData × ℕ)). IsUnderWay step last_after c.args.len no_name c.args.left.now (c.loop.counter + 1) es
          (record { name = Some name; sum = c.loop.last.sum + c.from.result }) left)
          (sym items)
          (subst
          (λ (g : ℕ). IsUnderWay step last_after c.args.len no_name c.args.left.now (c.loop.counter + 1) (before ++ e ∷ [])
          (record { name = Some name; sum = c.loop.last.sum + g }) left)
          (sym same) way),
      omega (arith, few, same),
    )

pub returns : goal.returns
returns c =
    is_done (undone_at c.args.known.now.set) last_after c.args.len no_name c.args.left.now c.loop.counter c.loop.list.items c.loop.last
    c.loop.left c.loop-test.false c.loop.invariant.0
