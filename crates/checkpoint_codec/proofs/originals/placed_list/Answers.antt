use Rattle.std.proofs.Common.{◌≡◌, ◌+◌, List, [], ◌∷◌, ◌++◌, Vec, Global, sym, ap, subst, ◌∙◌}
use Rattle.std.proofs.lemmas.Result.{err_from_is_err_and}
use Rattle.context_vector.specs.Contexts.{ContextData}
use Rattle.flat_history.specs.Checkpoints as flat
use Rattle.flat_history.specs.Checkpoints.{with_placed, with_all_placed}
use Rattle.checkpoint_codec.specs.declared.placed.Placed.{Placed}
use Rattle.checkpoint_codec.specs.Reading.{placed_at}
use Rattle.checkpoint_codec.proofs.Loops.{IsUnderWay, goes_on, is_done}
use Rattle.checkpoint_codec.proofs.Stops.{stops_list}
use Rattle.checkpoint_codec.proofs.OriginalFields.{with_all_placed-push}
use Rattle.checkpoint_codec.proofs.originals.placed_list.Goals as goal

pub returns-in_err-next-clause-read : goal.returns-in_err-next-clause-read
returns-in_err-next-clause-read c =
    let p = err_from_is_err_and c.from_residual.result c.from_residual.ensures.1 in
    rw (p.1, p.2) (stops_list placed_at with_placed c.args.len c.args.known.now.set c.args.left.now c.loop.counter c.loop.list.items
    c.loop.known.set c.loop.left c.placed.new.left c.placed.new.left (λ (e : flat.Placed). e) (λ (v : Vec Placed Global). v.items)
    c.in_err-next.field-0.0 c.loop-test.true c.in_err-next.ensures.read c.loop.invariant.0)

pub loop-preserved : goal.loop-preserved
loop-preserved c =
    let start = c.args.known.now.set in
    let before = c.loop.list.items in
    let next = c.in_ok-next.next in
    let left = c.placed.new.left in
    let items : c.push.new.self.items ≡ before ++ next ∷ [] = c.in_ok-push.ensures.items in
    let known : c.placed.new.known.set ≡ with_placed c.loop.known.set next = c.in_ok-next.ensures.known in
    let way = goes_on placed_at with_placed c.args.len start c.args.left.now c.loop.counter before c.loop.known.set c.loop.left left next
    c.loop-test.true c.in_ok-next.ensures.read c.loop.invariant.0 in (
      subst
          (λ (es : List flat.Placed). IsUnderWay placed_at with_placed c.args.len start c.args.left.now (c.loop.counter + 1) es
          c.placed.new.known.set left)
          (sym items)
          (subst
          (λ (s : ContextData). IsUnderWay placed_at with_placed c.args.len start c.args.left.now (c.loop.counter + 1)
          (before ++ next ∷ []) s left)
          (sym known) way),
      known ∙ ap (λ (s : ContextData). with_placed s next) c.loop.invariant.1 ∙ sym (with_all_placed-push start before next)
          ∙ ap (with_all_placed start) (sym items),
    )

pub returns-clause-read : goal.returns-clause-read
returns-clause-read c =
    is_done placed_at with_placed c.args.len c.args.known.now.set c.args.left.now c.loop.counter c.loop.list.items c.loop.known.set
    c.loop.left c.loop-test.false c.loop.invariant.0
