use Rattle.std.proofs.Common.{◌∷◌, map, ap, sym, ◌∙◌}
use Rattle.std.proofs.lemmas.Result.{on_ok_weaker}
use Rattle.context_diff.specs.Operations.{inserting}
use Rattle.context_diff.specs.Ops.{data_of}
use Rattle.context_diff.specs.Replays.{fixed_order}
use Rattle.fixed_replay.specs.Code.PlainCells.{insertion_of}
use Rattle.fixed_replay.proofs.Stepwise.{order_with}
use Rattle.fixed_replay.proofs.plain.order.put_op.Goals as goal

pub returns-in_ok-try_clone-in-Insert : goal.returns-in_ok-try_clone-in-Insert
returns-in_ok-try_clone-in-Insert c =
    let name = c.in-Insert.name in
    let place = c.in-Insert.place in
    let text = c.in-Insert.text in
    let copy = c.in_ok-try_clone-in-Insert in
    on_ok_weaker c.put.result (λ puts h was.
    order_with h name place c.len.result text copy.field-0.set (map insertion_of c.args.order.now.items)
    (map insertion_of c.put.new.order.items) c.len.ensures was puts
    ∙ (ap (λ known. fixed_order (inserting name place text known ∷ h)) copy.ensures
    ∙ ap (λ op. fixed_order (data_of op ∷ h)) (sym c.in-Insert.is))) c.put.ensures
