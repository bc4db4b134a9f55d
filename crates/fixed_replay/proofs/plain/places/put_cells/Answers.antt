use Rattle.std.proofs.Common.{◌-◌, ◌<◌, ◌≤◌, ap, ◌∙◌, arith}
use Rattle.op_name.specs.NameData.{NameData}
use Rattle.fixed_replay.proofs.Stepwise.{put_one}
use Rattle.fixed_replay.proofs.plain.places.put_cells.Goals as goal

pub loop-offset-preserved : goal.loop-offset-preserved
loop-offset-preserved c =
    let o = c.args.inserted.now in
    let i = c.loop-offset.offset in
    let some : 0 < i = omega arith in
    let within : i ≤ o.len = omega arith in
    put_one o.name i o.len c.args.place c.args.cells.now.items c.loop-offset.cells.items c.put_at.new.cells.items c.new.result some within
    c.requires c.loop-offset.invariant (c.new.ensures ∙ ap (λ (n : NameData). (n, i - 1)) c.name.ensures) c.in_ok-put_at.ensures
