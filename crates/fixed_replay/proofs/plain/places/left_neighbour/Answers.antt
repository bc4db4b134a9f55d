use Rattle.std.proofs.Common.{◌≡◌, ◌+◌, ◌-◌, ◌<◌, drop, ap, sym, ◌∙◌, arith}
use Rattle.context_diff.specs.Code.GapEnds.{up_to_nth}
use Rattle.fixed_replay.specs.Code.PlainCells.{sees}
use Rattle.fixed_replay.proofs.Searches.{nth_seen, nth_past}
use Rattle.fixed_replay.proofs.plain.places.left_neighbour.Goals as goal
use Rattle.fixed_replay.proofs.plain.places.left_neighbour.Goals.{then-sees, else-sees}

pub loop-i-preserved : goal.loop-i-preserved
loop-i-preserved c =
    let p = sees c.args.inserted.now in
    let cells = c.args.cells.now in
    let i = c.loop-i.i in
    let more = c.loop-i.more in
    let x = c.index-cells-i.result in
    let some : 0 < more = let other = c.if-more-eq0.false in omega arith in
    elim c.if-sees.branch [
      | then-sees w ↦
          let step = nth_seen p more cells i x c.loop-i-test.true c.index-cells-i.is some (sym c.sees.ensures ∙ w.if-sees.true) in
          let same : up_to_nth p c.if-sees.more (drop (i + 1) cells) ≡ up_to_nth p (more - 1) (drop (i + 1) cells) =
          ap (λ n. up_to_nth p n (drop (i + 1) cells)) w.more-is in
          omega (arith, c.loop-i.invariant, step, same)
      | else-sees w ↦
          let step = nth_past p more cells i x c.loop-i-test.true c.index-cells-i.is some (sym c.sees.ensures ∙ w.if-sees.false) in
          let same : up_to_nth p c.if-sees.more (drop (i + 1) cells) ≡ up_to_nth p more (drop (i + 1) cells) =
          ap (λ n. up_to_nth p n (drop (i + 1) cells)) w.more-is in
          omega (arith, c.loop-i.invariant, step, same)
    ]
