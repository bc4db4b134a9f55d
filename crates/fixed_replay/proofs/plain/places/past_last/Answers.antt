use Rattle.std.proofs.Common.{◌+◌, drop, ap, sym, ◌∙◌, arith}
use Rattle.context_diff.specs.Replays.{last_of}
use Rattle.fixed_replay.specs.Code.PlainCells.{insertion_of}
use Rattle.fixed_replay.proofs.Searches.{last_from, last_start, last_at, last_past, last_end}
use Rattle.fixed_replay.proofs.plain.places.past_last.Goals as goal
use Rattle.fixed_replay.proofs.plain.places.past_last.Goals.{then-is_last, else-is_last}

pub loop-i-init : goal.loop-i-init
loop-i-init c = record { place = last_start (last_of (insertion_of c.args.inserted.now)) c.args.cells.now; within = omega arith }

pub loop-i-preserved : goal.loop-i-preserved
loop-i-preserved c =
    let p = last_of (insertion_of c.args.inserted.now) in
    let cells = c.args.cells.now in
    let i = c.loop-i.i in
    let x = c.index-cells-i.result in
    elim c.if-is_last.branch [
      | then-is_last w ↦ record {
        place = c.loop-i.invariant.place
            ∙ (last_at p c.loop-i.past cells i x c.loop-i-test.true c.index-cells-i.is (sym c.is_last.ensures ∙ w.if-is_last.true)
            ∙ ap (λ n. last_from p n (i + 1) (drop (i + 1) cells)) (sym w.past-is));
        within = let is = w.past-is in omega arith;
      }
      | else-is_last w ↦ record {
        place = c.loop-i.invariant.place
            ∙ (last_past p c.loop-i.past cells i x c.loop-i-test.true c.index-cells-i.is (sym c.is_last.ensures ∙ w.if-is_last.false)
            ∙ ap (λ n. last_from p n (i + 1) (drop (i + 1) cells)) (sym w.past-is));
        within = let is = w.past-is in let was = c.loop-i.invariant.within in omega arith;
      }
    ]

pub returns-clause-place : goal.returns-clause-place
returns-clause-place c =
    sym (c.loop-i.invariant.place ∙ last_end (last_of (insertion_of c.args.inserted.now)) c.loop-i.past c.args.cells.now c.loop-i.i
    c.loop-i-test.false)

pub returns-clause-within : goal.returns-clause-within
returns-clause-within c = let was = c.loop-i.invariant.within in let end = c.loop-i.auto.i-end in omega arith
