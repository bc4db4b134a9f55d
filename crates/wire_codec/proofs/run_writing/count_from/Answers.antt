use Rattle.std.proofs.Common.{◌≡◌, ℕ, ◌+◌, ◌≤◌, length, suc, drop, ap, arith, List, drop_of_length-le}
use Rattle.op_name.specs.NameData.{NameData}
use Rattle.wire_codec.specs.declared.listing.Listing.{Listing}
use Rattle.wire_codec.specs.Runs.{RunData, in_front, runs_of}
use Rattle.wire_codec.proofs.RunWriting.{grows, is_over, front_some, front_most, last_run}
use Rattle.wire_codec.proofs.run_writing.count_from.Goals as goal
use Rattle.wire_codec.proofs.run_writing.count_from.Goals.{in-Some, in-None}

-- how many runs there are from the next name on
left : Listing → RunData → List (NameData × ℕ) → ℕ → ℕ
left k r es i = length (in_front k r (runs_of k (drop i es)))

pub overflow_add-count : goal.overflow_add-count
unfolding left
overflow_add-count c =
    let k = c.args.listing in
    let es = c.args.entries.now in
    let i = c.loop-entry.entry-index in
    let next = c.single-next.result in
    let so_far : c.loop-entry.count + left k c.loop-entry.run es i ≡ 1 + length (in_front k c.args.first (runs_of k es)) =
    c.loop-entry.invariant in
    let step : left k c.loop-entry.run es i ≡ suc (left k next es (i + 1)) =
    ap length (is_over k c.loop-entry.run es i c.entry-item.result c.loop-entry-test.true c.entry-item.is next c.single-next.ensures
    c.longer.result c.longer.ensures c.in-None.is) in
    let some : 1 ≤ left k next es (i + 1) = front_some k next (runs_of k (drop (i + 1) es)) in
    let most = front_most k c.args.first es in
    let few = c.requires in
    omega (arith, so_far, step, some, most, few)

pub loop-entry-preserved : goal.loop-entry-preserved
unfolding left
loop-entry-preserved c =
    let k = c.args.listing in
    let es = c.args.entries.now in
    let i = c.loop-entry.entry-index in
    let next = c.single-next.result in
    let so_far : c.loop-entry.count + left k c.loop-entry.run es i ≡ 1 + length (in_front k c.args.first (runs_of k es)) =
    c.loop-entry.invariant in
    elim c.match-longer.branch [
      | in-Some w ↦
          let step : left k c.loop-entry.run es i ≡ left k w.in-Some.run' es (i + 1) =
          ap length (grows k c.loop-entry.run es i c.entry-item.result c.loop-entry-test.true c.entry-item.is next c.single-next.ensures
          c.longer.result c.longer.ensures w.in-Some.run' w.in-Some.is) in
          let same : left k c.match-longer.run es (i + 1) ≡ left k w.in-Some.run' es (i + 1) =
          ap (λ (r : RunData). left k r es (i + 1)) w.run-is in
          let count = w.count-is in
          omega (arith, so_far, step, same, count)
      | in-None w ↦
          let step : left k c.loop-entry.run es i ≡ suc (left k next es (i + 1)) =
          ap length (is_over k c.loop-entry.run es i c.entry-item.result c.loop-entry-test.true c.entry-item.is next
          c.single-next.ensures c.longer.result c.longer.ensures w.in-None.is) in
          let same : left k c.match-longer.run es (i + 1) ≡ left k next es (i + 1) =
          ap (λ (r : RunData). left k r es (i + 1)) w.run-is in
          let count = w.count-is in
          omega (arith, so_far, step, same, count)
    ]

pub returns : goal.returns
unfolding left
returns c =
    let k = c.args.listing in
    let es = c.args.entries.now in
    let i = c.loop-entry.entry-index in
    let so_far : c.loop-entry.count + left k c.loop-entry.run es i ≡ 1 + length (in_front k c.args.first (runs_of k es)) =
    c.loop-entry.invariant in
    let one : left k c.loop-entry.run es i ≡ 1 =
    ap length (last_run k c.loop-entry.run es i (drop_of_length-le es {i = i} c.loop-entry-test.false)) in
    omega (arith, so_far, one)
