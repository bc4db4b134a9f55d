use Rattle.std.proofs.Common.{ℕ, ◌+◌, List, [], ◌∷◌, drop, sym, subst, drop_of_length-le}
use Rattle.std.specs.Global.{Vec}
use Rattle.wire_codec.specs.Runs.{RunData, in_front, runs_of}
use Rattle.wire_codec.proofs.RunWriting.{RunsPut, one_more, all_put, grows, is_over, last_run}
use Rattle.wire_codec.proofs.run_writing.put_from.Goals as goal
use Rattle.wire_codec.proofs.run_writing.put_from.Goals.{in-Some, in-None}

pub loop-entry-preserved : goal.loop-entry-preserved
loop-entry-preserved c =
    let k = c.args.listing in
    let es = c.args.entries.now in
    let i = c.loop-entry.entry-index in
    let next : RunData = c.single-next.result in
    let old : Vec ℕ = c.args.out.now in
    let all = in_front k c.args.first (runs_of k es) in
    let so_far : RunsPut k old all (in_front k c.loop-entry.run (runs_of k (drop i es))) c.loop-entry.out = c.loop-entry.invariant in
    let later = runs_of k (drop (i + 1) es) in
    elim c.match-longer.branch [
      | in-Some w ↦
          let grown : RunsPut k old all (in_front k w.in-Some.run' later) c.loop-entry.out =
          subst (λ (rs : List RunData). RunsPut k old all rs c.loop-entry.out)
          (grows k c.loop-entry.run es i c.entry-item.result c.loop-entry-test.true c.entry-item.is next c.single-next.ensures
          c.longer.result c.longer.ensures w.in-Some.run' w.in-Some.is) so_far in
          subst (λ (v : Vec ℕ). RunsPut k old all (in_front k c.match-longer.run later) v) (sym w.out-is)
          (subst (λ (r : RunData). RunsPut k old all (in_front k r later) c.loop-entry.out) (sym w.run-is) grown)
      | in-None w ↦
          let over : RunsPut k old all (c.loop-entry.run ∷ in_front k next later) c.loop-entry.out =
          subst (λ (rs : List RunData). RunsPut k old all rs c.loop-entry.out)
          (is_over k c.loop-entry.run es i c.entry-item.result c.loop-entry-test.true c.entry-item.is next c.single-next.ensures
          c.longer.result c.longer.ensures w.in-None.is) so_far in
          let put : RunsPut k old all (in_front k next later) w.put_run.new.out =
          one_more k old all c.loop-entry.run (in_front k next later) c.loop-entry.out w.put_run.new.out over w.put_run.ensures in
          subst (λ (v : Vec ℕ). RunsPut k old all (in_front k c.match-longer.run later) v) (sym w.out-is)
          (subst (λ (r : RunData). RunsPut k old all (in_front k r later) w.put_run.new.out) (sym w.run-is) put)
    ]

pub returns : goal.returns
returns c =
    let k = c.args.listing in
    let es = c.args.entries.now in
    let i = c.loop-entry.entry-index in
    let old : Vec ℕ = c.args.out.now in
    let all = in_front k c.args.first (runs_of k es) in
    let last : RunsPut k old all (c.loop-entry.run ∷ []) c.loop-entry.out =
    subst (λ (rs : List RunData). RunsPut k old all rs c.loop-entry.out)
    (last_run k c.loop-entry.run es i (drop_of_length-le es {i = i} c.loop-entry-test.false)) c.loop-entry.invariant in
    all_put k old all c.put_run-2.new.out
    (one_more k old all c.loop-entry.run [] c.loop-entry.out c.put_run-2.new.out last c.put_run-2.ensures)
