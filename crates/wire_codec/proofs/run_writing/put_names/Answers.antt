use Rattle.std.proofs.Common.{ℕ, ◌*◌, List, [], length, ap, sym, subst, ◌∙◌, arith}
use Rattle.wire_codec.specs.Runs.{RunData}
use Rattle.wire_codec.specs.Reading.{may_have}
use Rattle.wire_codec.specs.Judging.{run_len}
use Rattle.wire_codec.specs.Code.RunLists.{FitOut}
use Rattle.wire_codec.proofs.RunWriting.{empty_runs, first_runs, fewer_runs, runs_fit, names_put, puts_none, length-runs_width}
use Rattle.wire_codec.proofs.run_writing.put_names.Goals as goal

pub put_runs_len-requires-clause-few : goal.put_runs_len-requires-clause-few
put_runs_len-requires-clause-few c =
    ap (may_have c.args.listing) c.requires.runs ∙ fewer_runs c.args.listing c.args.entries.now c.requires.few

pub put_from-requires-clause-room : goal.put_from-requires-clause-room
put_from-requires-clause-room c =
    let k = c.args.listing in
    let es = c.args.entries.now in
    let runs =
    ap (λ (rs : List RunData). run_len k * length rs) (first_runs k es c.first-item.result c.single.result c.in-len1-up.len_at_least
    c.first-item.is c.single.ensures) in
    let count = ap (λ (n : ℕ). run_len k * n) c.requires.runs in
    let room = c.requires.room in
    let len = c.put_runs_len.ensures.len in
    let capacity = c.put_runs_len.ensures.capacity in
    let wide = length-runs_width k c.args.runs in
    omega (arith, runs, count, room, len, capacity, wide)

pub put_from-requires-clause-fit : goal.put_from-requires-clause-fit
put_from-requires-clause-fit c =
    let k = c.args.listing in
    let es = c.args.entries.now in
    subst (FitOut k) (sym (first_runs k es c.first-item.result c.single.result c.in-len1-up.len_at_least c.first-item.is c.single.ensures))
    (runs_fit k es c.requires.few c.requires.sites)

pub returns-in-empty : goal.returns-in-empty
returns-in-empty c =
    names_put c.args.listing c.args.entries.now [] c.args.out.now c.put_runs_len.new.out c.put_runs_len.new.out c.args.runs
    (sym (empty_runs c.args.listing c.args.entries.now c.in-empty.len_below)) c.requires.runs c.put_runs_len.ensures
    (puts_none c.put_runs_len.new.out)

pub returns-in-len1-up : goal.returns-in-len1-up
returns-in-len1-up c =
    let k = c.args.listing in
    let es = c.args.entries.now in
    names_put k es _ c.args.out.now c.put_runs_len.new.out c.put_from.new.out c.args.runs
    (first_runs k es c.first-item.result c.single.result c.in-len1-up.len_at_least c.first-item.is c.single.ensures) c.requires.runs
    c.put_runs_len.ensures c.put_from.ensures
