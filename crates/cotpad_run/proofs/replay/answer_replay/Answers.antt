use Rattle.std.proofs.Common.{◌≡◌, ◌∙◌, ◌+◌, ◌-◌, ◌≤◌, Ok, ap, arith}
use Rattle.outside_io.specs.declared.reading.TheConstants.{MAX_INPUT}
use Rattle.cotpad_run.proofs.Scripts.{reading_first, with_out, some_awaited}
use Rattle.cotpad_run.proofs.replay.answer_replay.Goals as goal

pub loop-status-init : goal.loop-status-init
loop-status-init g c = record {
  reading =
      reading_first _ _ _ _ c.new-reader.result c.new-out.result.items c.reports_are_there.ensures c.new-reader.ensures
      c.new-out.ensures.items;
  empty = c.new-out.ensures.items;
}

pub loop-status-preserved : goal.loop-status-preserved
loop-status-preserved g c =
    let waiting = c.in-Ok.ensures.done _ _ _ _ c.loop-status.invariant.reading in
    let room : c.loop-status.fed + (MAX_INPUT + 1 - c.loop-status.fed) ≤ MAX_INPUT + 1 = omega (arith, waiting.few) in
    record {
      reading =
          with_out _ _ c.read_on.new.reader _ c.do_lines.new.out.items (c.in-Ok-read_on.ensures.fed _ _ _ _ waiting room)
          c.in-Ok.ensures.written;
      empty = c.in-Ok.ensures.written;
    }

pub returns-in-Err : goal.returns-in-Err
returns-in-Err g c = record { answer = c.in-Err.ensures.stopped _ _ _ _ c.loop-status.invariant.reading }

pub read_on-requires-clause-some : goal.read_on-requires-clause-some
read_on-requires-clause-some g c =
    let waiting = c.in-Ok.ensures.done _ _ _ _ c.loop-status.invariant.reading in
    omega (arith, waiting.few)

pub end-requires-clause-awaits : goal.end-requires-clause-awaits
end-requires-clause-awaits g c =
    let is : c.read_on.result ≡ Ok 0 = c.in-Ok-eq0.is ∙ ap (λ n. Ok n) c.in-Ok-eq0.field-0-test in
    let waiting = c.in-Ok.ensures.done _ _ _ _ c.loop-status.invariant.reading in
    some_awaited _ _ c.read_on.new.reader c.loop-status.fed (c.read_on.ensures.end is _ _ _ _ waiting)

pub returns-in-Ok-eq0 : goal.returns-in-Ok-eq0
returns-in-Ok-eq0 g c =
    let is : c.read_on.result ≡ Ok 0 = c.in-Ok-eq0.is ∙ ap (λ n. Ok n) c.in-Ok-eq0.field-0-test in
    let waiting = c.in-Ok.ensures.done _ _ _ _ c.loop-status.invariant.reading in
    record { answer = c.end.ensures _ _ _ _ (c.read_on.ensures.end is _ _ _ _ waiting) (c.read_on.ensures.ended is) }

pub returns-in-Err-read_on : goal.returns-in-Err-read_on
returns-in-Err-read_on g c =
    let waiting = c.in-Ok.ensures.done _ _ _ _ c.loop-status.invariant.reading in
    let room : c.loop-status.fed + (MAX_INPUT + 1 - c.loop-status.fed) ≤ MAX_INPUT + 1 = omega (arith, waiting.few) in
    record { answer = c.in-Err-read_on.ensures.stopped _ _ _ _ waiting room }
