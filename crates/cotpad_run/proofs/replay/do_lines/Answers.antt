use Rattle.std.proofs.Common.{◌≡◌, ◌∙◌, Ok, ap, refl, true, arith}
use Rattle.session_replay.specs.declared.script.Next.TheVariants.{Done, Awaited, Refused}
use Rattle.cotpad_run.proofs.Scripts.{behind_none, behind_on, reading_on, waiting_or_not, stopped_or_not, handed_on, refused_there, memory_there, begins_done, begins_awaited, begins_refused}
use Rattle.cotpad_run.proofs.replay.do_lines.Goals as goal

pub loop-sink-init : goal.loop-sink-init
loop-sink-init g c = record {
  keeps = behind_none c.args.reader.now c.args.out.now.items c.requires.keeps c.requires.empty;
  reading = λ old left reads fed i. i;
}

pub loop-sink-preserved : goal.loop-sink-preserved
loop-sink-preserved g c =
    let is : c.advance.result ≡ Ok Done = c.in-Ok-Done.is ∙ ap (λ x. Ok x) c.in-Ok-Done.field-0-is in
    let on = c.advance.ensures.done is in
    let passed = c.in_ok-flush-in-Ok-Done.ensures.passed in
    record {
      keeps = behind_on c.loop-sink.reader c.advance.new.self _ _ c.loop-sink.out.items c.advance.new.out.items c.flush.new.out.items
          c.loop-sink.invariant.keeps on passed;
      reading = λ old left reads fed i.
          reading_on old left reads _ _ _ _ c.loop-sink.reader c.advance.new.self fed c.loop-sink.out.items c.advance.new.out.items
          c.flush.new.out.items
          (c.loop-sink.invariant.reading old left reads fed i) on passed (c.in_ok-flush-in-Ok-Done.ensures.cause.well (refl {a = true}));
    }

pub returns-in_err-flush-in-Ok-Done-clause-stopped :
    goal.returns-in_err-flush-in-Ok-Done-clause-stopped
returns-in_err-flush-in-Ok-Done-clause-stopped g c =
    let is : c.advance.result ≡ Ok Done = c.in-Ok-Done.is ∙ ap (λ x. Ok x) c.in-Ok-Done.field-0-is in
    handed_on c.flush.result c.from_residual.result c.in_err-flush-in-Ok-Done.field-0.0 _ c.in_err-flush-in-Ok-Done.was
    c.from_residual.ensures.1
    (stopped_or_not c.flush.result _ _ _ _ _ _ c.args.reader.now c.loop-sink.reader c.args.out.now.items c.loop-sink.out.items
    c.advance.new.out.items
    c.reports_are_there.ensures c.loop-sink.invariant.reading
    (begins_done c.loop-sink.reader c.advance.new.self c.loop-sink.out.items c.advance.new.out.items (c.advance.ensures.done is))
    c.flush.ensures.front c.flush.ensures.cause c.flush.ensures.status)

pub returns-in-Ok-Awaited-clause-done : goal.returns-in-Ok-Awaited-clause-done
returns-in-Ok-Awaited-clause-done g c =
    let is : c.advance.result ≡ Ok Awaited = c.in-Ok-Awaited.is ∙ ap (λ x. Ok x) c.in-Ok-Awaited.field-0-is in
    let flushed = c.flush-in-Ok-Awaited in
    waiting_or_not flushed.result _ _ _ _ _ _ c.args.reader.now c.loop-sink.reader c.advance.new.self c.args.out.now.items
    c.loop-sink.out.items c.advance.new.out.items
    c.loop-sink.invariant.reading (c.advance.ensures.awaited is) (flushed.ensures.written (omega arith)) flushed.ensures.cause

pub returns-in-Ok-Awaited-clause-stopped : goal.returns-in-Ok-Awaited-clause-stopped
returns-in-Ok-Awaited-clause-stopped g c =
    let is : c.advance.result ≡ Ok Awaited = c.in-Ok-Awaited.is ∙ ap (λ x. Ok x) c.in-Ok-Awaited.field-0-is in
    let flushed = c.flush-in-Ok-Awaited in
    stopped_or_not flushed.result _ _ _ _ _ _ c.args.reader.now c.loop-sink.reader c.args.out.now.items c.loop-sink.out.items
    c.advance.new.out.items
    c.reports_are_there.ensures c.loop-sink.invariant.reading
    (begins_awaited c.loop-sink.reader c.advance.new.self c.loop-sink.out.items c.advance.new.out.items (c.advance.ensures.awaited is))
    flushed.ensures.front flushed.ensures.cause flushed.ensures.status

pub returns-in_err-flush-in-Ok-Refused-clause-stopped : goal.returns-in_err-flush-in-Ok-Refused-clause-stopped
returns-in_err-flush-in-Ok-Refused-clause-stopped g c =
    let is : c.advance.result ≡ Ok Refused = c.in-Ok-Refused.is ∙ ap (λ x. Ok x) c.in-Ok-Refused.field-0-is in
    let flushed = c.flush-in-Ok-Refused in
    handed_on flushed.result c.from_residual-in_err-flush-in-Ok-Refused.result c.in_err-flush-in-Ok-Refused.field-0.0 _
    c.in_err-flush-in-Ok-Refused.was c.from_residual-in_err-flush-in-Ok-Refused.ensures.1
    (stopped_or_not flushed.result _ _ _ _ _ _ c.args.reader.now c.loop-sink.reader c.args.out.now.items c.loop-sink.out.items
    c.advance.new.out.items
    c.reports_are_there.ensures c.loop-sink.invariant.reading
    (begins_refused c.loop-sink.reader c.loop-sink.out.items c.advance.new.out.items (c.advance.ensures.refused is))
    flushed.ensures.front flushed.ensures.cause flushed.ensures.status)

pub returns-in-Ok-Refused-clause-stopped : goal.returns-in-Ok-Refused-clause-stopped
returns-in-Ok-Refused-clause-stopped g c = λ old left reads fed i.
    let is : c.advance.result ≡ Ok Refused = c.in-Ok-Refused.is ∙ ap (λ x. Ok x) c.in-Ok-Refused.field-0-is in
    let written = c.in_ok-flush-in-Ok-Refused.ensures in
    refused_there old left reads _ _ _ _ c.loop-sink.reader fed c.loop-sink.out.items c.advance.new.out.items c.reports_are_there.ensures
    (c.loop-sink.invariant.reading old left reads fed i) (c.advance.ensures.refused is) (written.written (omega arith))
    (written.cause.well (refl {a = true}))

pub returns-in-Err-clause-stopped : goal.returns-in-Err-clause-stopped
returns-in-Err-clause-stopped g c = λ old left reads fed i.
    memory_there old left reads _ _ c.loop-sink.reader fed c.loop-sink.out.items c.reports_are_there.ensures
    (c.loop-sink.invariant.reading old left reads fed i)
