use Rattle.std.proofs.Common.{Ok, Err, subst, arith}
use Rattle.std.specs.Prelude.{Option}
use Rattle.context_diff.specs.declared.op.Op.{Op}
use Rattle.context_diff.specs.Ops.{data_of}
use Rattle.wire_codec.specs.declared.stream.StreamBad.{StreamBad}
use Rattle.wire_codec.specs.Judging.{judge}
use Rattle.wire_codec.specs.Streams.{IsAnswer, TakesAnswer}
use Rattle.session_log.proofs.Steps.{within_left, counted_next}
use Rattle.session_log.proofs.next_frame.next.Goals as goal

pub overflow_cast-result-in-Err-Bad : goal.overflow_cast-result-in-Err-Bad
overflow_cast-result-in-Err-Bad c =
    let old = c.args.frames.now in
    let is = subst (λ (e : StreamBad). IsAnswer old.version old.taken (Err e) (judge old.version old.left)) c.in-Err-Bad.field-0-is
    c.in-Err-Bad.ensures.exact in
    omega (
      arith,
      is.2,
      within_left old.version old.left c.in-Err-Bad.cause is.0 c.requires.counted.1 is.1,
      c.requires.counted.0,
      c.requires.limit,
    )

pub overflow_add-result : goal.overflow_add-result
overflow_add-result c =
    let old = c.args.frames.now in
    let is = subst (λ (e : StreamBad). IsAnswer old.version old.taken (Err e) (judge old.version old.left)) c.in-Err-Bad.field-0-is
    c.in-Err-Bad.ensures.exact in
    omega (
      arith,
      is.2,
      within_left old.version old.left c.in-Err-Bad.cause is.0 c.requires.counted.1 is.1,
      c.requires.counted.0,
      c.requires.limit,
    )

pub returns-in-Ok-Some-clause-counted : goal.returns-in-Ok-Some-clause-counted
returns-in-Ok-Some-clause-counted c =
    let takes =
    subst (λ (r : Option Op). TakesAnswer c.args.frames.now (Ok r) c.take.new.self) c.in-Ok-Some.field-0-is
    c.in-Ok-Some.ensures.taken in
    counted_next c.args.fed c.args.frames.now c.take.new.self (data_of c.in-Ok-Some.op) c.requires.counted takes
