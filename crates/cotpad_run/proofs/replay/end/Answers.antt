use Rattle.std.proofs.Common.{false, true, refl, arith}
use Rattle.cotpad_run.proofs.Scripts.{ended_there, refused_at_end, unwritten_at_end, memory_at_end, faulted}
use Rattle.cotpad_run.proofs.replay.end.Goals as goal

pub returns-in-Ok-flush : goal.returns-in-Ok-flush
returns-in-Ok-flush g c = λ old left reads fed i end.
    refused_at_end old left reads _ _ _ _ c.args.reader fed c.args.out.now.items c.finish.new.out.items c.in-Ok.refused
    c.reports_are_there.ensures i end c.requires.empty c.if-refused.true c.in-Ok.ensures.report
    (c.in-Ok-flush.ensures.written (omega arith)) (c.in-Ok-flush.ensures.cause.well (refl {a = true}))

pub returns-in-Ok-2 : goal.returns-in-Ok-2
returns-in-Ok-2 g c = λ old left reads fed i end. (
  ended_there old left reads _ _ _ _ c.args.reader fed c.args.out.now.items c.finish.new.out.items c.in-Ok.refused false
      c.reports_are_there.ensures i end c.requires.empty c.if-refused.false c.in-Ok.ensures.report
      (c.in-Ok-2.ensures.written (omega arith)) (c.in-Ok-2.ensures.cause.well (refl {a = true})),
  end,
)

pub returns-in-Err-flush : goal.returns-in-Err-flush
returns-in-Err-flush g c = λ old left reads fed i end.
    faulted old _ c.in-Err-flush.status c.in-Err-flush.ensures.status
    (unwritten_at_end old left reads _ _ _ _ c.args.reader fed c.args.out.now.items c.finish.new.out.items c.in-Ok.refused
    c.reports_are_there.ensures i end c.requires.empty c.in-Ok.ensures.report c.in-Err-flush.ensures.front
    (c.in-Err-flush.ensures.cause.failed (refl {a = true})))

pub returns-in-Err : goal.returns-in-Err
returns-in-Err g c = λ old left reads fed i end. memory_at_end old left reads _ _ c.args.reader fed c.reports_are_there.ensures i
