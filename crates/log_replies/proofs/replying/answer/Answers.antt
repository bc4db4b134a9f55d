use Rattle.std.proofs.Common.{true, false, refl, ap}
use Rattle.std.specs.Prelude.{Ok}
use Rattle.log_replies.proofs.Answering.{replied, partly_replied}
use Rattle.log_replies.proofs.replying.answer.Goals as goal

pub returns-in-Ok-write_whole-clause-answer : goal.returns-in-Ok-write_whole-clause-answer
returns-in-Ok-write_whole-clause-answer g c = record {
  reply = replied (g.C.Replies.replies c.args.command.now) (g.K.Sink.held c.args.sink.now) (g.K.Sink.held c.write_whole.new.sink)
      (g.S.Source.left c.args.source.now) true c.in-Ok.refused c.new-out.result.items c.deref.result.now c.reply_to_input.new.out.items
      c.if-refused.true c.deref.ensures.value c.new-out.ensures.items c.in-Ok.ensures.reply c.in-Ok-write_whole.ensures.whole;
  kept = (c.deref.result.now, c.in-Ok-write_whole.ensures.whole);
  input = record { read = c.in-Ok.ensures.rest; faultless = c.in-Ok.ensures.no_fault (λ e. absurd cc) };
  faultless = c.in-Ok-write_whole.ensures.cause.well refl;
}

pub returns-in-Ok-2-clause-answer : goal.returns-in-Ok-2-clause-answer
returns-in-Ok-2-clause-answer g c = (
  record {
    reply = replied (g.C.Replies.replies c.args.command.now) (g.K.Sink.held c.args.sink.now) (g.K.Sink.held c.write_whole.new.sink)
        (g.S.Source.left c.args.source.now) false c.in-Ok.refused c.new-out.result.items c.deref.result.now c.reply_to_input.new.out.items
        c.if-refused.false c.deref.ensures.value c.new-out.ensures.items c.in-Ok.ensures.reply c.in-Ok-write_whole.ensures.whole;
    kept = (c.deref.result.now, c.in-Ok-write_whole.ensures.whole);
    input = record { read = c.in-Ok.ensures.rest; faultless = c.in-Ok.ensures.no_fault (λ e. absurd cc) };
    faultless = c.in-Ok-write_whole.ensures.cause.well refl;
  },
  c.in-Ok.ensures.ended (ap Ok c.if-refused.false),
)

pub returns-clause-answer : goal.returns-clause-answer
returns-clause-answer g c =
    let written = c.in-Err.ensures.front in
    record {
      fault = c.in-Err.ensures.cause.failed refl;
      front = partly_replied (g.C.Replies.replies c.args.command.now) (g.K.Sink.held c.args.sink.now) (g.K.Sink.held c.write_whole.new.sink)
          (g.S.Source.left c.args.source.now) c.in-Ok.refused c.new-out.result.items c.deref.result.now c.reply_to_input.new.out.items
          c.deref.ensures.value c.new-out.ensures.items c.in-Ok.ensures.reply written;
      kept = (written.front, written.written);
      input = record { read = c.in-Ok.ensures.rest; faultless = c.in-Ok.ensures.no_fault (λ e. absurd cc) };
    }
