use Rattle.std.proofs.Common.{refl, subst}
use Rattle.std.specs.Io.KnownBytes.{Appends}
use Rattle.outside_io.specs.Writing.{WritesFront}
use Rattle.cotpad_run.proofs.saying.say.Goals as goal

pub returns-in-Ok-clause-answer : goal.returns-in-Ok-clause-answer
returns-in-Ok-clause-answer g c = λ left faults. record {
  appended = subst (Appends (g.K.Sink.held c.args.sink.now) (g.K.Sink.held c.write_whole.new.sink)) c.as_bytes.ensures.value
      c.in-Ok.ensures.whole;
  faultless = c.in-Ok.ensures.cause.well refl;
}

pub returns-in-Err-clause-answer : goal.returns-in-Err-clause-answer
returns-in-Err-clause-answer g c = λ left faults. record {
  front = subst (WritesFront (g.K.Sink.held c.args.sink.now) (g.K.Sink.held c.write_whole.new.sink)) c.as_bytes.ensures.value
      c.in-Err.ensures.front;
  fault = c.in-Err.ensures.cause.failed refl;
}
