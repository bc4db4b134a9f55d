use Rattle.std.proofs.Common.{rules}
use Rattle.outside_io.proofs.Written.{Appends-take, WritesFront-take}
use Rattle.outside_io.proofs.writing.write_whole.Goals as goal

pub loop-written-preserved : goal.loop-written-preserved
loop-written-preserved g c = record {
  within = search rules;
  appended =
      Appends-take _ _ _ c.args.piece.now c.loop-written.written c.in-Ok.taken c.loop-written.invariant.appended
      (rw (← c.split_at.ensures.back) c.in-Ok.ensures.bytes);
  faultless = search rules;
}

pub returns-in-Err-clause-front : goal.returns-in-Err-clause-front
returns-in-Err-clause-front g c =
    WritesFront-take _ _ _ c.args.piece.now c.loop-written.written c.loop-written.invariant.appended c.in-Err.ensures.bytes
