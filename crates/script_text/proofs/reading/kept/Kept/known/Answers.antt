use Rattle.script_text.specs.KeptData.{KeptData}
use Rattle.std.proofs.Common.{subst}
use Rattle.script_text.specs.Code.Keeping.{AreKept}
use Rattle.script_text.proofs.KeptLines.{front_line, last_size}
use Rattle.script_text.proofs.reading.kept.Kept.known.Goals as goal

pub returns-clause-kept : goal.returns-clause-kept
returns-clause-kept c = subst (λ (d : KeptData). AreKept d) c.self.view_is c.self.invariant

pub returns-clause-front : goal.returns-clause-front
returns-clause-front c = front_line c.args.self.now (subst (λ (d : KeptData). AreKept d) c.self.view_is c.self.invariant)

pub returns-clause-size : goal.returns-clause-size
returns-clause-size c = last_size c.args.self.now.bytes c.args.self.now.ended c.args.self.now.last
