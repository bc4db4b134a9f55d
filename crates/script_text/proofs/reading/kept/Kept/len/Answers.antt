use Rattle.std.proofs.Common.{arith}
use Rattle.script_text.proofs.KeptLines.{length_open, length_whole}
use Rattle.script_text.proofs.reading.kept.Kept.len.Goals as goal

pub returns-then-self-gt0 : goal.returns-then-self-gt0
returns-then-self-gt0 c =
    let all = length_open c.self.inside.bytes.items c.self.inside.ended.items c.self.inside.last c.if-self-gt0.true in
    rw (← c.self.view_is) (omega (arith, all, c.len.ensures, c.self.inside.ended.ok.0))

pub returns-else-self-gt0 : goal.returns-else-self-gt0
returns-else-self-gt0 c =
    let all = length_whole c.self.inside.bytes.items c.self.inside.ended.items c.self.inside.last c.if-self-gt0.false in
    rw (← c.self.view_is) (omega (arith, all, c.len-else-self-gt0.ensures, c.self.inside.ended.ok.0))
