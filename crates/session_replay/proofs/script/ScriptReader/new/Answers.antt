use Rattle.std.proofs.Common.{ap, refl}
use Rattle.session_replay.specs.Sessions.{Running}
use Rattle.session_replay.proofs.Reading.{new_keeps}
use Rattle.session_replay.proofs.script.ScriptReader.new.Goals as goal

pub returns : goal.returns
returns c = new_keeps _ c.new.ensures refl (ap (λ (x : Running). x.session) c.new-2.ensures)
