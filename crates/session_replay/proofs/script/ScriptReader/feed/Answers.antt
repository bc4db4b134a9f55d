use Rattle.std.proofs.Common.{sym, subst, refl}
use Rattle.session_replay.specs.ReaderData.{ReaderData}
use Rattle.session_replay.specs.Readers.{Keeps}
use Rattle.session_replay.proofs.Reading.{fed_keeps}
use Rattle.session_replay.proofs.script.ScriptReader.feed.Goals as goal
use Rattle.std.proofs.lemmas.Result.{on_ok_weaker}

pub returns-clause-keeps : goal.returns-clause-keeps
returns-clause-keeps c = λ all written k.
    let r = c.self.inside in
    let old : ReaderData = record { input = r.lines; number = r.number; session = r.running.session } in
    on_ok_weaker c.feed.result (λ is. fed_keeps c.lines_stay_the_same.ensures.cut old _ all written c.args.piece.now is refl refl
    (subst (λ (x : ReaderData). Keeps x all written) (sym c.self.view_is) k)) c.feed.ensures.ok
