use Rattle.std.proofs.Common.{◌≡◌, refl, sym, subst}
use Rattle.session_replay.specs.Answers.{HasStep}
use Rattle.session_replay.specs.declared.session.StepBad.TheVariants.{Memory}
use Rattle.session_replay.proofs.Lines.{line_there, line_missing}
use Rattle.session_replay.proofs.sites.Sites.do_line.Goals as goal

pub returns-in-Ok-clause-done : goal.returns-in-Ok-clause-done
returns-in-Ok-clause-done c =
    line_there c.args.line.now c.do_there.result c.args.self.now c.do_there.new.self _ _ c.in-Ok.ensures.ok c.do_there.ensures.done

pub returns-in-Err-clause-done : goal.returns-in-Err-clause-done
returns-in-Err-clause-done c = line_missing c.args.line.now _ c.in-Err.why c.args.self.now _ c.in-Err.ensures.refused refl

pub returns-in-Ok-clause-needed : goal.returns-in-Ok-clause-needed
returns-in-Ok-clause-needed c = λ memory. subst HasStep (sym c.in-Ok.ensures.ok) (c.do_there.ensures.needed memory)

pub returns-in-Err-clause-needed : goal.returns-in-Err-clause-needed
returns-in-Err-clause-needed c = λ memory. let same : c.in-Err.why ≡ Memory = cc in absurd (c.in-Err.ensures.known same)
