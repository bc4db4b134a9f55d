use Rattle.std.proofs.Common.{refl, sym}
use Rattle.std.proofs.lemmas.Bool.{false≢true}
use Rattle.char_marks.proofs.Strays.{no_stray, stray_breaks}
use Rattle.char_marks.proofs.mark.has_no_stray.Goals as goal

pub returns-in-Some : goal.returns-in-Some
returns-in-Some c = (
  λ no. absurd (false≢true no),
  λ keeps. absurd (stray_breaks c.args.context.now.set c.in-Some.field-0 c.known.ensures.entries (sym c.in-Some.ensures) keeps),
)

pub returns-in-None : goal.returns-in-None
returns-in-None c = (λ yes. no_stray c.args.context.now.set (sym c.in-None.ensures), λ keeps. refl)
