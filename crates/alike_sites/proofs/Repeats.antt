-- An operation whose member is in the history is a repeat or a forgery, and changes nothing.
use Rattle.std.proofs.Common.{◌≡◌, true, refl}
use Rattle.context_diff.specs.Operations.{OpData, member_of, IsWellFormed}
use Rattle.context_diff.specs.Histories.{is_known}
use Rattle.site_answers.specs.declared.verdict.Verdict.{Verdict}
use Rattle.site_answers.specs.declared.verdict.Verdict.TheVariants.{Repeat, Forged, Waits, NotClosed, PlaceOut, Integrated}
use Rattle.cot_site.specs.Verdicts.{IsVerdict}
use Rattle.cot_site.specs.States.{State, after_verdict, judged, delivered}
use Rattle.cot_site.specs.Releases.{IsSound}
use Rattle.cot_site.proofs.CallerLemmas.{verdicts_exact, new_unknown}

module _ (s : State) (o : OpData) (sound : IsSound s) (known : is_known s.history (member_of o) ≡ true) where
  old_after : (v : Verdict) → IsVerdict s.history s.waiting o v → after_verdict v o s ≡ s
  old_after Repeat r = refl
  old_after (Forged n) r = refl
  old_after (Waits m) r = absurd (new_unknown s.history s.waiting sound.history o r.0 known)
  old_after (NotClosed k) r = absurd (new_unknown s.history s.waiting sound.history o r.0 known)
  old_after (PlaceOut p k) r = absurd (new_unknown s.history s.waiting sound.history o r.0 known)
  old_after Integrated r = absurd (new_unknown s.history s.waiting sound.history o r.0 known)

  pub old_unchanged : IsWellFormed o → delivered s o ≡ s
  old_unchanged formed =
      old_after (judged s o) ((verdicts_exact s.history s.waiting o (judged s o) sound.history formed).1 refl)
