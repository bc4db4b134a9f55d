use Rattle.std.proofs.Common.{◌≡◌, ◌∙◌, subst}
use Rattle.std.specs.Prelude.{Option}
use Rattle.cot_site.specs.Sites.{state_of}
use Rattle.session_log.specs.declared.placed.Placed.{Placed}
use Rattle.session_log.specs.declared.log_bad.LogBad.TheVariants as bad
use Rattle.session_log.specs.Code.Steps.{TakesFrame, Stops}
use Rattle.session_log.proofs.Steps.{steps, stops_for}
use Rattle.session_log.proofs.next_frame.take_frames.Goals as goal

pub loop-placed-preserved : goal.loop-placed-preserved
loop-placed-preserved c =
    let old = c.loop-placed.frames in
    let new = c.next.new.frames in
    let takes = subst (λ (p : Option Placed). TakesFrame c.args.fed old p new) c.in-Ok-Some.field-0-is c.in-Ok-Some.ensures.takes in (
      c.in-Ok-Some.ensures.counted,
      c.in-Ok-Some.ensures.version ∙ c.loop-placed.invariant.1,
      λ site all count h. steps site all c.args.fed old new c.in-Ok-Some.placed (state_of c.loop-placed.intake.site)
          (state_of c.take.new.self.site) c.loop-placed.intake.refused c.take.new.self.refused
          count (c.loop-placed.invariant.2 site all count h) takes c.in_ok-take-in-Ok-Some.ensures.takes,
    )

pub returns-in-Err-Bad : goal.returns-in-Err-Bad
returns-in-Err-Bad c =
    let why = bad.Bad c.in-Err-Bad.offset c.in-Err-Bad.cause in
    let s = state_of c.loop-placed.intake.site in
    let stops = subst (Stops c.args.fed c.loop-placed.frames) c.in-Err-Bad.field-0-is c.in-Err-Bad.ensures.stops in
    record {
      ends = λ site all count h.
          stops_for site all c.args.fed c.loop-placed.frames s c.loop-placed.intake.refused why count
          (c.loop-placed.invariant.2 site all count h) stops (λ e. let no : why ≡ bad.Memory = e in cc);
      counted = c.in-Err-Bad.ensures.counted;
      version = c.in-Err-Bad.ensures.version ∙ c.loop-placed.invariant.1;
    }
