-- What one step of a reader keeps: a frame that is taken, a piece that follows, a fault and a refusal.
use Rattle.std.proofs.Common.{◌≡◌, ◌≢◌, ℕ, ◌+◌, ◌≤◌, List, [], ◌∷◌, ◌++◌, Result, Ok, Err, refl, ap, sym, subst, ◌∙◌, length, append_assoc, arith}
use Rattle.std.specs.Prelude.{Option, Some, None, OnOk, IfErr}
use Rattle.std.specs.Result.{result_err}
use Rattle.std.proofs.lemmas.List.{length-append}
use Rattle.context_diff.specs.Operations.{OpData, IsWellFormed}
use Rattle.context_diff.specs.Ops.{data_of}
use Rattle.wire_codec.specs.declared.cause.Cause.{Cause}
use Rattle.wire_codec.specs.declared.fault.Refused.TheVariants.{Bad}
use Rattle.wire_codec.specs.declared.version.Version.{Version}
use Rattle.wire_codec.specs.Versions.{Fits}
use Rattle.wire_codec.specs.Reading.{fault}
use Rattle.wire_codec.specs.Judging.{judge}
use Rattle.wire_codec.specs.Spelling.{frame}
use Rattle.wire_codec.specs.StreamData.{StreamData}
use Rattle.wire_codec.specs.Streams.{TakesOp}
use Rattle.wire_codec.proofs.CallerLemmas.{bad_stays, judge_within}
use Rattle.cot_site.specs.States.{State}
use Rattle.session_log.specs.declared.log_bad.LogBad.{LogBad}
use Rattle.session_log.specs.declared.log_bad.LogBad.TheVariants as bad
use Rattle.session_log.specs.declared.placed.Placed.{Placed}
use Rattle.session_log.specs.Logs.{header, frames, BeginsWith, offset_after, IsLogOf}
use Rattle.session_log.specs.Readings.{IsUnread}
use Rattle.session_log.specs.Loadings.{first_refusal, verdicts_after, after_one, IsRefusal, IsUnloaded}
use Rattle.session_log.proofs.HeaderFronts.{header_long}
use Rattle.session_log.proofs.Frames.{begins_next}
use Rattle.session_log.proofs.TakingIn.{taken_more, refused_at}
use Rattle.session_log.specs.Readers.{IsFaultOf, IsRefusalOf, AreTakenTo, HasTaken}
use Rattle.session_log.specs.ReaderData.{AreBytes, IsCounted}
use Rattle.session_log.specs.Code.Steps.{TakesFrame, Stops, TakesIn}
use Rattle.session_log.proofs.Fronts.{bytes_after}

-- ---- more bytes

pub begins_on : (v : Version) (all left : List ℕ) (ops : List OpData) (more : List ℕ) → BeginsWith v all ops left
    → BeginsWith v (all ++ more) ops (left ++ more)
begins_on v all left ops more b = record {
  formed = b.formed;
  fits = b.fits;
  parts = ap (λ (t : List ℕ). t ++ more) b.parts ∙ append_assoc (header v) (frames v ops ++ left) more
      ∙ ap (λ (t : List ℕ). header v ++ t) (append_assoc (frames v ops) left more);
}

pub fault_on : (all more : List ℕ) (why : LogBad) → IsFaultOf all why → IsFaultOf (all ++ more) why
fault_on all more why f = (f.0, λ after. subst (λ (t : List ℕ). IsUnread t why) (sym (append_assoc all more after)) (f.1 (more ++ after)))

refusal_on : (site : ℕ) (all more : List ℕ) (why : LogBad) → IsRefusalOf site all why → IsRefusalOf site (all ++ more) why
refusal_on site all more why f = (
  f.0,
  λ after ops log.
      let same = append_assoc all more after in
      subst (λ (t : List ℕ). IsUnloaded site t why) (sym same) (f.1 (more ++ after) ops (subst (λ (t : List ℕ). IsLogOf t ops) same log)),
)

taken_to_on : (site : ℕ) (all more : List ℕ) (ops : List OpData) (s : State) (refused : Option LogBad) → AreTakenTo site all ops s refused
    → AreTakenTo site (all ++ more) ops s refused
taken_to_on site all more ops s None t = t
taken_to_on site all more ops s (Some why) t = refusal_on site all more why t

pub has_taken_on : (site : ℕ) (v : Version) (all left : List ℕ) (s : State) (refused : Option LogBad) (more : List ℕ)
    → HasTaken site v all left s refused → HasTaken site v (all ++ more) (left ++ more) s refused
has_taken_on site v all left s refused more h = record {
  ops = h.ops;
  begins = begins_on v all left h.ops more h.begins;
  taken = taken_to_on site all more h.ops s refused h.taken;
}

-- ---- one operation

-- the first refusal is kept
pub takes_next : {A : Type 0} (s t : State) (at : ℕ) (o : OpData) (taken : Result A LogBad) (now : Option LogBad)
    → OnOk taken (first_refusal (verdicts_after s o) ≡ None) → OnOk taken (t ≡ after_one s o)
    → IfErr taken (IsRefusal at (verdicts_after s o))
    → (now ≡ result_err taken) × (taken ≢ Err bad.Memory) → TakesIn s None at o t now
takes_next s t at o (Ok x) now free state refusal kept = subst (TakesIn s None at o t) (sym kept.0) (free, state)
takes_next s t at o (Err why) now free state refusal kept = subst (TakesIn s None at o t) (sym kept.0) (λ e. kept.1 (ap Err e), refusal)

-- ---- one frame

-- where so many bytes were fed, what is left begins where the operations end
pub at_left : (v : Version) (all left : List ℕ) (ops : List OpData) → BeginsWith v all ops left
    → length all ≡ offset_after v ops + length left
at_left v all left ops b =
    omega (
      arith,
      ap length b.parts,
      header_long v,
      length-append (header v) (frames v ops ++ left),
      length-append (frames v ops) left,
    )

-- the operation whose frame comes next is refused
refused_next : (site : ℕ) (v : Version) (all left next : List ℕ) (ops : List OpData) (o : OpData) (s : State) (at : ℕ) (why : LogBad)
    → BeginsWith v all ops left → left ≡ frame v o ++ next → IsWellFormed o → Fits v o → AreTakenTo site all ops s None
    → at ≡ offset_after v ops → why ≢ bad.Memory → IsRefusal at (verdicts_after s o) why → IsRefusalOf site all why
refused_next site v all left next ops o s at bad.Header b is well fits taken place apart refusal = absurd refusal
refused_next site v all left next ops o s at (bad.Cut offset) b is well fits taken place apart refusal = absurd refusal
refused_next site v all left next ops o s at (bad.Bad offset cause) b is well fits taken place apart refusal = absurd refusal
refused_next site v all left next ops o s at (bad.Refused offset member verdict) b is well fits taken place apart refusal = (
  apart,
  λ more log is_log.
      let begins = begins_on v all next (ops ++ o ∷ []) more (begins_next v all left next ops o b is well fits) in
      refused_at site v (all ++ more) (next ++ more) ops o log s offset (record { member = member; verdict = verdict })
      begins is_log taken.0 taken.1 (refusal.0 ∙ place) refusal.1,
)
refused_next site v all left next ops o s at bad.Memory b is well fits taken place apart refusal = absurd (apart refl)

taken_next : (site : ℕ) (v : Version) (all left next : List ℕ) (ops : List OpData) (o : OpData) (s t : State) (refused now : Option LogBad)
    (at : ℕ)
    → BeginsWith v all ops left → left ≡ frame v o ++ next → IsWellFormed o → Fits v o → AreTakenTo site all ops s refused
    → at ≡ offset_after v ops → TakesIn s refused at o t now → AreTakenTo site all (ops ++ o ∷ []) t now
taken_next site v all left next ops o s t (Some why) now at b is well fits taken place takes =
    subst (λ (n : Option LogBad). AreTakenTo site all (ops ++ o ∷ []) t n) (sym takes) taken
taken_next site v all left next ops o s t None None at b is well fits taken place takes =
    taken_more site ops o s t taken.0 taken.1 takes.0 takes.1
taken_next site v all left next ops o s t None (Some why) at b is well fits taken place takes =
    refused_next site v all left next ops o s at why b is well fits taken place takes.0 takes.1

-- a frame was taken, and its operation taken in
pub steps : (site : ℕ) (all : List ℕ) (fed : ℕ) (old new : StreamData) (p : Placed) (s t : State) (refused now : Option LogBad)
    → fed ≡ length all → HasTaken site old.version all old.left s refused → TakesFrame fed old (Some p) new
    → TakesIn s refused p.offset (data_of p.op) t now → HasTaken site new.version all new.left t now
steps site all fed old new p s t refused now count h takes taken =
    let v = old.version in
    let o = data_of p.op in
    let f = takes.0 in
    let place : p.offset ≡ offset_after v h.ops = omega (arith, count, takes.1, at_left v all old.left h.ops h.begins) in
    let has : HasTaken site v all new.left t now = record {
      ops = h.ops ++ o ∷ [];
      begins = begins_next v all old.left new.left h.ops o h.begins f.left f.well f.fits;
      taken = taken_next site v all old.left new.left h.ops o s t refused now p.offset h.begins f.left f.well f.fits h.taken place taken;
    } in
    subst (λ (x : Version). HasTaken site x all new.left t now) (sym f.version) has

-- the fault of what is left is that of the log
pub stops_for : (site : ℕ) (all : List ℕ) (fed : ℕ) (old : StreamData) (s : State) (refused : Option LogBad) (why : LogBad)
    → fed ≡ length all → HasTaken site old.version all old.left s refused → Stops fed old why → why ≢ bad.Memory → IsFaultOf all why
stops_for site all fed old s refused bad.Header count h stops apart = absurd stops
stops_for site all fed old s refused (bad.Cut offset) count h stops apart = absurd stops
stops_for site all fed old s refused (bad.Bad offset cause) count h (within, judged, place) apart = (
  apart,
  λ more. record {
    version = old.version;
    before = h.ops;
    rest = old.left ++ more;
    begins = begins_on old.version all old.left h.ops more h.begins;
    within = within;
    judged = bad_stays old.version old.left more (fault cause within) judged;
    place = omega (arith, count, place, at_left old.version all old.left h.ops h.begins);
  },
)
stops_for site all fed old s refused (bad.Refused offset member verdict) count h stops apart = absurd stops
stops_for site all fed old s refused bad.Memory count h stops apart = absurd (apart refl)

-- a fault is within what is left
pub within_left : (v : Version) (left : List ℕ) (cause : Cause) (place : ℕ) → AreBytes left → judge v left ≡ Err (Bad (fault cause place))
    → place ≤ length left
within_left v left cause place fits e = judge_within v left (fault cause place) fits e

pub counted_next : (fed : ℕ) (old new : StreamData) (o : OpData) → IsCounted fed old → TakesOp old o new → IsCounted fed new
counted_next fed old new o counted takes = (
  omega (arith, counted.0, takes.taken, ap length takes.left, length-append (frame old.version o) new.left),
  bytes_after (frame old.version o) new.left old.left takes.left counted.1,
)
