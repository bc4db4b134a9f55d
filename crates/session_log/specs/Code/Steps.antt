-- The steps of a reader: over one frame, taking in its operation, and the end.
use Rattle.std.specs.Prelude.{◌≡◌, ◌≢◌, ℕ, ◌+◌, ◌-◌, Bool, false, true, List, [], Option, Some, None, Err, length, nat_lt, if◌then◌else◌}
use Rattle.context_diff.specs.Operations.{OpData}
use Rattle.context_diff.specs.Ops.{data_of}
use Rattle.wire_codec.specs.declared.fault.Refused.TheVariants.{Bad}
use Rattle.wire_codec.specs.declared.version.Version.{Version}
use Rattle.wire_codec.specs.Reading.{fault}
use Rattle.wire_codec.specs.Judging.{judge}
use Rattle.wire_codec.specs.StreamData.{StreamData}
use Rattle.wire_codec.specs.Streams.{TakesOp}
use Rattle.cot_site.specs.States.{State}
use Rattle.session_log.specs.declared.headers.TheConstants.{HEADER_LEN}
use Rattle.session_log.specs.declared.log_bad.LogBad.{LogBad}
use Rattle.session_log.specs.declared.log_bad.LogBad.TheVariants as bad
use Rattle.session_log.specs.declared.placed.Placed.{Placed}
use Rattle.session_log.specs.Loadings.{first_refusal, verdicts_after, after_one, IsRefusal}
use Rattle.session_log.specs.Readers.{IsFaultOf, HasTaken, NeedsMore}

-- why the log ends where so many bytes were fed, and so many are left: out of memory, the first fault, no whole header, a
-- frame that is cut; none of these at the end of a log
abbrev pub end_fault : Bool → Option LogBad → ℕ → ℕ → Option LogBad
end_fault true why fed rest = Some bad.Memory
end_fault false (Some why) fed rest = Some why
end_fault false None fed rest =
    if nat_lt fed HEADER_LEN then Some bad.Header else if nat_lt 0 rest then Some (bad.Cut (fed - rest)) else None

-- a stream of frames of this version, to which nothing was fed
abbrev pub no_frame : Version → StreamData
no_frame v = record { version = v; taken = 0; left = [] }

-- a frame was taken, which begins at the place of its operation; without one, more bytes are needed to tell
abbrev pub TakesFrame : ℕ → StreamData → Option Placed → StreamData → Type 0
TakesFrame fed old None new = (new ≡ old) × NeedsMore old.version old.left
TakesFrame fed old (Some p) new = TakesOp old (data_of p.op) new × (p.offset + length old.left ≡ fed)

-- what is left begins with no frame, and this is its first fault; or memory is out
abbrev pub Stops : ℕ → StreamData → LogBad → Type 0
Stops fed s bad.Header = ⊥
Stops fed s (bad.Cut offset) = ⊥
Stops fed s (bad.Bad offset cause) =
    (within : ℕ) × (judge s.version s.left ≡ Err (Bad (fault cause within))) × (offset + length s.left ≡ fed + within)
Stops fed s (bad.Refused offset member verdict) = ⊥
Stops fed s bad.Memory = Unit {0}

-- an operation was taken in, unless one was refused before, or is now
abbrev pub TakesIn : State → Option LogBad → ℕ → OpData → State → Option LogBad → Type 0
TakesIn s (Some why) at o t now = now ≡ Some why
TakesIn s None at o t None = (first_refusal (verdicts_after s o) ≡ None) × (t ≡ after_one s o)
TakesIn s None at o t (Some why) = (why ≢ bad.Memory) × IsRefusal at (verdicts_after s o) why

-- each whole frame was taken, and its operation taken in; or there is a fault
abbrev pub Ends : ℕ → Version → List ℕ → List ℕ → State → Option LogBad → Option LogBad → Type 0
Ends site v all left s refused None = HasTaken site v all left s refused × NeedsMore v left
Ends site v all left s refused (Some why) = IsFaultOf all why
