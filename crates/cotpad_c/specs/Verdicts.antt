-- Verdicts as a host reads them.
use Rattle.std.specs.Prelude.{◌≡◌, Option, Some, None, ℕ, Result, Ok, Err}
use Rattle.op_name.specs.declared.member.Member.{Member}
use Rattle.context_diff.specs.Operations.{OpData}
use Rattle.site_answers.specs.declared.verdict.Verdict.{Verdict}
use Rattle.site_answers.specs.declared.verdict.Verdict.TheVariants.{Repeat, Forged, Waits, NotClosed, PlaceOut, Integrated}
use Rattle.cot_site.specs.States.{State, Released, judged}
use Rattle.wire_codec.specs.declared.cause.Cause.{Cause}
use Rattle.wire_codec.specs.declared.cause.Cause.TheVariants as cause
use Rattle.wire_codec.specs.declared.fault.Refused.{Refused}
use Rattle.wire_codec.specs.declared.fault.Refused.TheVariants.{More, Bad}
use Rattle.participant.specs.declared.taking.Taking.TheVariants.{All}
use Rattle.participant.specs.Reached.{Reached, from, with_delivered, IsHalfSettled}
use Rattle.participant.specs.Taking.{taken_in}
use Rattle.cotpad_c.specs.declared.kinds.TheConstants as kind
use Rattle.cotpad_c.specs.declared.status.TheConstants.{OK, NONE}
use Rattle.cotpad_c.specs.declared.operation.CotpadOperation.{CotpadOperation}
use Rattle.cotpad_c.specs.declared.verdict.CotpadVerdict.{CotpadVerdict}
use Rattle.cotpad_c.specs.Operations.{no_member, no_operation, member_told, operation_told}

-- nothing is told
abbrev pub blank : CotpadVerdict
blank = record { kind = 0; cause = 0; offset = 0; used = 0; operation = no_operation; missing = no_member; site = 0; place = 0; cells = 0 }

-- the verdict on this operation, whose frame has so many bytes
abbrev pub told : CotpadOperation → ℕ → Verdict → CotpadVerdict
told o used Integrated = record blank { kind = kind.INTEGRATED; used = used; operation = o }
told o used (Waits m) = record blank { kind = kind.WAITS; used = used; operation = o; missing = member_told m }
told o used Repeat = record blank { kind = kind.REPEAT; used = used; operation = o }
told o used (Forged n) = record blank { kind = kind.FORGED; used = used; operation = o }
told o used (NotClosed s) = record blank { kind = kind.NOT_CLOSED; used = used; operation = o; site = s }
told o used (PlaceOut p k) = record blank { kind = kind.PLACE_OUT; used = used; operation = o; place = p; cells = k }

-- the number by which a host is told why bytes are no frame
abbrev pub cause_number : Cause → ℕ
cause_number cause.TooLong = 1
cause_number cause.Kind = 2
cause_number cause.Range = 3
cause_number cause.Char = 4
cause_number cause.Order = 5
cause_number cause.Zero = 6
cause_number cause.Length = 7
cause_number cause.Own = 8
cause_number cause.Target = 9
cause_number cause.Stray = 10

-- the bytes end early: at least so many are wanted
abbrev pub incomplete : ℕ → CotpadVerdict
incomplete n = record blank { kind = kind.INCOMPLETE; offset = n }

-- a fault of this cause is at the offset
abbrev pub malformed : Cause → ℕ → CotpadVerdict
malformed why n = record blank { kind = kind.MALFORMED; cause = cause_number why; offset = n }

-- a place among bytes, and nothing else
abbrev pub at_offset : ℕ → CotpadVerdict
at_offset n = record blank { offset = n }

-- a verdict of which, of the operation, the member alone is told
abbrev pub of_member : Member → Verdict → CotpadVerdict
of_member m v = let o : CotpadOperation = record no_operation { member = member_told m } in told o 0 v

-- the verdict for which an operation isn't taken, and the offset at which it stands
abbrev pub unfit : Member → Verdict → ℕ → CotpadVerdict
unfit m v n = record (of_member m v) { offset = n }

-- what the judged bytes are answered with
abbrev pub answered : State → Result (OpData × ℕ) Refused → CotpadVerdict
answered s (Ok x) = told (operation_told x.0) x.1 (judged s x.0)
answered s (Err (More n)) = incomplete n
answered s (Err (Bad f)) = malformed f.cause f.offset

-- what the judged bytes lead to: the operation is delivered, and all that is ready then is released; bytes that are no frame
-- change nothing
abbrev pub received : State → Result (OpData × ℕ) Refused → Reached
received s (Ok x) = taken_in All (from s) x.0
received s (Err r) = from s

-- the operation is delivered, and the first of what is ready then is released
abbrev pub IsHalfReceived : State → Result (OpData × ℕ) Refused → Reached → Type 0
IsHalfReceived s (Ok x) b = IsHalfSettled (with_delivered (from s) x.0) b
IsHalfReceived s (Err r) b = ⊥

-- a release is told by its verdict, and that there is none by a status of its own
abbrev pub IsReleased : ℕ → Option Released → CotpadVerdict → CotpadVerdict → Type 0
IsReleased n None old new = (n ≡ NONE) × (new ≡ old)
IsReleased n (Some r) old new = (n ≡ OK) × (new ≡ told (operation_told r.op) 0 r.verdict)
