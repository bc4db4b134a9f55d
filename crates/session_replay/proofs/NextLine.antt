-- Out of memory comes only where the next line of a script has a step or is refused.
use Rattle.std.proofs.Common.{◌≡◌, ℕ, Bool, true, false, List, [], ◌∷◌, refl, sym, ap, subst, ◌∙◌, length}
use Rattle.std.specs.Prelude.{Option, Some, None, IsSomeAnd, Result, Ok, Err, OnErr, nat_lt, if◌then◌else◌}
use Rattle.script_text.specs.declared.reading.line.Line.{Line}
use Rattle.script_text.specs.declared.reading.line.Line.TheVariants.{Ins, Run, Raw, Raw2}
use Rattle.script_text.specs.declared.reading.line.LineBad.{LineBad}
use Rattle.script_text.specs.declared.reading.line.LineBad.TheVariants as reading
use Rattle.script_text.specs.declared.report.refusal.Refusal.{Refusal}
use Rattle.script_text.specs.declared.report.refusal.Refusal.TheVariants as refusal
use Rattle.script_text.specs.Lines.{HasContent, IsInRange}
use Rattle.script_text.specs.LeftLines.{LeftLine, InputData}
use Rattle.script_text.specs.Streams.{IsNext, Reads, TakesLine}
use Rattle.script_text.specs.Answers.{line_in}
use Rattle.script_text.proofs.CallerLemmas.{line_found}
use Rattle.participant.specs.Runs.{letters, pieces}
use Rattle.wire_codec.specs.declared.version.Version.TheVariants.{One, Two}
use Rattle.session_replay.specs.declared.session.StepBad.{StepBad}
use Rattle.session_replay.specs.declared.session.StepBad.TheVariants.{Memory}
use Rattle.session_replay.specs.Steps.{Step}
use Rattle.session_replay.specs.Sessions.{SessionData}
use Rattle.session_replay.specs.LineSteps.{at_site_of, line_steps, typed, raw_steps}
use Rattle.session_replay.specs.Answers.{IsDone, HasStep, unread_by}
use Rattle.session_replay.specs.Scripts.{Whole, Past, steps_of_read, piece_steps}
use Rattle.session_replay.specs.Readers.{DoesSomething, NextDoesSomething}
use Rattle.session_replay.proofs.PiecesLaws.{line_is, line_unread}
use Rattle.session_replay.proofs.Needed.{typed_some, framed_some}
use Rattle.session_replay.proofs.Typing.{letters_some, pieces_some}

pub err_from : {T E X Y : Type 0} (r : Result T E) → (X → Y) → OnErr r X → OnErr r Y
err_from (Ok t) f h = tt
err_from (Err e) f h = f h

step_does : (r : Result (List (Step SessionData)) Refusal) → HasStep r → DoesSomething r
step_does (Ok []) some = some
step_does (Ok (e ∷ es)) some = tt
step_does (Err why) some = absurd some

-- a line that wasn't done
pub undone_does : {T : Type 0} (r : Result (List (Step SessionData)) Refusal) (q : Result T StepBad) (why : StepBad) (d now : SessionData)
    → q ≡ Err why → IsDone r q d now → (q ≡ Err Memory → HasStep r) → DoesSomething r
undone_does {T} (Ok es) q why d now is done needed =
    let h = subst (λ (x : Result T StepBad). IsDone (Ok es) x d now) is done in
    step_does (Ok es) (needed (is ∙ ap (λ (y : StepBad). Err y) h.0))
undone_does {T} (Err cause) q why d now is done needed = tt

-- ---- lines with a text or bytes

at_site_does : (i : ℕ) (d : SessionData) (r : Result (List (Step SessionData)) Refusal) → DoesSomething r
    → DoesSomething (at_site_of (Some i) d r)
at_site_does i d r some = of (nat_lt 0 (length d.sites)) (nat_lt i (length d.sites))
  where
    of : (a b : Bool) → DoesSomething (if a then if b then r else Err refusal.NoSite else Err refusal.NoSites)
    of true true = some
    of true false = tt
    of false b = tt

content_does : (line : Line) (d : SessionData) → HasContent line → IsInRange line → DoesSomething (line_steps line d)
content_does (Ins i v text) d content range =
    at_site_does i d (Ok (typed i v (letters text) d))
    (step_does (Ok (typed i v (letters text) d)) (typed_some i v (letters text) d (letters_some text range.2)))
content_does (Run i v text) d content range =
    at_site_does i d (Ok (typed i v (pieces text) d))
    (step_does (Ok (typed i v (pieces text) d)) (typed_some i v (pieces text) d (pieces_some text range.2)))
content_does (Raw i bytes) d content range =
    at_site_does i d (Ok (raw_steps One i bytes d)) (step_does (Ok (raw_steps One i bytes d)) (framed_some One i bytes d range.1))
content_does (Raw2 i bytes) d content range =
    at_site_does i d (Ok (raw_steps Two i bytes d)) (step_does (Ok (raw_steps Two i bytes d)) (framed_some Two i bytes d range.1))
content_does line d content range = absurd content

-- ---- the next line

next_whole : (i : InputData) (l : LeftLine) (rest : List LeftLine) (d : SessionData) → IsNext i l rest
    → DoesSomething (piece_steps (Whole l.bytes) d) → NextDoesSomething i d
next_whole i l rest d next some = record { piece = Whole l.bytes; next = (l, rest, next, refl); something = some }

-- it was read
pub read_does : (i : InputData) (line : Line) (d : SessionData) → Reads i (Ok line) → DoesSomething (line_steps line d)
    → NextDoesSomething i d
read_does i line d r some =
    next_whole i r.line r.rest d r.next
    (subst (λ (x : Result Line Refusal). DoesSomething (steps_of_read x d)) (sym (line_is r.line.bytes line r.read)) some)

-- it can't be read
refused_does : (i : InputData) (why : LineBad) (cause : Refusal) (d : SessionData) → unread_by why ≡ Some cause → Reads i (Err why)
    → NextDoesSomething i d
refused_does i why cause d is r =
    next_whole i r.line r.rest d r.next
    (subst (λ (x : Result Line Refusal). DoesSomething (steps_of_read x d)) (sym (line_unread r.line.bytes why cause is r.read)) tt)

-- there was no memory for what it has
kept_does : (i : InputData) (d : SessionData) → Reads i (Err reading.Memory) → NextDoesSomething i d
kept_does i d r = of (line_in r.line.bytes) refl r.read.1
  where
    of : (o : Option Line) → line_in r.line.bytes ≡ o → IsSomeAnd o HasContent → NextDoesSomething i d
    of None e content = absurd content
    of (Some line) e content =
        read_does i line d (record { line = r.line; rest = r.rest; next = r.next; read = (r.read.0, e) })
        (content_does line d content (line_found r.line.bytes line e).1)

pub unread_does : (i new : InputData) (why : LineBad) (d : SessionData) → TakesLine i (Err why) new → NextDoesSomething i d
unread_does i new reading.Limit d takes = record { piece = Past; next = takes.0; something = tt }
unread_does i new reading.Long d takes = refused_does i reading.Long refusal.Long d refl takes.0
unread_does i new reading.Utf8 d takes = refused_does i reading.Utf8 refusal.Utf8 d refl takes.0
unread_does i new reading.Form d takes = refused_does i reading.Form refusal.Form d refl takes.0
unread_does i new reading.Memory d takes = kept_does i d takes.1
