-- A line that has something to do has a step; so a line without one is never cut short.
use Rattle.std.proofs.Common.{◌≡◌, ℕ, zero, suc, ◌+◌, ◌<◌, Bool, true, false, List, [], ◌∷◌, ◌++◌, length, sym, ap, subst, ◌∙◌, arith}
use Rattle.std.specs.Prelude.{Option, Some, None, Result, Ok, Err, OnErr, nat_lt, nat_le, if◌then◌else◌}
use Rattle.op_name.specs.declared.name.TheConstants.{SITES}
use Rattle.context_diff.specs.Operations.{OpData}
use Rattle.site_answers.specs.declared.local.Local.{Local}
use Rattle.cot_site.specs.Commands.{local_run}
use Rattle.wire_codec.specs.Judging.{judge}
use Rattle.wire_codec.specs.declared.fault.Refused.{Refused}
use Rattle.wire_codec.specs.declared.fault.Refused.TheVariants.{More, Bad}
use Rattle.wire_codec.specs.declared.version.Version.{Version}
use Rattle.script_text.specs.declared.report.refusal.Refusal.{Refusal}
use Rattle.script_text.specs.declared.report.refusal.Refusal.TheVariants.{NoSites, Twice, NoSite, NoMessage}
use Rattle.script_text.specs.declared.reading.line.Line.{Line}
use Rattle.session_replay.specs.declared.session.StepBad.{StepBad}
use Rattle.session_replay.specs.declared.session.StepBad.TheVariants.{Memory}
use Rattle.session_replay.specs.Steps.{Step, last_of}
use Rattle.session_replay.specs.Sessions.{SessionData, site_at, opened, given_all, synced}
use Rattle.session_replay.specs.LineSteps.{told, commanded, typed, typed_on, framed, framed_on, raw_steps, given_message, opening, once_started, steps_there, typed_in}
use Rattle.session_replay.specs.Answers.{IsDone, HasStep}
use Rattle.session_replay.specs.Code.Doing.{IsLineDone, as_step}

append_some : (es fs : List (Step SessionData)) → HasStep (Ok es) → HasStep (Ok (es ++ fs))
append_some [] fs none = absurd none
append_some (e ∷ es) fs some = tt

-- ---- what a line does

pub commanded_some : (i : ℕ) (r : Result OpData Local) (d : SessionData) → HasStep (Ok (commanded i r d))
commanded_some i (Ok o) d = tt
commanded_some i (Err why) d = tt

pub typed_some : (i v : ℕ) (ps : List (List ℕ)) (d : SessionData) → 0 < length ps → HasStep (Ok (typed i v ps d))
unfolding typed_in
typed_some i v [] d some = absurd (omega (arith, some))
typed_some i v (p ∷ ps) d some = from (local_run (site_at d i) v p)
  where
    from : (r : Result OpData Local) → HasStep (Ok (typed_on (typed i (v + length p) ps) i r d))
    from (Ok o) = tt
    from (Err why) = tt

pub given_all_some : (i : ℕ) (os : List OpData) (d : SessionData) → 0 < length os → HasStep (Ok (given_all i os d))
unfolding given_all
given_all_some i [] d some = absurd (omega (arith, some))
given_all_some i (o ∷ os) d some = tt

pub synced_some : (i n : ℕ) (d : SessionData) → 0 < n → 0 < length d.messages → HasStep (Ok (synced i n d))
unfolding synced
synced_some i zero d some messages = absurd (omega (arith, some))
synced_some i (suc n) d some messages =
    append_some (given_all i d.messages d) (synced (suc i) n (last_of d (given_all i d.messages d)))
    (given_all_some i d.messages d messages)

pub framed_some : (v : Version) (i : ℕ) (bytes : List ℕ) (d : SessionData) → 0 < length bytes → HasStep (Ok (raw_steps v i bytes d))
unfolding framed
framed_some v i [] d some = absurd (omega (arith, some))
framed_some v i (b ∷ bs) d some = from (judge v (b ∷ bs))
  where
    from : (r : Result (OpData × ℕ) Refused) → HasStep (Ok (framed_on (framed v (length bs) i) v i (b ∷ bs) r d))
    from (Ok p) = tt
    from (Err (More least)) = tt
    from (Err (Bad f)) = tt

-- ---- what a line answers

pub on_err : {T E : Type 0} {X : Type 0} (r : Result T E) → X → OnErr r X
on_err (Ok t) x = tt
on_err (Err e) x = x

pub sync_some : (d : SessionData) → nat_lt 0 (length d.sites) ≡ true → 0 < length d.messages
    → HasStep (once_started d (Ok (synced 0 (length d.sites) d)))
sync_some d started messages = from (length d.sites) started
  where
    from : (n : ℕ) → nat_lt 0 n ≡ true → HasStep (if nat_lt 0 n then Ok (synced 0 n d) else Err NoSites)
    from zero is = absurd cc
    from (suc n) is =
        subst (λ (b : Bool). HasStep (if b then Ok (synced 0 (suc n) d) else Err NoSites)) (sym is)
        (synced_some 0 (suc n) d (omega arith) messages)

pub needed_by : (line this : Line) (d : SessionData) → line ≡ this → HasStep (steps_there this d) → HasStep (steps_there line d)
needed_by line this d is some = subst (λ l. HasStep (steps_there l d)) (sym is) some

pub as_needed : {T E : Type 0} {X : Type 0} (r : Result T E) (q : Result T StepBad) → q ≡ as_step r → OnErr r X → q ≡ Err Memory → X
as_needed (Ok t) q is err memory = let both = sym is ∙ memory in absurd cc
as_needed (Err e) q is err memory = err

-- there was no memory for a line of bytes
pub raw_needed : (v : Version) (line this : Line) (i : ℕ) (bytes list : List ℕ) (d : SessionData) {T E : Type 0} (r : Result T E)
    (q : Result T StepBad) → line ≡ this → steps_there this d ≡ Ok (raw_steps v i bytes d) → list ≡ bytes → q ≡ as_step r
    → OnErr r (0 < length list) → q ≡ Err Memory → HasStep (steps_there line d)
raw_needed v line this i bytes list d r q is steps same step short memory =
    let some = as_needed r q step short memory in
    needed_by line this d is
    (subst HasStep (sym steps) (framed_some v i bytes d (omega (arith, some, ap (λ (xs : List ℕ). length xs) same))))

pub opening_needed : (n : ℕ) (d now : SessionData) (q : Result (Unit {0}) StepBad) → IsDone (opening n d) q d now → q ≡ Err Memory
    → HasStep (opening n d)
opening_needed n d now q done memory =
    from (nat_lt 0 (length d.sites)) (nat_le n SITES) (subst (λ x. IsDone (opening n d) x d now) memory done)
  where
    from : (a b : Bool) → IsDone {T = Unit {0}} (if a then Err Twice else if b then Ok (told [] (opened n)) else Err NoSite) (Err Memory) d
        now → HasStep (if a then Err Twice else if b then Ok (told [] (opened n)) else Err NoSite)
    from true b h = let same : ◌≡◌ {A = Option Refusal} None (Some Twice) = h.0 in absurd cc
    from false true h = tt
    from false false h = let same : ◌≡◌ {A = Option Refusal} None (Some NoSite) = h.0 in absurd cc

pub given_needed : (i : ℕ) (o : Option OpData) (d now : SessionData) (old new : List ℕ) (q : Result (Unit {0}) StepBad)
    → IsLineDone (given_message i o d) q d now old new → q ≡ Err Memory → HasStep (given_message i o d)
given_needed i None d now old new q done memory =
    let h = subst (λ x. IsLineDone (given_message i None d) x d now old new) memory done in
    let same : ◌≡◌ {A = Option Refusal} None (Some NoMessage) = h.0 in
    absurd cc
given_needed i (Some o) d now old new q done memory = tt
