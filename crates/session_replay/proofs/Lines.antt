-- What a line in memory answers.
use Rattle.std.proofs.Common.{◌≡◌, ℕ, ◌<◌, Bool, true, false, List, [], ◌++◌, refl, sym, ap, subst, ◌∙◌, length, take, append-nil, arith}
use Rattle.std.specs.Prelude.{Option, Some, None, IfSome, Result, Ok, Err, OnOk, OnErr, nat_lt, nat_le, if◌then◌else◌}
use Rattle.std.specs.Result.{is_err, is_ok}
use Rattle.std.proofs.Math.Seq.{take-append_seam}
use Rattle.std.proofs.lemmas.Bool.{true≢false, lt-ltb}
use Rattle.std.proofs.lemmas.Bool.Decides.{nat_tests}
use Rattle.op_name.specs.declared.name.TheConstants.{SITES}
use Rattle.cot_site.specs.States.{State as SiteState}
use Rattle.script_text.specs.declared.reading.line.Line.{Line}
use Rattle.script_text.specs.declared.reading.line.Line.TheVariants.{Blank, Sites}
use Rattle.script_text.specs.declared.report.refusal.Refusal.{Refusal}
use Rattle.script_text.specs.declared.report.refusal.Refusal.TheVariants as refusal
use Rattle.session_replay.specs.declared.session.StepBad.{StepBad}
use Rattle.session_replay.specs.declared.session.StepBad.TheVariants.{NoSites, NoSite, NoMessage, Twice, Memory}
use Rattle.script_text.specs.Lines.{line_site}
use Rattle.session_replay.specs.Steps.{Step, last_of, written_by}
use Rattle.session_replay.specs.Sessions.{SessionData, opened}
use Rattle.session_replay.specs.LineSteps.{line_steps, at_site_of, opening, steps_there, AreValues, told}
use Rattle.session_replay.specs.Answers.{IsDone}
use Rattle.session_replay.specs.Soundness.{IsSound, AreSettled}
use Rattle.session_replay.specs.Code.Doing.{IsPlace, AreDone, IsFront, IsLineDone, IsRefusedFor, as_step, cut_after}
use Rattle.session_replay.proofs.Every.{every_last, every_reached}
use Rattle.session_replay.proofs.LineLaws.{line_lasts}
use Rattle.session_replay.proofs.Steps.{none_reached, told_done, done_nothing, front_same, front_at}

-- the result of a call that gave no error
pub went_well : {T E : Type 0} (r : Result T E) → is_err r ≡ false → is_ok r ≡ true
went_well (Ok t) fine = refl
went_well (Err e) fine = absurd (true≢false fine)

-- ---- the site of a line

-- it is there
pub site_found : (o : Option ℕ) (i at : ℕ) (d : SessionData) (steps : Result (List (Step SessionData)) Refusal) → o ≡ Some i
    → IsPlace d i (Ok at) → at_site_of o d steps ≡ steps
site_found o i at d steps is place =
    let some : nat_lt 0 (length d.sites) ≡ true = lt-ltb 0 (length d.sites) (omega (arith, place.1)) in
    ap (λ x. at_site_of x d steps) is
    ∙ ap (λ b. if b then (if nat_lt i (length d.sites) then steps else Err refusal.NoSite) else Err refusal.NoSites) some
    ∙ ap (λ b. if b then steps else Err refusal.NoSite) (lt-ltb i (length d.sites) place.1)

pub site_within : (o : Option ℕ) (i at : ℕ) (d : SessionData) → o ≡ Some i → IsPlace d i (Ok at) → IfSome o (λ k. k < length d.sites)
site_within o i at d is place = subst (λ x. IfSome x (λ k. k < length d.sites)) (sym is) place.1

-- it isn't there
pub site_missing : (o : Option ℕ) (i : ℕ) (why : StepBad) (d : SessionData) (steps : Result (List (Step SessionData)) Refusal) → o ≡ Some i
    → IsPlace d i (Err why) → IsRefusedFor (at_site_of o d steps) why
site_missing o i NoSites d steps is none =
    let none_there : nat_lt 0 (length d.sites) ≡ false = ap (λ (xs : List SiteState). nat_lt 0 (length xs)) none in
    let refused : at_site_of o d steps ≡ Err refusal.NoSites =
    ap (λ x. at_site_of x d steps) is
    ∙ ap (λ b. if b then (if nat_lt i (length d.sites) then steps else Err refusal.NoSite) else Err refusal.NoSites) none_there in
    subst (λ r. IsRefusedFor r NoSites) (sym refused) refl
site_missing o i NoSite d steps is past =
    let some : nat_lt 0 (length d.sites) ≡ true = lt-ltb 0 (length d.sites) past.1 in
    let beyond : nat_lt i (length d.sites) ≡ false = grind (arith, nat_tests, past.0) in
    let refused : at_site_of o d steps ≡ Err refusal.NoSite =
    ap (λ x. at_site_of x d steps) is
    ∙ ap (λ b. if b then (if nat_lt i (length d.sites) then steps else Err refusal.NoSite) else Err refusal.NoSites) some
    ∙ ap (λ b. if b then steps else Err refusal.NoSite) beyond in
    subst (λ r. IsRefusedFor r NoSite) (sym refused) refl
site_missing o i Twice d steps is never = absurd never
site_missing o i NoMessage d steps is never = absurd never
site_missing o i Memory d steps is never = absurd never

-- a line that speaks of no site
pub site_none : (o : Option ℕ) (d : SessionData) (steps : Result (List (Step SessionData)) Refusal) → o ≡ None
    → at_site_of o d steps ≡ steps
site_none o d steps is = ap (λ x. at_site_of x d steps) is

-- the site of this line
pub site_is_within : (o : Option ℕ) (i n : ℕ) → o ≡ Some i → IfSome o (λ k. k < n) → i < n
site_is_within o i n is within = subst (λ x. IfSome x (λ k. k < n)) is within

-- ---- the whole line

-- at a site that is there
pub line_there : {T : Type 0} (l : Line) (q : Result T StepBad) (d now : SessionData) (old new : List ℕ)
    → at_site_of (line_site l) d (steps_there l d) ≡ steps_there l d → IsLineDone (steps_there l d) q d now old new
    → IsLineDone (line_steps l d) q d now old new
line_there l q d now old new same h = subst (λ r. IsLineDone r q d now old new) (sym same) h

-- at a site that isn't
pub line_missing : {T : Type 0} (l : Line) (q : Result T StepBad) (why : StepBad) (d : SessionData) (old : List ℕ)
    → IsRefusedFor (at_site_of (line_site l) d (steps_there l d)) why → q ≡ Err why → IsLineDone (line_steps l d) q d d old old
line_missing {T} l q why d old missing is = subst (λ x. IsLineDone (line_steps l d) x d d old old) (sym is) (from (line_steps l d) missing)
  where
    from : (r : Result (List (Step SessionData)) Refusal) → IsRefusedFor r why → IsLineDone {T = T} r (Err why) d d old old
    from (Ok es) h = absurd h
    from (Err cause) h = (h, refl, refl)

-- a line leaves a sound session
pub line_sound : {T : Type 0} (l : Line) (q : Result T StepBad) (d now : SessionData) (old new : List ℕ) → AreValues l → IsSound d
    → IsLineDone (line_steps l d) q d now old new → IsSound now
line_sound {T} l q d now old new values sound done = from (line_steps l d) refl q done
  where
    from : (r : Result (List (Step SessionData)) Refusal) → line_steps l d ≡ r → (q : Result T StepBad) → IsLineDone r q d now old new
        → IsSound now
    from (Ok es) is (Ok t) h = subst IsSound (sym h.0) (every_last IsSound d es sound (line_lasts l d es sound values is).all)
    from (Ok es) is (Err why) h = every_reached IsSound d now es sound (line_lasts l d es sound values is).all h.1
    from (Err why) is (Ok t) h = absurd h
    from (Err why) is (Err cause) h = subst IsSound (sym h.1) sound

-- and a settled one, if it is done or refused
pub line_settled : {T : Type 0} (l : Line) (q : Result T StepBad) (d now : SessionData) (old new : List ℕ) → AreValues l → IsSound d
    → AreSettled d → ¬ (q ≡ Err Memory) → IsLineDone (line_steps l d) q d now old new → AreSettled now
line_settled {T} l q d now old new values sound settled other done = from (line_steps l d) refl q other done
  where
    from : (r : Result (List (Step SessionData)) Refusal) → line_steps l d ≡ r → (q : Result T StepBad) → ¬ (q ≡ Err Memory)
        → IsLineDone r q d now old new → AreSettled now
    from (Ok es) is (Ok t) other h = subst AreSettled (sym h.0) ((line_lasts l d es sound values is).settles settled)
    from (Ok es) is (Err why) other h = absurd (other (ap (λ x. Err x) h.0))
    from (Err why) is (Ok t) other h = absurd h
    from (Err why) is (Err cause) other h = subst AreSettled (sym h.1) settled

-- ---- lines that were cut short

pub cut_memory : (cut : Bool) (why : StepBad) → why ≡ Memory → cut_after cut why ≡ true
cut_memory cut why is = ap (cut_after cut) is

pub cut_other : (cut : Bool) (why : StepBad) → ¬ (why ≡ Memory) → cut_after cut why ≡ cut
cut_other cut NoSites other = refl
cut_other cut Twice other = refl
cut_other cut NoSite other = refl
cut_other cut NoMessage other = refl
cut_other cut Memory other = absurd (other refl)

pub uncut_memory : (cut : Bool) (why : StepBad) → cut_after cut why ≡ false → (cut ≡ false) × ¬ (why ≡ Memory)
uncut_memory cut NoSites uncut = (uncut, λ e. absurd cc)
uncut_memory cut Twice uncut = (uncut, λ e. absurd cc)
uncut_memory cut NoSite uncut = (uncut, λ e. absurd cc)
uncut_memory cut NoMessage uncut = (uncut, λ e. absurd cc)
uncut_memory cut Memory uncut = absurd (true≢false uncut)

-- what was written before a line that isn't done is there
pub line_front : {T : Type 0} (l : Line) (q : Result T StepBad) (why : StepBad) (d now : SessionData) (old new : List ℕ) → q ≡ Err why
    → IsLineDone (line_steps l d) q d now old new → IsFront old new
line_front {T} l q why d now old new is done = from (line_steps l d) (subst (λ x. IsLineDone (line_steps l d) x d now old new) is done)
  where
    from : (r : Result (List (Step SessionData)) Refusal) → IsLineDone {T = T} r (Err why) d now old new → IsFront old new
    from (Ok es) h = h.2
    from (Err cause) h = front_at old new h.2

-- bytes cut back to those that were there
pub front_cut : (old new : List ℕ) (n : ℕ) → IsFront old new → n ≡ length old → take n new ≡ old
front_cut old new n front is = ap (λ k. take k new) is ∙ ap (take (length old)) front.parts ∙ take-append_seam old front.more

-- ---- answers of lines

pub line_from_done : {T E : Type 0} (r : Result T E) (es : List (Step SessionData)) (d now : SessionData) (old new : List ℕ)
    → AreDone r es d now old new → IsLineDone (Ok es) (as_step r) d now old new
line_from_done (Ok t) es d now old new h = h
line_from_done (Err e) es d now old new h = (refl, h.0, h.1)

-- the steps of a line that is this one
pub line_is : {T : Type 0} (line this : Line) (q : Result T StepBad) (d now : SessionData) (old new : List ℕ) → line ≡ this
    → IsLineDone (steps_there this d) q d now old new → IsLineDone (steps_there line d) q d now old new
line_is line this q d now old new is h = subst (λ l. IsLineDone (steps_there l d) q d now old new) (sym is) h

-- a line that is told
told_line : {T E : Type 0} (r : Result T E) (w : List ℕ) (d : SessionData) (old new : List ℕ) → OnOk r (new ≡ old ++ w)
    → OnErr r (new ≡ old) → AreDone r (told w d) d d old new
told_line (Ok t) w d old new ok err = told_done d d w old new refl ok
told_line (Err e) w d old new ok err = done_nothing (told w d) d d old new refl err

-- a line with these steps
pub steps_answer : {T E : Type 0} (line this : Line) (r : Result T E) (q : Result T StepBad) (es : List (Step SessionData))
    (d now : SessionData) (old new : List ℕ)
    → line ≡ this → steps_there this d ≡ Ok es → q ≡ as_step r → AreDone r es d now old new
    → IsLineDone (steps_there line d) q d now old new
steps_answer line this r q es d now old new is steps also done =
    subst (λ x. IsLineDone x q d now old new) (sym (ap (λ l. steps_there l d) is ∙ steps))
    (subst (λ x. IsLineDone (Ok es) x d now old new) (sym also) (line_from_done r es d now old new done))

pub told_answer : {T E : Type 0} (line this : Line) (r : Result T E) (q : Result T StepBad) (w : List ℕ) (d : SessionData)
    (old new : List ℕ)
    → line ≡ this → steps_there this d ≡ Ok (told w d) → q ≡ as_step r → OnOk r (new ≡ old ++ w) → OnErr r (new ≡ old)
    → IsLineDone (steps_there line d) q d d old new
told_answer line this r q w d old new is steps also ok err =
    steps_answer line this r q (told w d) d d old new is steps also (told_line r w d old new ok err)

pub blank_answer : (line : Line) (d : SessionData) (old : List ℕ) → line ≡ Blank
    → IsLineDone {T = Unit {0}} (steps_there line d) (Ok tt) d d old old
unfolding last_of written_by
blank_answer line d old is = line_is line Blank (Ok tt) d d old old is (refl, sym (append-nil old))

-- ---- the making of sites

pub opening_steps : (n : ℕ) (d : SessionData) → nat_lt 0 (length d.sites) ≡ false → nat_le n SITES ≡ true
    → opening n d ≡ Ok (told [] (opened n))
opening_steps n d none few =
    ap (λ b. if b then Err refusal.Twice else if nat_le n SITES then Ok (told [] (opened n)) else Err refusal.NoSite) none
    ∙ ap (λ b. if b then Ok (told [] (opened n)) else Err refusal.NoSite) few

pub sites_made : (steps : Result (List (Step SessionData)) Refusal) (n : ℕ) (d now : SessionData) → steps ≡ Ok (told [] (opened n))
    → now ≡ opened n → IsDone {T = Unit {0}} steps (Ok tt) d now
unfolding last_of
sites_made steps n d now is at = subst (λ r. IsDone {T = Unit {0}} r (Ok tt) d now) (sym is) at

pub sites_short : (steps : Result (List (Step SessionData)) Refusal) (es : List (Step SessionData)) (d : SessionData) → steps ≡ Ok es
    → IsDone {T = Unit {0}} steps (Err Memory) d d
sites_short steps es d is = subst (λ r. IsDone {T = Unit {0}} r (Err Memory) d d) (sym is) (refl, none_reached d es)

-- steps that write nothing
quiet_answer : (steps : Result (List (Step SessionData)) Refusal) (q : Result (Unit {0}) StepBad) (d now : SessionData) (old : List ℕ)
    → ((es : List (Step SessionData)) → steps ≡ Ok es → written_by es ≡ []) → IsDone steps q d now → IsLineDone steps q d now old old
quiet_answer (Ok es) (Ok t) d now old quiet h = (h, sym (ap (λ w. old ++ w) (quiet es refl) ∙ append-nil old))
quiet_answer (Ok es) (Err why) d now old quiet h = (h.0, h.1, front_same old)
quiet_answer (Err why) (Ok t) d now old quiet h = h
quiet_answer (Err why) (Err cause) d now old quiet h = (h.0, h.1, refl)

sites_quiet : (a b : Bool) (n : ℕ) (es : List (Step SessionData))
    → ◌≡◌ {A = Result (List (Step SessionData)) Refusal}
    (if a then Err refusal.Twice else if b then Ok (told [] (opened n)) else Err refusal.NoSite) (Ok es) → written_by es ≡ []
unfolding written_by
sites_quiet true b n es e = absurd cc
sites_quiet false true n es e = let same : told [] (opened n) ≡ es = cc in ap (λ (xs : List (Step SessionData)). written_by xs) (sym same)
sites_quiet false false n es e = absurd cc

pub sites_answer : (line : Line) (n : ℕ) (q : Result (Unit {0}) StepBad) (d now : SessionData) (old : List ℕ) → line ≡ Sites n
    → IsDone (opening n d) q d now → IsLineDone (steps_there line d) q d now old old
sites_answer line n q d now old is h =
    line_is line (Sites n) q d now old old is
    (quiet_answer (opening n d) q d now old (λ es e. sites_quiet (nat_lt 0 (length d.sites)) (nat_le n SITES) n es e) h)
