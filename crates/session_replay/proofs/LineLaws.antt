-- Lines: what each does keeps sessions sound and ends settled.
use Rattle.std.proofs.Common.{◌≡◌, ℕ, zero, suc, ◌+◌, ◌<◌, ◌≤◌, Bool, true, false, inl, inr, List, [], ◌∷◌, ◌++◌, length, Result, Ok, Err, refl, ap, sym, subst, ◌∙◌, arith}
use Rattle.std.specs.Prelude.{Contains, Option, Some, None, IfSome, slice_get, drop, nat_lt, nat_le, if◌then◌else◌}
use Rattle.std.proofs.lemmas.Bool.{cases_Bool, ltb-true, leb-true}
use Rattle.op_name.specs.declared.name.TheConstants.{SITES}
use Rattle.context_diff.specs.Operations.{OpData, IsLetters, IsWellFormed}
use Rattle.context_diff.specs.Histories.{IsNext, IsValid}
use Rattle.context_diff.proofs.CallerLemmas.{contains_cases, contains_here, contains_later, contains_none}
use Rattle.cot_site.specs.States.{State}
use Rattle.cot_site.proofs.CallerLemmas.{settled_none, local_run_next, local_delete_next, local_undo_next, local_redo_next, formed_at}
use Rattle.cot_site.specs.Sites.{AllFormed}
use Rattle.cot_site.specs.Commands.{local_run, local_delete, local_undo, local_redo}
use Rattle.site_answers.specs.declared.local.Local.{Local}
use Rattle.wire_codec.specs.Judging.{judge}
use Rattle.wire_codec.specs.declared.fault.Refused.{Refused}
use Rattle.wire_codec.specs.declared.fault.Refused.TheVariants.{More, Bad}
use Rattle.wire_codec.specs.declared.version.Version.{Version}
use Rattle.wire_codec.specs.declared.version.Version.TheVariants.{One, Two}
use Rattle.wire_codec.proofs.CallerLemmas.{IsBytes, IsBytes-drop, judge_takes}
use Rattle.script_text.specs.Verdicts.{local_text}
use Rattle.script_text.specs.declared.reading.line.Line.{Line}
use Rattle.script_text.specs.declared.reading.line.Line.TheVariants as line
use Rattle.script_text.specs.declared.report.refusal.Refusal.{Refusal}
use Rattle.script_text.specs.declared.report.refusal.Refusal.TheVariants.{NoSites, Twice, NoSite, NoMessage}
use Rattle.script_text.specs.Lines.{line_site}
use Rattle.session_replay.specs.Steps.{Step, last_of}
use Rattle.session_replay.specs.Sessions.{SessionData, site_at, new_site, new_sites, opened, made, given, given_all, synced}
use Rattle.session_replay.specs.LineSteps.{told, commanded, typed, typed_in, typed_on, framed, framed_on, raw_word, raw_steps, given_message, once_started, at_site_of, opening, steps_there, line_steps, AreValues, show_text, have_text}
use Rattle.participant.specs.Runs.{letters, pieces}
use Rattle.session_replay.specs.Events.{Opening}
use Rattle.session_replay.specs.Soundness.{IsSound, AreSettled}
use Rattle.session_replay.proofs.Every.{Every, every_map}
use Rattle.session_replay.proofs.Telling.{no_release}
use Rattle.session_replay.proofs.Typing.{AreLetters, letters_are, pieces_are}
use Rattle.session_replay.proofs.Sound.{Good, Kept, Eventful, AreQuiet, quiet_none, quiet_told, eventless, one_event, good_none, good_told, good_made, good_given, good_then, good_last, site_sound}

-- ---- local commands

good_command : (i : ℕ) (r : Result OpData Local) (d : SessionData) → IsSound d → i < length d.sites
    → ((o : OpData) → r ≡ Ok o → IsNext (site_at d i).history o) → Good d (commanded i r d)
good_command i (Ok o) d sound within next = good_made d i o sound within (next o refl)
good_command i (Err why) d sound within next = good_told (local_text why) d sound refl refl

-- what follows is good from each sound session with so many sites
abbrev GoodNext : ℕ → (SessionData → List (Step SessionData)) → Type 0
GoodNext n next = (d : SessionData) → Kept n d → Good d (next d)

on_last : (d : SessionData) (es : List (Step SessionData)) (next : SessionData → List (Step SessionData)) → IsSound d → Good d es
    → GoodNext (length d.sites) next → Good d (es ++ next (last_of d es))
on_last d es next sound good rest = good_then d es (next (last_of d es)) sound good (rest (last_of d es) (good_last d es sound good))

good_typed_on : (next : SessionData → List (Step SessionData)) (i : ℕ) (r : Result OpData Local) (d : SessionData) → IsSound d
    → i < length d.sites → ((o : OpData) → r ≡ Ok o → IsNext (site_at d i).history o) → GoodNext (length d.sites) next
    → Good d (typed_on next i r d)
good_typed_on next i (Ok o) d sound within is rest = on_last d (made i o d) next sound (good_made d i o sound within (is o refl)) rest
good_typed_on next i (Err why) d sound within is rest = good_told (local_text why) d sound refl refl

pub inserted_next : (d : SessionData) (i v : ℕ) (text : List ℕ) → IsSound d → i < length d.sites → IsLetters text → (o : OpData)
    → local_run (site_at d i) v text ≡ Ok o → IsNext (site_at d i).history o
inserted_next d i v text sound within letters o is =
    let fine = site_sound d i sound within in
    local_run_next (site_at d i) fine.history fine.number o v text letters is

good_typed : (ps : List (List ℕ)) → AreLetters ps → (n i v : ℕ) → i < n → GoodNext n (typed i v ps)
unfolding typed_in
good_typed [] letters n i v within d kept = good_none d
good_typed (p ∷ ps) letters n i v within d kept =
    let here : i < length d.sites = subst (λ k. i < k) (sym kept.sites) within in
    good_typed_on (typed i (v + length p) ps) i (local_run (site_at d i) v p) d kept.sound here
    (inserted_next d i v p kept.sound here letters.0)
    (subst (λ k. GoodNext k (typed i (v + length p) ps)) (sym kept.sites) (good_typed ps letters.1 n i (v + length p) within))

-- ---- deliveries

good_all : (os : List OpData) → AllFormed os → (n i : ℕ) → i < n → GoodNext n (given_all i os)
unfolding given_all
good_all [] formed n i within d kept = good_none d
good_all (o ∷ os) formed n i within d kept =
    let here : i < length d.sites = subst (λ k. i < k) (sym kept.sites) within in
    on_last d (given true i o d) (given_all i os) kept.sound (good_given true d i o kept.sound here (formed o (contains_here o os)))
    (subst (λ k. GoodNext k (given_all i os)) (sym kept.sites) (good_all os (λ x at. formed x (contains_later o os x at)) n i within))

good_synced : (m n i : ℕ) → i + m ≤ n → GoodNext n (synced i m)
unfolding synced
good_synced zero n i within d kept = good_none d
good_synced (suc m) n i within d kept =
    on_last d (given_all i d.messages d) (synced (suc i) m) kept.sound
    (good_all d.messages kept.sound.messages n i (omega (arith, within)) d kept)
    (subst (λ k. GoodNext k (synced (suc i) m)) (sym kept.sites) (good_synced m n (suc i) (omega (arith, within))))

-- what is told of bytes that begin with no frame
good_refused : (v : Version) (w : List ℕ) (d : SessionData) → IsSound d → Good d (told (raw_word v ++ 32 ∷ w) d)
good_refused One w d sound = good_told (raw_word One ++ 32 ∷ w) d sound refl refl
good_refused Two w d sound = good_told (raw_word Two ++ 32 ∷ w) d sound refl refl

good_framed_on : (next : List ℕ → SessionData → List (Step SessionData)) (v : Version) (i : ℕ) (bytes : List ℕ)
    (r : Result (OpData × ℕ) Refused) (d : SessionData) → IsSound d → i < length d.sites
    → ((o : OpData) (used : ℕ) → r ≡ Ok (o, used) → IsWellFormed o)
    → ((k : ℕ) → GoodNext (length d.sites) (next (drop k bytes))) → Good d (framed_on next v i bytes r d)
good_framed_on next v i bytes (Ok p) d sound within formed rest =
    on_last d (given false i p.0 d) (next (drop p.1 bytes)) sound (good_given false d i p.0 sound within (formed p.0 p.1 refl)) (rest p.1)
good_framed_on next v i bytes (Err (More least)) d sound within formed rest = good_refused v _ d sound
good_framed_on next v i bytes (Err (Bad f)) d sound within formed rest = good_refused v _ d sound

good_framed : (v : Version) (m : ℕ) (bytes : List ℕ) → IsBytes bytes → (n i : ℕ) → i < n → GoodNext n (framed v m i bytes)
unfolding framed
good_framed v m [] are n i within d kept = good_none d
good_framed v zero (b ∷ bytes) are n i within d kept = good_none d
good_framed v (suc m) (b ∷ bytes) are n i within d kept =
    let here : i < length d.sites = subst (λ k. i < k) (sym kept.sites) within in
    good_framed_on (framed v m i) v i (b ∷ bytes) (judge v (b ∷ bytes)) d kept.sound here
    (λ o used is. (judge_takes v (b ∷ bytes) o used are is).well)
    (λ k. subst (λ l. GoodNext l (framed v m i (drop k (b ∷ bytes)))) (sym kept.sites)
    (good_framed v m (drop k (b ∷ bytes)) (IsBytes-drop k (b ∷ bytes) are) n i within))

-- ---- the first sites

-- a site that has nothing yet, of a number below this
record Fresh (n : ℕ) (s : State) : Type 0 where
  number : s.number < n
  history : s.history ≡ []
  waiting : s.waiting ≡ []

fresh_sites : (n i m : ℕ) → i + n ≤ m → (s : State) → Contains (new_sites i n) s → Fresh m s
unfolding new_sites
fresh_sites zero i m few s at = absurd (contains_none s at)
fresh_sites (suc n) i m few s at =
    elim (contains_cases (new_site i) (new_sites (suc i) n) s at) [
      | inl same ↦ subst (Fresh m) same (record { number = omega (arith, few); history = refl; waiting = refl })
      | inr later ↦ fresh_sites n (suc i) m (omega (arith, few)) s later
    ]

opened_sound : (n : ℕ) → n ≤ SITES → IsSound (opened n)
opened_sound n few = record {
  sites = λ s at.
      let fresh = fresh_sites n 0 SITES (omega (arith, few)) s at in
      record {
        number = fresh.number;
        history = subst IsValid (sym fresh.history) tt;
        waiting = subst AllFormed (sym fresh.waiting) (λ o there. absurd (contains_none o there));
      };
  messages = λ o at. absurd (contains_none o at);
}

opened_settled : (n : ℕ) → n ≤ SITES → AreSettled (opened n)
opened_settled n few s at =
    (settled_none s).1 (λ o there. absurd
    (contains_none o (subst (λ w. Contains w o) (fresh_sites n 0 SITES (omega (arith, few)) s at).waiting there)))

-- ---- lines

-- each step leaves a sound session, and from a settled session on the last one is settled
pub record Lasting (d : SessionData) (es : List (Step SessionData)) : Type 0 where
  pub all : Every IsSound es
  pub settles : AreSettled d → AreSettled (last_of d es)
  pub events : Eventful d es
  pub quiet : AreQuiet es

from_good : (d : SessionData) (es : List (Step SessionData)) → Good d es → Lasting d es
from_good d es good =
    record {
      all = every_map (Kept (length d.sites)) IsSound (λ s kept. kept.sound) es good.all;
      settles = good.settles;
      events =
          good.events;
      quiet = good.quiet;
    }

nothing_lasts : (d : SessionData) → Lasting d []
unfolding last_of
nothing_lasts d = record { all = tt; settles = λ s. s; events = eventless d; quiet = quiet_none }

ok_steps : (es fs : List (Step SessionData)) → ◌≡◌ {A = Result (List (Step SessionData)) Refusal} (Ok es) (Ok fs) → es ≡ fs
ok_steps es fs e = cc

err_steps : (why : Refusal) (fs : List (Step SessionData)) → ◌≡◌ {A = Result (List (Step SessionData)) Refusal} (Err why) (Ok fs) → ⊥
err_steps why fs e = cc

-- these steps are good
good_lasts : (d : SessionData) (fs es : List (Step SessionData)) → ◌≡◌ {A = Result (List (Step SessionData)) Refusal} (Ok fs) (Ok es)
    → Good d fs → Lasting d es
good_lasts d fs es is good = subst (Lasting d) (ok_steps fs es is) (from_good d fs good)

-- steps of a started session
started_ok : (d : SessionData) (r : Result (List (Step SessionData)) Refusal) (es : List (Step SessionData)) → once_started d r ≡ Ok es
    → r ≡ Ok es
started_ok d r es is =
    elim (cases_Bool (nat_lt 0 (length d.sites))) [
      | inl some ↦ sym (ap (λ (b : Bool). if b then r else Err NoSites) some) ∙ is
      | inr none ↦ absurd (err_steps NoSites es (sym (ap (λ (b : Bool). if b then r else Err NoSites) none) ∙ is))
    ]

-- steps at a site that is there, if they speak of one
pub site_there : (o : Option ℕ) (d : SessionData) (r : Result (List (Step SessionData)) Refusal) (es : List (Step SessionData))
    → at_site_of o d r ≡ Ok es → IfSome o (λ i. i < length d.sites) × (r ≡ Ok es)
site_there None d r es is = (tt, is)
site_there (Some i) d r es is =
    let inner = started_ok d (if nat_lt i (length d.sites) then r else Err NoSite) es is in
    elim (cases_Bool (nat_lt i (length d.sites))) [
      | inl less ↦ (ltb-true i (length d.sites) less, sym (ap (λ (b : Bool). if b then r else Err NoSite) less) ∙ inner)
      | inr not ↦ absurd (err_steps NoSite es (sym (ap (λ (b : Bool). if b then r else Err NoSite) not) ∙ inner))
    ]

-- the sites that were just made
opened_lasts : (n : ℕ) (d : SessionData) → n ≤ SITES → Lasting d (told [] (opened n))
unfolding last_of
opened_lasts n d few = record {
  all = (opened_sound n few, tt);
  settles = λ s. opened_settled n few;
  events = one_event d (Opening n) (opened_sound n few) tt (λ s. opened_settled n few);
  quiet = quiet_told [] (opened n) (no_release [] refl);
}

opening_lasts : (n : ℕ) (d : SessionData) (es : List (Step SessionData)) → opening n d ≡ Ok es → Lasting d es
opening_lasts n d es is =
    elim (cases_Bool (nat_lt 0 (length d.sites))) [
      | inl some ↦ absurd (err_steps Twice es
          (sym (ap (λ (b : Bool). if b then Err Twice else if nat_le n SITES then Ok (told [] (opened n)) else Err NoSite) some) ∙ is))
      | inr none ↦ first (sym (ap (λ (b : Bool). if b then Err Twice else if nat_le n SITES then Ok (told [] (opened n)) else Err NoSite)
          none) ∙ is)
    ]
  where
    first : (if nat_le n SITES then Ok (told [] (opened n)) else Err NoSite) ≡ Ok es → Lasting d es
    first same =
        elim (cases_Bool (nat_le n SITES)) [
          | inl few ↦
              subst (Lasting d) (ok_steps (told [] (opened n)) es
              (sym (ap (λ (b : Bool). if b then Ok (told [] (opened n)) else Err NoSite) few) ∙ same))
              (opened_lasts n d (leb-true n SITES few))
          | inr many ↦ absurd (err_steps NoSite es (sym (ap (λ (b : Bool). if b then Ok (told [] (opened n)) else Err NoSite) many) ∙ same))
        ]

good_message : (i m : ℕ) (d : SessionData) (es : List (Step SessionData)) → IsSound d → i < length d.sites
    → given_message i (slice_get d.messages m) d ≡ Ok es → Lasting d es
good_message i m d es sound within is = from (slice_get d.messages m) refl is
  where
    from : (r : Option OpData) → slice_get d.messages m ≡ r → given_message i r d ≡ Ok es → Lasting d es
    from None none e = absurd (err_steps NoMessage es e)
    from (Some o) some e =
        good_lasts d (given false i o d) es e (good_given false d i o sound within (formed_at d.messages m o sound.messages some))

-- a line of bytes
raw_lasts : (v : Version) (i : ℕ) (bytes : List ℕ) (d : SessionData) (es : List (Step SessionData)) → IsSound d → IsBytes bytes
    → i < length d.sites → ◌≡◌ {A = Result (List (Step SessionData)) Refusal} (Ok (raw_steps v i bytes d)) (Ok es) → Lasting d es
raw_lasts v i bytes d es sound are within is =
    good_lasts d (raw_steps v i bytes d) es is
    (good_framed v (length bytes) bytes are (length d.sites) i within d (record { sound = sound; sites = refl }))

there_lasts : (l : Line) (d : SessionData) (es : List (Step SessionData)) → IsSound d → AreValues l
    → IfSome (line_site l) (λ i. i < length d.sites) → steps_there l d ≡ Ok es → Lasting d es
there_lasts line.Blank d es sound values within is = subst (Lasting d) (ok_steps [] es is) (nothing_lasts d)
there_lasts (line.Sites n) d es sound values within is = opening_lasts n d es is
there_lasts (line.Ins i v text) d es sound values within is =
    good_lasts d (typed i v (letters text) d) es is
    (good_typed (letters text) (letters_are text values) (length d.sites) i v within d (record { sound = sound; sites = refl }))
there_lasts (line.Run i v text) d es sound values within is =
    good_lasts d (typed i v (pieces text) d) es is
    (good_typed (pieces text) (pieces_are text values) (length d.sites) i v within d (record { sound = sound; sites = refl }))
there_lasts (line.Nl i v) d es sound values within is =
    let line_feed : IsLetters (10 ∷ []) = record { some = omega arith; most = omega arith; scalars = refl } in
    good_lasts d (commanded i (local_run (site_at d i) v (10 ∷ [])) d) es is
    (good_command i (local_run (site_at d i) v (10 ∷ [])) d sound within (inserted_next d i v (10 ∷ []) sound within line_feed))
there_lasts (line.Del i v) d es sound values within is =
    let fine = site_sound d i sound within in
    good_lasts d (commanded i (local_delete (site_at d i) v) d) es is
    (good_command i (local_delete (site_at d i) v) d sound within
    (λ o e. local_delete_next (site_at d i) fine.history fine.number o v e))
there_lasts (line.Undo i t) d es sound values within is =
    let fine = site_sound d i sound within in
    good_lasts d (commanded i (local_undo (site_at d i) t) d) es is
    (good_command i (local_undo (site_at d i) t) d sound within (λ o e. local_undo_next (site_at d i) fine.history fine.number o t e))
there_lasts (line.Redo i t) d es sound values within is =
    let fine = site_sound d i sound within in
    good_lasts d (commanded i (local_redo (site_at d i) t) d) es is
    (good_command i (local_redo (site_at d i) t) d sound within (λ o e. local_redo_next (site_at d i) fine.history fine.number o t e))
there_lasts (line.Give i m) d es sound values within is = good_message i m d es sound within is
there_lasts (line.All i) d es sound values within is =
    good_lasts d (given_all i d.messages d) es is
    (good_all d.messages sound.messages (length d.sites) i within d (record { sound = sound; sites = refl }))
there_lasts line.Sync d es sound values within is =
    good_lasts d (synced 0 (length d.sites) d) es (started_ok d (Ok (synced 0 (length d.sites) d)) es is)
    (good_synced (length d.sites) (length d.sites) 0 (omega arith) d (record { sound = sound; sites = refl }))
there_lasts (line.Raw i bytes) d es sound values within is = raw_lasts One i bytes d es sound values within is
there_lasts (line.Raw2 i bytes) d es sound values within is = raw_lasts Two i bytes d es sound values within is
there_lasts (line.Show i) d es sound values within is =
    good_lasts d (told (show_text i d) d) es is (good_told (show_text i d) d sound refl refl)
there_lasts (line.State i) d es sound values within is =
    good_lasts d (told (have_text i d) d) es is (good_told (have_text i d) d sound refl refl)

pub line_lasts : (l : Line) (d : SessionData) (es : List (Step SessionData)) → IsSound d → AreValues l → line_steps l d ≡ Ok es
    → Lasting d es
line_lasts l d es sound values is =
    let there = site_there (line_site l) d (steps_there l d) es is in
    there_lasts l d es sound values there.0 there.1
