-- Sound sessions: each step of a line leaves one, and a line whose events settle ends settled.
use Rattle.std.proofs.Common.{◌≡◌, ℕ, zero, suc, ◌<◌, Bool, ◌⊎◌, inl, inr, List, [], ◌∷◌, ◌++◌, length, map, refl, ap, sym, subst, ◌∙◌, append_assoc, append-nil}
use Rattle.std.specs.Prelude.{Contains, set, false, nat_eq, slice_index_or}
use Rattle.std.proofs.lemmas.Bool.{false≢true}
use Rattle.std.proofs.lemmas.List.Elements.{Contains-get_or, Contains-push_cases, Contains-append_cases}
use Rattle.std.proofs.lemmas.List.{length-set}
use Rattle.context_diff.specs.Operations.{OpData, IsWellFormed}
use Rattle.context_diff.specs.Histories.{IsNext, IsValid}
use Rattle.context_diff.proofs.CallerLemmas.{contains_cases, contains_here, contains_later, contains_none}
use Rattle.cot_site.specs.States.{State, IsSettled, with_last, delivered, judged}
use Rattle.cot_site.specs.Sites.{AllFormed}
use Rattle.cot_site.specs.Releases.{IsSound as IsSoundSite, all_releases}
use Rattle.cot_site.specs.Laws.{NoReleaseWaits}
use Rattle.cot_site.proofs.CallerLemmas.{sound_more, sound_delivered, verdicts_exact}
use Rattle.site_answers.specs.declared.verdict.Verdict.{Verdict}
use Rattle.site_answers.specs.declared.verdict.Verdict.TheVariants.{Waits}
use Rattle.script_text.specs.Report.{op_text}
use Rattle.session_replay.specs.Steps.{Step, last_of, written_by}
use Rattle.session_replay.specs.Sessions.{SessionData, site_at, new_site, at_site, free_step, settling, made, given, told_verdict}
use Rattle.session_replay.specs.LineSteps.{told}
use Rattle.session_replay.specs.Events.{Event, Making, Giving, Telling, steps_of, after_event, all_steps, Moment, moments, after_moment}
use Rattle.session_replay.specs.Soundness.{IsSound, AreSettled}
use Rattle.session_replay.specs.Laws.{IsNoWaitingRelease}
use Rattle.session_replay.specs.Transcripts.{IsNoDelivery, WaitsByName}
use Rattle.session_replay.proofs.Steps.{last_append}
use Rattle.session_replay.proofs.Every.{Every, every_append, every_last}
use Rattle.session_replay.proofs.Releasing.{sound_settling, settling_settles}
use Rattle.session_replay.proofs.Telling.{no_release, no_release_given, releases_told}

-- ---- one site of a session

-- an element of a list of which one was set
set_cases : {A : Type 0} (xs : List A) (i : ℕ) (y x : A) → Contains (set xs i y) x → (y ≡ x) ⊎ Contains xs x
set_cases [] zero y x at = absurd (contains_none x at)
set_cases [] (suc i) y x at = absurd (contains_none x at)
set_cases (z ∷ zs) zero y x at = elim (contains_cases y zs x at) [ inl same ↦ inl same | inr later ↦ inr (contains_later z zs x later) ]
set_cases (z ∷ zs) (suc i) y x at =
    elim (contains_cases z (set zs i y) x at) [
      | inl same ↦ inr (subst (λ w. Contains (z ∷ zs) w) same (contains_here z zs))
      | inr later ↦ elim (set_cases zs i y x later) [ inl same ↦ inl same | inr old ↦ inr (contains_later z zs x old) ]
    ]

pub site_sound : (d : SessionData) (i : ℕ) → IsSound d → i < length d.sites → IsSoundSite (site_at d i)
site_sound d i sound within =
    let there = Contains-get_or d.sites i (new_site i) within in
    sound.sites (site_at d i) there

-- sessions with so many sites
pub record Kept (n : ℕ) (d : SessionData) : Type 0 where
  pub sound : IsSound d
  pub sites : length d.sites ≡ n

with_sound : (d : SessionData) (ms : List OpData) (i : ℕ) (s : State) → IsSound d → AllFormed ms → IsSoundSite s
    → Kept (length d.sites) (record { sites = set d.sites i s; messages = ms })
with_sound d ms i s sound formed fine = record {
  sound = record {
    sites = λ t at. elim (set_cases d.sites i s t at) [ inl same ↦ subst IsSoundSite same fine | inr old ↦ sound.sites t old ];
    messages = formed;
  };
  sites = length-set d.sites i s;
}

every_site : (d : SessionData) (ms : List OpData) (i : ℕ) (es : List (Step State)) → IsSound d → AllFormed ms → Every IsSoundSite es
    → Every (Kept (length d.sites)) (at_site d.sites ms i es)
every_site d ms i [] sound formed all = tt
every_site d ms i (e ∷ es) sound formed all = (with_sound d ms i e.after sound formed all.0, every_site d ms i es sound formed all.1)

-- the session after steps of a site
pub last_at : (sites : List State) (ms : List OpData) (i : ℕ) (s : State) (es : List (Step State))
    → last_of (record { sites = set sites i s; messages = ms }) (at_site sites ms i es)
    ≡ record { sites = set sites i (last_of s es); messages = ms }
unfolding last_of
last_at sites ms i s [] = refl
last_at sites ms i s (e ∷ es) = last_at sites ms i e.after es

with_settled : (d : SessionData) (ms : List OpData) (i : ℕ) (s : State) → AreSettled d → IsSettled s
    → AreSettled (record { sites = set d.sites i s; messages = ms })
with_settled d ms i s settled is t at = elim (set_cases d.sites i s t at) [ inl same ↦ subst IsSettled same is | inr old ↦ settled t old ]

-- ---- deliveries that wait

waits_by_name : (many : Bool) (i : ℕ) (o : OpData) (d : SessionData) → IsValid (site_at d i).history → IsWellFormed o
    → WaitsByName (Giving many i o) d
unfolding written_by
waits_by_name many i o d valid formed missing is = record {
  first = ((verdicts_exact s.history s.waiting o (Waits missing) valid formed).1 (sym is)).1;
  more = written_by (at_site d.sites d.messages i (map free_step (all_releases (delivered s o))));
  written =
      ap (λ (v : Verdict). told_verdict many o v s.number
      ++ written_by (at_site d.sites d.messages i (map free_step (all_releases (delivered s o))))) is;
}
  where
    s : State
    s = site_at d i

-- ---- lines

-- steps as events, after each of which the session is sound, and settled if it was so before; a delivery that waits does so by name
pub record Eventful (d : SessionData) (es : List (Step SessionData)) : Type 0 where
  pub events : List Event
  pub parts : es ≡ all_steps events d
  pub sound : (m : Moment) → Contains (moments events d) m → IsSound (after_moment m) × WaitsByName m.event m.before
  pub settled : AreSettled d → (m : Moment) → Contains (moments events d) m → AreSettled (after_moment m)

pub eventless : (d : SessionData) → Eventful d []
unfolding all_steps moments
eventless d =
    record { events = []; parts = refl; sound = λ m at. absurd (contains_none m at); settled = λ s m at. absurd (contains_none m at) }

-- one event
pub one_event : (d : SessionData) (v : Event) → IsSound (after_event v d) → WaitsByName v d → (AreSettled d → AreSettled (after_event v d))
    → Eventful d (steps_of v d)
unfolding all_steps moments
one_event d v sound named settles = record {
  events = v ∷ [];
  parts = sym (append-nil (steps_of v d));
  sound = λ m at. elim (contains_cases (record { before = d; event = v }) [] m at) [
    | inl same ↦ subst (λ (x : Moment). IsSound (after_moment x) × WaitsByName x.event x.before) same (sound, named)
    | inr none ↦ absurd (contains_none m none)
  ];
  settled = λ s m at. elim (contains_cases (record { before = d; event = v }) [] m at) [
    | inl same ↦ subst (λ (x : Moment). AreSettled (after_moment x)) same (settles s)
    | inr none ↦ absurd (contains_none m none)
  ];
}

all_append : (vs ws : List Event) (d : SessionData) → all_steps (vs ++ ws) d ≡ all_steps vs d ++ all_steps ws (last_of d (all_steps vs d))
unfolding all_steps last_of
all_append [] ws d = refl
all_append (v ∷ vs) ws d =
    ap (λ xs. steps_of v d ++ xs) (all_append vs ws (last_of d (steps_of v d)))
    ∙ (sym (append_assoc (steps_of v d) (all_steps vs (last_of d (steps_of v d)))
    (all_steps ws (last_of (last_of d (steps_of v d)) (all_steps vs (last_of d (steps_of v d))))))
    ∙ ap (λ x. (steps_of v d ++ all_steps vs (last_of d (steps_of v d))) ++ all_steps ws x)
    (sym (last_append d (steps_of v d) (all_steps vs (last_of d (steps_of v d))))))

moments_cases : (vs ws : List Event) (d : SessionData) (m : Moment) → Contains (moments (vs ++ ws) d) m
    → Contains (moments vs d) m ⊎ Contains (moments ws (last_of d (all_steps vs d))) m
unfolding all_steps moments last_of
moments_cases [] ws d m at = inr at
moments_cases (v ∷ vs) ws d m at =
    let first : Moment = record { before = d; event = v } in
    let after = last_of d (steps_of v d) in
    elim (contains_cases first (moments (vs ++ ws) after) m at) [
      | inl same ↦ inl (subst (λ x. Contains (first ∷ moments vs after) x) same (contains_here first (moments vs after)))
      | inr later ↦
          elim (moments_cases vs ws after m later) [
            | inl old ↦ inl (contains_later first (moments vs after) m old)
            | inr new ↦ inr (subst (λ x. Contains (moments ws x) m) (sym (last_append d (steps_of v d) (all_steps vs after))) new)
          ]
    ]

eventful_then : (d : SessionData) (es fs : List (Step SessionData)) → (AreSettled d → AreSettled (last_of d es)) → Eventful d es
    → Eventful (last_of d es) fs → Eventful d (es ++ fs)
eventful_then d es fs settles a b = record {
  events = a.events ++ b.events;
  parts = ap (λ xs. xs ++ fs) a.parts
      ∙ (ap (λ xs. all_steps a.events d ++ xs) (b.parts ∙ ap (all_steps b.events) at) ∙ sym (all_append a.events b.events d));
  sound = λ m there. elim (moments_cases a.events b.events d m there)
      [ inl old ↦ a.sound m old | inr new ↦ b.sound m (subst (λ x. Contains (moments b.events x) m) (sym at) new) ];
  settled =
      λ s m there. elim (moments_cases a.events b.events d m there)
      [ inl old ↦ a.settled s m old | inr new ↦ b.settled (settles s) m (subst (λ x. Contains (moments b.events x) m) (sym at) new) ];
}
  where
    at : last_of d es ≡ last_of d (all_steps a.events d)
    at = ap (last_of d) a.parts

-- no step tells of a release that the operation waits
abbrev pub AreQuiet : List (Step SessionData) → Type 0
AreQuiet es = NoReleaseWaits → (e : Step SessionData) → Contains es e → IsNoWaitingRelease e.written

pub quiet_none : AreQuiet []
quiet_none never e at = absurd (contains_none e at)

pub quiet_told : (w : List ℕ) (d : SessionData) → IsNoWaitingRelease w → AreQuiet (told w d)
quiet_told w d quiet never e at = elim (contains_cases (record { written = w; after = d }) [] e at) [
  | inl same ↦ subst (λ (x : Step SessionData). IsNoWaitingRelease x.written) same quiet
  | inr none ↦ absurd (contains_none e none)
]

quiet_then : (es fs : List (Step SessionData)) → AreQuiet es → AreQuiet fs → AreQuiet (es ++ fs)
quiet_then es fs first second never e at =
    elim (Contains-append_cases es fs e at) [ inl here ↦ first never e here | inr there ↦ second never e there ]

-- an event that tells nothing of that kind, with its releases
quiet_event : (sites : List State) (ms : List OpData) (i : ℕ) (written : List ℕ) (s : State) → IsSoundSite s → IsNoWaitingRelease written
    → AreQuiet (at_site sites ms i (settling written s))
quiet_event sites ms i written s fine quiet never e at =
    elim (contains_cases first (at_site sites ms i (map free_step (all_releases s))) e at) [
      | inl same ↦ subst (λ (x : Step SessionData). IsNoWaitingRelease x.written) same quiet
      | inr later ↦ releases_told sites ms i (all_releases s) (sound_settling written s fine).1
          (λ r missing there. never s r missing fine there) e later
    ]
  where
    first : Step SessionData
    first = record { written = written; after = record { sites = set sites i s; messages = ms } }

-- each step leaves a sound session with as many sites, and from a settled session on the last one is settled
pub record Good (d : SessionData) (es : List (Step SessionData)) : Type 0 where
  pub all : Every (Kept (length d.sites)) es
  pub settles : AreSettled d → AreSettled (last_of d es)
  pub events : Eventful d es
  pub quiet : AreQuiet es

pub good_none : (d : SessionData) → Good d []
unfolding last_of
good_none d = record { all = tt; settles = λ s. s; events = eventless d; quiet = quiet_none }

-- the line of a delivery begins with the letter g
pub no_delivery : (w : List ℕ) → nat_eq (slice_index_or w 0 0) 103 ≡ false → IsNoDelivery w
no_delivery w other site m v same = absurd (false≢true (sym other ∙ ap (λ x. nat_eq (slice_index_or x 0 0) 103) same))

-- a line that is told, and begins otherwise than those of deliveries and releases
pub good_told : (w : List ℕ) (d : SessionData) → IsSound d → nat_eq (slice_index_or w 0 0) 103 ≡ false
    → nat_eq (slice_index_or w 0 0) 102 ≡ false → Good d (told w d)
unfolding last_of
good_told w d sound other also = record {
  all = (record { sound = sound; sites = refl }, tt);
  settles = λ s. s;
  events = one_event d (Telling w) sound (no_delivery w other) (λ s. s);
  quiet = quiet_told w d (no_release w also);
}

pub good_last : (d : SessionData) (es : List (Step SessionData)) → IsSound d → Good d es → Kept (length d.sites) (last_of d es)
good_last d es sound good = every_last (Kept (length d.sites)) d es (record { sound = sound; sites = refl }) good.all

pub good_then : (d : SessionData) (es fs : List (Step SessionData)) → IsSound d → Good d es → Good (last_of d es) fs → Good d (es ++ fs)
good_then d es fs sound good next = record {
  all = every_append (Kept (length d.sites)) es fs good.all (subst (λ n. Every (Kept n) fs) (good_last d es sound good).sites next.all);
  settles = λ settled. subst AreSettled (sym (last_append d es fs)) (next.settles (good.settles settled));
  events = eventful_then d es fs good.settles good.events next.events;
  quiet = quiet_then es fs good.quiet next.quiet;
}

-- an event at a site, with its releases
event_settles : (d : SessionData) (ms : List OpData) (i : ℕ) (written : List ℕ) (s : State) → IsSoundSite s → AreSettled d
    → AreSettled (last_of d (at_site d.sites ms i (settling written s)))
unfolding last_of
event_settles d ms i written s fine settled =
    subst AreSettled (sym (last_at d.sites ms i s (map free_step (all_releases s))))
    (with_settled d ms i (last_of s (map free_step (all_releases s))) settled (settling_settles written s s fine))

-- the event v has these steps
good_event : (v : Event) (d : SessionData) (ms : List OpData) (i : ℕ) (written : List ℕ) (s : State)
    → steps_of v d ≡ at_site d.sites ms i (settling written s) → WaitsByName v d → IsNoWaitingRelease written
    → IsSound d → AllFormed ms → IsSoundSite s → Good d (at_site d.sites ms i (settling written s))
good_event v d ms i written s are named quiet sound formed fine = record {
  all = all;
  settles = event_settles d ms i written s fine;
  events = subst (Eventful d) are
      (one_event d v (subst (λ es. IsSound (last_of d es)) (sym are) last) named
      (λ settled. subst (λ es. AreSettled (last_of d es)) (sym are) (event_settles d ms i written s fine settled)));
  quiet = quiet_event d.sites ms i written s fine quiet;
}
  where
    all : Every (Kept (length d.sites)) (at_site d.sites ms i (settling written s))
    all = every_site d ms i (settling written s) sound formed (sound_settling written s fine)

    last : IsSound (last_of d (at_site d.sites ms i (settling written s)))
    last = (every_last (Kept (length d.sites)) d (at_site d.sites ms i (settling written s)) (record { sound = sound; sites = refl })
        all).sound

pub good_made : (d : SessionData) (i : ℕ) (o : OpData) → IsSound d → i < length d.sites → IsNext (site_at d i).history o
    → Good d (made i o d)
good_made d i o sound within next =
    good_event (Making i o) d (d.messages ++ o ∷ []) i (op_text (length d.messages) o) (with_last (site_at d i) o) refl tt
    (no_release _ refl) sound all (sound_more (site_at d i) o (site_sound d i sound within) next)
  where
    all : AllFormed (d.messages ++ o ∷ [])
    all x at =
        elim (Contains-push_cases d.messages o x at) [ inl old ↦ sound.messages x old | inr same ↦ subst IsWellFormed same next.formed ]

pub good_given : (many : Bool) (d : SessionData) (i : ℕ) (o : OpData) → IsSound d → i < length d.sites → IsWellFormed o
    → Good d (given many i o d)
good_given many d i o sound within formed =
    good_event (Giving many i o) d d.messages i (told_verdict many o (judged (site_at d i) o) (site_at d i).number)
    (delivered (site_at d i) o) refl (waits_by_name many i o d (site_sound d i sound within).history formed)
    (no_release_given many o (judged (site_at d i) o) (site_at d i).number) sound sound.messages
    (sound_delivered (site_at d i) o (site_sound d i sound within) formed)
