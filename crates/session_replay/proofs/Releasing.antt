-- The releases after an event, with their lines.
use Rattle.std.proofs.Common.{◌≡◌, ℕ, zero, suc, ◌+◌, ◌<◌, ◌≤◌, List, [], ◌∷◌, ◌++◌, refl, sym, ap, subst, ◌∙◌, length, map, take, get_or, append-nil, append_assoc, arith}
use Rattle.std.proofs.lemmas.List.{map-append}
use Rattle.std.specs.Prelude.{Bool, Result, Ok, Err, Option, Some, None, OnOk, OnErr}
use Rattle.std.proofs.lemmas.List.{take_all}
use Rattle.std.proofs.Math.Seq.{take-length}
use Rattle.context_diff.specs.Operations.{OpData, member_of}
use Rattle.site_answers.specs.declared.release.Release.{Release}
use Rattle.cot_site.specs.States.{State, Released, released, judged, delivered, IsSettled}
use Rattle.cot_site.specs.Releases.{IsSound as IsSoundSite, IsLater, and_more, releases, all_releases, state_after, settled, release_of, IsPartlySettled}
use Rattle.cot_site.proofs.CallerLemmas.{after_more, after_none, later_on, release_number, sound_along, sound_released, settled_settles}
use Rattle.participant.specs.declared.taking.Taking.TheVariants.{All}
use Rattle.participant.specs.declared.taking.Untaken.{Untaken}
use Rattle.participant.specs.declared.taking.Untaken.TheVariants.{Memory, Unsettled}
use Rattle.participant.specs.Reached.{Reached}
use Rattle.participant.specs.Taking.{IsUntaken}
use Rattle.script_text.specs.declared.report.event.Event.TheVariants.{Free}
use Rattle.script_text.specs.Verdicts.{verdict_line_text}
use Rattle.session_replay.specs.Steps.{last_of, written_by, IsReached}
use Rattle.session_replay.specs.Code.Doing.{AreDone, IsFront, free_line, free_lines}
use Rattle.session_replay.specs.Sessions.{free_step, settling, taking_in, told_verdict}
use Rattle.session_replay.proofs.Every.{Every, every_last, every_map, every_reached}
use Rattle.session_replay.proofs.Steps.{reached_at, front_same, done_nothing}

-- ---- what releases leave and write

pub last_freed : (s : State) (rs : List Released) → last_of s (map free_step rs) ≡ state_after s rs
unfolding last_of state_after
last_freed s [] = refl
last_freed s (r ∷ rs) = last_freed r.after rs

-- a release at a time
freed_by : (n : ℕ) → ((t : State) → written_by (map free_step (releases n t)) ≡ free_lines t.number (map release_of (releases n t)))
    → (s : State) (r : Option Released) → released s ≡ r
    → written_by (map free_step (and_more (releases n) r)) ≡ free_lines s.number (map release_of (and_more (releases n) r))
unfolding written_by
freed_by n rest s None none = refl
freed_by n rest s (Some r) some =
    ap (λ w. verdict_line_text Free r.after.number (member_of r.op) r.verdict ++ w) (rest r.after)
    ∙ ap (λ k. free_line k (release_of r) ++ free_lines k (map release_of (releases n r.after))) (release_number s r some)

-- no release changes the number of the site
pub freed_lines : (n : ℕ) (s : State) → written_by (map free_step (releases n s)) ≡ free_lines s.number (map release_of (releases n s))
unfolding written_by releases
freed_lines zero s = refl
freed_lines (suc n) s = freed_by n (freed_lines n) s (released s) refl

-- ---- states along releases

sound_by : (n : ℕ) → ((t : State) → IsSoundSite t → Every IsSoundSite (map free_step (releases n t))) → (s : State) → IsSoundSite s
    → (r : Option Released) → released s ≡ r → Every IsSoundSite (map free_step (and_more (releases n) r))
sound_by n rest s sound None none = tt
sound_by n rest s sound (Some r) some = let after = sound_released s r sound some in (after, rest r.after after)

sound_freed : (n : ℕ) (s : State) → IsSoundSite s → Every IsSoundSite (map free_step (releases n s))
unfolding releases
sound_freed zero s sound = tt
sound_freed (suc n) s sound = sound_by n (sound_freed n) s sound (released s) refl

-- an event with its releases leaves sound states
pub sound_settling : (written : List ℕ) (s : State) → IsSoundSite s → Every IsSoundSite (settling written s)
sound_settling written s sound = (sound, sound_freed (length s.waiting) s sound)

-- and at last a settled one
pub settling_settles : (written : List ℕ) (s t : State) → IsSoundSite s → IsSettled (last_of t (settling written s))
unfolding last_of
settling_settles written s t sound = subst IsSettled (sym (last_freed s (all_releases s))) (settled_settles s sound)

-- ---- later states of a site

pub later_same : (s : State) → IsLater s s
later_same s = record { number = refl; history = take-length s.history }

later_first : (n : ℕ) (s : State) (r : Released) → IsSoundSite s → released s ≡ Some r → IsLater s r.after
unfolding releases
later_first n s r sound some =
    let along = sound_along (suc n) s (r ∷ []) (releases n r.after) sound (ap (and_more (releases n)) some) in
    subst (IsLater s) (after_more s r [] ∙ after_none r.after) along.1

later_by : (n : ℕ) → ((t : State) → IsSoundSite t → Every (IsLater t) (map free_step (releases n t)))
    → (s : State) → IsSoundSite s → (r : Option Released) → released s ≡ r → Every (IsLater s) (map free_step (and_more (releases n) r))
later_by n rest s sound None none = tt
later_by n rest s sound (Some r) some =
    let after = later_first n s r sound some in
    let more = rest r.after (sound_released s r sound some) in
    (after, every_map (IsLater r.after) (IsLater s) (λ t later. later_on s r.after t after later) _ more)

later_freed : (n : ℕ) (s : State) → IsSoundSite s → Every (IsLater s) (map free_step (releases n s))
unfolding releases
later_freed zero s sound = tt
later_freed (suc n) s sound = later_by n (later_freed n) s sound (released s) refl

later_settling : (written : List ℕ) (before s : State) → IsLater before s → IsSoundSite s → Every (IsLater before) (settling written s)
later_settling written before s later sound =
    (later, every_map (IsLater s) (IsLater before) (λ t. later_on before s t later) _ (later_freed (length s.waiting) s sound))

-- however far an event and its releases came, what the site had integrated it has
pub event_later : {T E : Type 0} (result : Result T E) (written : List ℕ) (before s now : State) (old new : List ℕ)
    → AreDone result (settling written s) before now old new → IsLater before s → IsSoundSite s → IsLater before now
event_later (Ok t) written before s now old new done later sound =
    subst (IsLater before) (sym done.0)
    (every_last (IsLater before) before (settling written s) (later_same before) (later_settling written before s later sound))
event_later (Err e) written before s now old new done later sound =
    every_reached (IsLater before) before now (settling written s) (later_same before) (later_settling written before s later sound) done.0

-- ---- what is told of an event

-- the lines so far, and the next one
pub free_lines_more : (n i : ℕ) (rs : List Release) (r : Release) → i < length rs → r ≡ get_or rs i r
    → free_lines n (take (i + 1) rs) ≡ free_lines n (take i rs) ++ free_line n r
free_lines_more n i rs r within is = ap (λ k. free_lines n (take k rs)) next ∙ more i rs within is
  where
    next : i + 1 ≡ suc i
    next = omega arith

    more : (i : ℕ) (rs : List Release) → i < length rs → r ≡ get_or rs i r
        → free_lines n (take (suc i) rs) ≡ free_lines n (take i rs) ++ free_line n r
    more i [] within is = absurd (omega (arith, within))
    more zero (x ∷ xs) within is = append-nil (free_line n x) ∙ ap (free_line n) (sym is)
    more (suc i) (x ∷ xs) within is =
        ap (λ w. free_line n x ++ w) (more i xs (omega arith) is)
        ∙ sym (append_assoc (free_line n x) (free_lines n (take i xs)) (free_line n r))

pub free_lines_all : (n i : ℕ) (rs : List Release) → length rs ≤ i → free_lines n (take i rs) ≡ free_lines n rs
free_lines_all n i rs past = ap (free_lines n) (take_all i rs past)

-- the event and all its releases are done, and told, or as far as memory went
pub all_told : {T E : Type 0} (result : Result T E) (w : List ℕ) (s after now : State) (number : ℕ) (first list : List Release)
    (old new : List ℕ)
    → now ≡ settled after → number ≡ after.number → first ≡ [] → list ≡ first ++ map release_of (all_releases after)
    → OnOk result (new ≡ old ++ (w ++ free_lines number list)) → OnErr result (IsFront old new)
    → AreDone result (settling w after) s now old new
unfolding last_of written_by
all_told (Ok t) w s after now number first list old new at named none listed ok err =
    let all : list ≡ map release_of (all_releases after) = listed ∙ ap (λ xs. xs ++ map release_of (all_releases after)) none in
    let lines : free_lines number list ≡ written_by (map free_step (all_releases after)) =
    ap (λ k. free_lines k list) named ∙ ap (free_lines after.number) all ∙ sym (freed_lines (length after.waiting) after)
    in
    (at ∙ sym (last_freed after (all_releases after)), ok ∙ ap (λ x. old ++ (w ++ x)) lines)
all_told (Err e) w s after now number first list old new at named none listed ok err =
    (reached_at s now (settling w after) (at ∙ sym (last_freed after (all_releases after))), err)

-- the event and the first of its releases are done, and none is told
pub half_untold : (w : List ℕ) (s after now : State) (before list : List Release) (old : List ℕ) → IsPartlySettled after now before list
    → IsReached s (settling w after) now × IsFront old old
unfolding last_of
half_untold w s after now before list old partly = (
  record {
    done = record { written = w; after = after } ∷ map free_step partly.done;
    left = map free_step partly.left;
    parts = ap (λ rs. record { written = w; after = after } ∷ map free_step rs) partly.parts
        ∙ ap (λ es. record { written = w; after = after } ∷ es) (map-append free_step partly.done partly.left);
    state = partly.state ∙ sym (last_freed after partly.done);
  },
  front_same old,
)

-- an operation that wasn't taken in, or not wholly
pub untaken_reached : (many : Bool) (o : OpData) (s now : State) (before list : List Release) (old : List ℕ) (why : Untaken)
    → IsUntaken All (record { state = s; released = before }) o why (record { state = now; released = list })
    → IsReached s (taking_in many o s) now × IsFront old old
untaken_reached many o s now before list old Memory untaken =
    done_nothing (taking_in many o s) s now old old (ap (λ (r : Reached). r.state) untaken.2) refl
untaken_reached many o s now before list old (Unsettled v) untaken =
    half_untold (told_verdict many o (judged s o) s.number) s (delivered s o) now before list old untaken.2
