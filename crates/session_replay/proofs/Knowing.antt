-- Messages that a site is known to have: to deliver them again does nothing, and the site keeps them.
use Rattle.std.proofs.Common.{◌≡◌, ℕ, zero, suc, ◌+◌, ◌≤◌, ◌<◌, inl, inr, if◌then◌else◌, Bool, true, false, List, [], ◌∷◌, ◌++◌, refl, sym, ap, subst, ◌∙◌, length, map, set, take, drop, get_or, append-nil, length-append, take-append-drop, arith}
use Rattle.std.specs.Prelude.{Option, Some, None, Result, Ok, Err, Contains, max, replicate, slice_get, slice_index_or}
use Rattle.std.specs.Result.{is_ok}
use Rattle.std.specs.List.{list_any}
use Rattle.std.proofs.lemmas.Bool.{cond-true, or_left, leb-true, le-leb, false≢true}
use Rattle.std.proofs.lemmas.List.{set-get_or, take-append-le}
use Rattle.std.proofs.lemmas.Grind.{take_at_read}
use Rattle.std.proofs.lemmas.Option.{slice_get_within, slice_get-get_or}
use Rattle.std.proofs.lemmas.List.Elements.{Contains-append_right, Contains-push_cases}
use Rattle.std.proofs.lemmas.List.Folds.{list_any-append}
use Rattle.op_name.specs.NameData.{NameData, name_eq}
use Rattle.op_name.proofs.CallerLemmas.{name_itself}
use Rattle.context_vector.specs.Contexts.{ContextData}
use Rattle.op_name.specs.declared.member.Member.{Member}
use Rattle.context_diff.specs.Operations.{OpData, inserting, deleting, undoing, IsWellFormed, member_of, context_of}
use Rattle.context_diff.specs.Histories.{generation_in}
use Rattle.context_diff.specs.Ops.{op_eq}
use Rattle.context_diff.proofs.CallerLemmas.{contains_cases, contains_here, contains_later, contains_none}
use Rattle.op_name.specs.Members.{target_of}
use Rattle.cot_site.specs.States.{State, judged, delivered, after_verdict}
use Rattle.cot_site.specs.Releases.{IsSound, IsLater, all_releases, settled}
use Rattle.cot_site.specs.Verdicts.{is_repeat, is_forged, placed_verdict, ready_verdict, waiting_verdict, lacked}
use Rattle.site_answers.specs.declared.verdict.Verdict.{Verdict}
use Rattle.site_answers.specs.declared.verdict.Verdict.TheVariants.{Repeat, Forged, Waits, NotClosed, PlaceOut, Integrated}
use Rattle.cot_site.proofs.CallerLemmas.{same_any, settled_has_none, settled_settles, sound_along, sound_delivered}
use Rattle.participant.specs.Taking.{is_had}
use Rattle.session_replay.specs.Steps.{Step, last_of, written_by}
use Rattle.session_replay.specs.Sessions.{SessionData, site_at, new_site, new_sites, settling, taking_in, told_verdict, free_step, given, given_all}
use Rattle.session_replay.specs.Code.Doing.{AreDone}
use Rattle.session_replay.specs.Code.Knowing.{Has, HasAll, AreKnown, still_known}
use Rattle.session_replay.proofs.Releasing.{last_freed}
use Rattle.session_replay.proofs.Steps.{IsAlong}

-- ---- repeats

generation_more : (h more : List OpData) (t : NameData) → generation_in h t ≤ generation_in (h ++ more) t
generation_more [] more t = omega arith
generation_more (o ∷ os) more t = omega (arith, generation_more os more t)

any_more : {X : Type 0} (p : X → Bool) (xs ys : List X) → list_any p xs ≡ true → list_any p (xs ++ ys) ≡ true
any_more p xs ys is = list_any-append p xs ys ∙ or_left (list_any p xs) (list_any p ys) is

-- a repeat stays one, whatever is integrated
pub repeat_more : (h more : List OpData) (o : OpData) → is_repeat h o ≡ true → is_repeat (h ++ more) o ≡ true
repeat_more h more (inserting n p text c) is = any_more (op_eq (inserting n p text c)) h more is
repeat_more h more (deleting n p c) is = any_more (op_eq (deleting n p c)) h more is
repeat_more h more (undoing a t g c) is =
    le-leb g (generation_in (h ++ more) t) (omega (arith, leb-true g (generation_in h t) is, generation_more h more t))

pub repeat_after : (v : Verdict) (o p : OpData) (s : State) → is_repeat s.history p ≡ true
    → is_repeat (after_verdict v o s).history p ≡ true
repeat_after Repeat o p s is = is
repeat_after (Forged n) o p s is = is
repeat_after (Waits m) o p s is = is
repeat_after (NotClosed k) o p s is = is
repeat_after (PlaceOut a b) o p s is = is
repeat_after Integrated o p s is = repeat_more s.history (o ∷ []) p is

repeat_settled : (s : State) (o : OpData) → IsSound s → is_repeat s.history o ≡ true → is_repeat (settled s).history o ≡ true
repeat_settled s o sound is =
    let later : IsLater s (settled s) =
    (sound_along (length s.waiting) s (all_releases s) [] sound (sym (append-nil (all_releases s)))).1 in
    let now = (settled s).history in
    let parts : s.history ++ drop (length s.history) now ≡ now =
    ap (λ xs. xs ++ drop (length s.history) now) (sym later.history) ∙ take-append-drop (length s.history) now in
    subst (λ (h : List OpData). is_repeat h o ≡ true) parts (repeat_more s.history (drop (length s.history) now) o is)

placed_other : (site : Option ℕ) (fits : Bool) (place cells : ℕ) → placed_verdict site fits place cells ≡ Repeat → ⊥
placed_other (Some s) fits place cells e = cc
placed_other None true place cells e = cc
placed_other None false place cells e = cc

ready_other : (h : List OpData) (o : OpData) → ready_verdict h o ≡ Repeat → ⊥
ready_other h (inserting n p text c) e = placed_other _ _ _ _ e
ready_other h (deleting n p c) e = placed_other _ _ _ _ e
ready_other h (undoing a t g c) e = cc

-- only a repeat is answered so
repeat_is : (s : State) (o : OpData) → judged s o ≡ Repeat → is_repeat s.history o ≡ true
repeat_is s o e = from (is_repeat s.history o) (is_forged s.history s.waiting o) (lacked s.history (context_of o)) e
  where
    from : (a b : Bool) (m : Option Member)
        → (if a then Repeat else if b then Forged (target_of (member_of o)) else waiting_verdict m (ready_verdict s.history o)) ≡ Repeat
        → a ≡ true
    from true b m e = refl
    from false true m e = absurd cc
    from false false (Some m) e = absurd cc
    from false false None e = absurd (ready_other s.history o e)

repeat_judged : (s : State) (o : OpData) → is_repeat s.history o ≡ true → judged s o ≡ Repeat
repeat_judged s o is = cond-true _ _ _ is

reached_held : (h : List OpData) (a : ℕ) (t : NameData) (g : ℕ) (c : ContextData) → Contains h (undoing a t g c) → g ≤ generation_in h t
reached_held [] a t g c at = absurd (contains_none (undoing a t g c) at)
reached_held (o ∷ os) a t g c at = elim (contains_cases o os (undoing a t g c) at) [
  | inl same ↦
      let own : generation_in (o ∷ os) t ≡ max (if name_eq t t then g else 0) (generation_in os t) =
      ap (λ p. generation_in (p ∷ os) t) same in
      omega (arith, own, cond-true (name_eq t t) g 0 (name_itself t))
  | inr later ↦ omega (arith, reached_held os a t g c later)
]

-- an operation of the history is a repeat
repeat_held : (h : List OpData) (o : OpData) → Contains h o → is_repeat h o ≡ true
repeat_held h (inserting n p text c) at = (same_any (inserting n p text c) h).1 at
repeat_held h (deleting n p c) at = (same_any (deleting n p c) h).1 at
repeat_held h (undoing a t g c) at = le-leb g (generation_in h t) (reached_held h a t g c at)

repeat_had : (v : Verdict) (s : State) (o : OpData) → judged s o ≡ v → is_had v ≡ true → is_repeat (after_verdict v o s).history o ≡ true
repeat_had Repeat s o is had = repeat_is s o is
repeat_had (Forged n) s o is had = absurd (false≢true had)
repeat_had (Waits m) s o is had = absurd (false≢true had)
repeat_had (NotClosed k) s o is had = absurd (false≢true had)
repeat_had (PlaceOut p k) s o is had = absurd (false≢true had)
repeat_had Integrated s o is had = repeat_held (s.history ++ o ∷ []) o (Contains-append_right s.history (o ∷ []) o (contains_here o []))

-- ---- an event at a site

-- an event of a sound site leaves what is a repeat then
settling_has : (written : List ℕ) (s before : State) (o : OpData) → IsSound s → is_repeat s.history o ≡ true
    → Has (last_of before (settling written s)) o
unfolding last_of
settling_has written s before o sound is =
    subst (λ t. Has t o) (sym (last_freed s (all_releases s))) (repeat_settled s o sound is, settled_settles s sound)

has_none : (s : State) (ms : List OpData) → HasAll s (take 0 ms)
has_none s ms o at = absurd (contains_none o at)

-- what is a repeat after the event, the site has after its releases, unless memory ran out
pub event_has : {T E : Type 0} (result : Result T E) (written : List ℕ) (before s now : State) (old new : List ℕ) (n : ℕ) (ms : List OpData)
    → AreDone result (settling written s) before now old new → IsSound s
    → ((o : OpData) → Contains (take n ms) o → is_repeat s.history o ≡ true) → HasAll now (take (still_known (is_ok result) n) ms)
event_has (Ok t) written before s now old new n ms done sound repeats =
    λ o at. subst (λ x. Has x o) (sym done.0) (settling_has written s before o sound (repeats o at))
event_has (Err e) written before s now old new n ms done sound repeats = has_none now ms

pub event_known : {T E : Type 0} (result : Result T E) (written : List ℕ) (before s now : State) (old new : List ℕ) (n : ℕ)
    (ms : List OpData)
    → AreDone result (settling written s) before now old new → IsSound s
    → ((o : OpData) → is_repeat before.history o ≡ true → is_repeat s.history o ≡ true)
    → HasAll before (take n ms) → HasAll now (take (still_known (is_ok result) n) ms)
event_known result written before s now old new n ms done sound kept has =
    event_has result written before s now old new n ms done sound (λ o at. kept o (has o at).0)

pub still_few : {T E : Type 0} (result : Result T E) (n count : ℕ) → n ≤ count → still_known (is_ok result) n ≤ count
still_few (Ok t) n count few = few
still_few (Err e) n count few = omega arith

-- an operation whose delivery was done, with a verdict by which the history has it, the site has
pub delivery_has : (many : Bool) (o : OpData) (before now : State)
    → now ≡ last_of before (taking_in many o before) → IsSound before → IsWellFormed o → is_had (judged before o) ≡ true → Has now o
delivery_has many o before now done sound formed had =
    let written = told_verdict many o (judged before o) before.number in
    let after = sound_delivered before o sound formed in
    let repeat = repeat_had (judged before o) before o refl had in
    subst (λ s. Has s o) (sym done) (settling_has written (delivered before o) before o after repeat)

-- ---- one message more

-- the first messages and the next one
take_next : (k : ℕ) (ms : List OpData) (o : OpData) → slice_get ms k ≡ Some o → take (k + 1) ms ≡ take k ms ++ o ∷ []
take_next k ms o at =
    let within : k < length ms = slice_get_within ms k o at in
    let both : Some (get_or ms k o) ≡ Some o = sym (slice_get-get_or ms k o within) ∙ at in
    let here : get_or ms k o ≡ o = cc in
    (take_at_read ms k o within).1 ∙ ap (λ x. take k ms ++ x ∷ []) here

pub has_next : (k : ℕ) (ms : List OpData) (s : State) (o : OpData) → slice_get ms k ≡ Some o → HasAll s (take k ms) → Has s o
    → HasAll s (take (k + 1) ms)
has_next k ms s o at has next p there =
    elim (Contains-push_cases (take k ms) o p (subst (λ (xs : List OpData). Contains xs p) (take_next k ms o at) there)) [
      | inl before ↦ has p before
      | inr same ↦ subst (Has s) same next
    ]

-- ---- all sites

pub known_number : (ss : List State) (ns : List ℕ) (ms : List OpData) → AreKnown ss ns ms → length ns ≡ length ss
known_number [] [] ms known = refl
known_number [] (n ∷ ns) ms known = absurd known
known_number (s ∷ ss) [] ms known = absurd known
known_number (s ∷ ss) (n ∷ ns) ms known = ap suc (known_number ss ns ms known.2)

pub known_there : (ss : List State) (ns : List ℕ) (ms : List OpData) (i : ℕ) (x : State) (d : ℕ) → AreKnown ss ns ms → i < length ss
    → (slice_index_or ns i d ≤ length ms) × HasAll (slice_index_or ss i x) (take (slice_index_or ns i d) ms)
known_there [] ns ms i x d known within = absurd (omega (arith, within))
known_there (s ∷ ss) [] ms i x d known within = absurd known
known_there (s ∷ ss) (n ∷ ns) ms zero x d known within = (known.0, known.1)
known_there (s ∷ ss) (n ∷ ns) ms (suc i) x d known within = known_there ss ns ms i x d known.2 (omega arith)

pub known_set : (ss : List State) (ns : List ℕ) (ms : List OpData) (i : ℕ) (s : State) (n : ℕ) → AreKnown ss ns ms → n ≤ length ms
    → HasAll s (take n ms) → AreKnown (set ss i s) (set ns i n) ms
known_set [] [] ms i s n known few has = tt
known_set [] (m ∷ ns) ms i s n known few has = absurd known
known_set (t ∷ ss) [] ms i s n known few has = absurd known
known_set (t ∷ ss) (m ∷ ns) ms zero s n known few has = (few, has, known.2)
known_set (t ∷ ss) (m ∷ ns) ms (suc i) s n known few has = (known.0, known.1, known_set ss ns ms i s n known.2 few has)

-- one message more changes none of the first
pub known_more : (ss : List State) (ns : List ℕ) (ms more : List OpData) → AreKnown ss ns ms → AreKnown ss ns (ms ++ more)
known_more [] [] ms more known = tt
known_more [] (n ∷ ns) ms more known = absurd known
known_more (s ∷ ss) [] ms more known = absurd known
known_more (s ∷ ss) (n ∷ ns) ms more known = (
  omega (arith, known.0, length-append ms more),
  subst (HasAll s) (sym (take-append-le n ms more known.0)) known.1,
  known_more ss ns ms more known.2,
)

pub known_first : (i n : ℕ) → AreKnown (new_sites i n) (replicate n 0) []
unfolding new_sites
known_first i zero = tt
known_first i (suc n) = (omega arith, has_none (new_site i) [], known_first (suc i) n)

-- ---- what is passed over

-- a delivery among many of an operation that the site has tells nothing and changes nothing
passed_over : (d : SessionData) (i : ℕ) (o : OpData) → Has (site_at d i) o → given true i o d ≡ record { written = []; after = d } ∷ []
passed_over d i o has =
    let s = site_at d i in
    let event : taking_in true o s ≡ record { written = []; after = s } ∷ map free_step (all_releases s) =
    ap (λ v. settling (told_verdict true o v s.number) (after_verdict v o s)) (repeat_judged s o has.0) in
    let alone : taking_in true o s ≡ record { written = []; after = s } ∷ [] =
    event ∙ ap (λ rs. record { written = []; after = s } ∷ map free_step rs) (settled_has_none s has.1) in
    ap (λ es. map (λ (e : Step State).
    record { written = e.written; after = record { sites = set d.sites i e.after; messages = d.messages } }) es) alone
    ∙ ap (λ (xs : List State). record { written = []; after = record { sites = xs; messages = d.messages } } ∷ [])
    (set-get_or d.sites i (new_site i))

-- the deliveries of the first messages, which the site has, as steps that tell nothing and change nothing
record PassedOver (n i : ℕ) (os : List OpData) (d : SessionData) : Type 0 where
  pub steps : List (Step SessionData)
  pub parts : given_all i os d ≡ steps ++ given_all i (drop n os) d
  pub state : last_of d steps ≡ d
  pub written : written_by steps ≡ []

all_passed : (n i : ℕ) (os : List OpData) (d : SessionData) → HasAll (site_at d i) (take n os) → PassedOver n i os d
unfolding given_all last_of written_by
all_passed zero i os d has = record { steps = []; parts = refl; state = refl; written = refl }
all_passed (suc n) i [] d has = record { steps = []; parts = refl; state = refl; written = refl }
all_passed (suc n) i (o ∷ os) d has =
    let nothing : Step SessionData = record { written = []; after = d } in
    let first = passed_over d i o (has o (contains_here o (take n os))) in
    let rest = all_passed n i os d (λ p at. has p (contains_later o (take n os) p at)) in
    record {
      steps = nothing ∷ rest.steps;
      parts = ap (λ es. es ++ given_all i os (last_of d es)) first ∙ ap (λ es. nothing ∷ es) rest.parts;
      state = rest.state;
      written = rest.written;
    }

-- so they are done before any is made
pub known_passed : (n i : ℕ) (os : List OpData) (d : SessionData) (out : List ℕ) → HasAll (site_at d i) (take n os)
    → IsAlong (given_all i os d) d out (given_all i (drop n os) d) d out
known_passed n i os d out has =
    let p = all_passed n i os d has in
    record { done = p.steps; parts = p.parts; state = sym p.state; written = sym (append-nil out) ∙ ap (λ w. out ++ w) (sym p.written) }
