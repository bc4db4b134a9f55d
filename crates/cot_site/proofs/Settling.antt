-- Releases one after the other: each takes one operation out of the waiting ones, so that none is ready after so many.
use Rattle.std.proofs.Common.{◌≡◌, ℕ, zero, suc, ◌<◌, ◌≤◌, true, false, inl, inr, List, [], ◌∷◌, ◌++◌, refl, sym, ap, subst, ◌∙◌, length, take, map, append_assoc, append-nil, arith}
use Rattle.std.specs.Prelude.{Option, Some, None, Contains, option_map, remove}
use Rattle.std.specs.List.{list_any}
use Rattle.std.proofs.lemmas.Bool.{cases_Bool, cond-true, cond-false}
use Rattle.std.proofs.lemmas.List.{map-append, take-take, length-take}
use Rattle.std.proofs.lemmas.List.Edits.{length-remove}
use Rattle.std.proofs.lemmas.Option.{none-some}
use Rattle.std.proofs.Math.Seq.{take-append_seam, take-length}
use Rattle.op_name.specs.declared.member.Member.{Member}
use Rattle.context_diff.specs.Operations.{OpData, IsWellFormed}
use Rattle.context_diff.specs.Histories.{IsNext}
use Rattle.context_diff.specs.Ops.{op_eq}
use Rattle.context_diff.proofs.CallerLemmas.{contains_cases, contains_none, valid_push}
use Rattle.ttf_form.specs.declared.form.Form.{Form}
use Rattle.site_answers.specs.declared.release.Release.{Release}
use Rattle.site_answers.specs.declared.verdict.Verdict.{Verdict}
use Rattle.site_answers.specs.declared.verdict.Verdict.TheVariants.{Repeat, Forged, Waits, NotClosed, PlaceOut, Integrated}
use Rattle.cot_site.specs.States.{State, Released, held, with_last, with_held, first_ready, released, released_at, after_verdict, without_waiting, delivered_again, delivered, judged, IsSettled}
use Rattle.cot_site.specs.Sites.{AllFormed, KeepsForms}
use Rattle.cot_site.specs.Releases.{IsSound, and_more, releases, all_releases, state_after, settled, release_of, IsLater}
use Rattle.cot_site.specs.Code.Releasing.{IsReleasedInto}
use Rattle.cot_site.proofs.Verdicts.{integrated_next}
use Rattle.cot_site.proofs.Releases.{FirstAnswer, first_answer, release_not_waits}
use Rattle.cot_site.proofs.Waiting.{first_within, removed_formed, held_formed}

-- ---- what an event leaves sound

pub sound_more : (s : State) (o : OpData) → IsSound s → IsNext s.history o → IsSound (with_last s o)
sound_more s o sound next = record { number = sound.number; history = valid_push s.history o sound.history next; waiting = sound.waiting }

sound_held : (s : State) (o : OpData) → IsSound s → IsWellFormed o → IsSound (with_held s o)
sound_held s o sound formed = record { number = sound.number; history = sound.history; waiting = all }
  where
    all : AllFormed (held s.waiting o)
    all = elim (cases_Bool (list_any (op_eq o) s.waiting)) [
      | inl there ↦ subst AllFormed (sym (cond-true _ _ _ there)) sound.waiting
      | inr new ↦ subst AllFormed (sym (cond-false _ _ _ new)) (held_formed s.waiting o sound.waiting formed)
    ]

sound_after : (s : State) (o : OpData) (v : Verdict) → IsSound s → IsWellFormed o → judged s o ≡ v → IsSound (after_verdict v o s)
sound_after s o Repeat sound formed is = sound
sound_after s o (Forged n) sound formed is = sound
sound_after s o (Waits m) sound formed is = sound_held s o sound formed
sound_after s o (NotClosed k) sound formed is = sound
sound_after s o (PlaceOut p k) sound formed is = sound
sound_after s o Integrated sound formed is = sound_more s o sound (integrated_next s.history s.waiting o sound.history formed is)

pub sound_delivered : (s : State) (o : OpData) → IsSound s → IsWellFormed o → IsSound (delivered s o)
sound_delivered s o sound formed = sound_after s o (judged s o) sound formed refl

-- ---- one release

-- the released operation, at its place among those that waited
pub record IsTakenAt (s : State) (r : Released) (i : ℕ) : Type 0 where
  pub place : i < length s.waiting
  pub there : Contains s.waiting r.op
  pub is : r ≡ delivered_again (without_waiting s i) r.op

pub taken_at : (s : State) (r : Released) → released s ≡ Some r → (i : ℕ) × IsTakenAt s r i
taken_at s r is = from (first_answer s.history s.waiting)
  where
    from : FirstAnswer s.history s.waiting (first_ready s.history s.waiting) → (i : ℕ) × IsTakenAt s r i
    from (inr (none, _)) = absurd (none-some r (sym (ap (released_at s) none) ∙ is))
    from (inl (i, some, found)) =
        let whole : Some (delivered_again (without_waiting s i) found.op) ≡ Some r =
        sym (ap (released_at s) some ∙ ap (option_map (delivered_again (without_waiting s i))) found.at) ∙ is in
        let same : delivered_again (without_waiting s i) found.op ≡ r = cc in
        let op : found.op ≡ r.op = ap (λ (x : Released). x.op) same in (
          i,
          record {
            place = first_within s.history s.waiting i some;
            there = subst (Contains s.waiting) op found.there;
            is = sym same ∙ ap (delivered_again (without_waiting s i)) op;
          },
        )

pub sound_released : (s : State) (r : Released) → IsSound s → released s ≡ Some r → IsSound r.after
sound_released s r sound is =
    let t = taken_at s r is in
    let left : IsSound (without_waiting s t.0) =
    record { number = sound.number; history = sound.history; waiting = removed_formed s.waiting t.0 sound.waiting } in
    subst IsSound (sym (ap (λ (x : Released). x.after) t.1.is))
    (sound_delivered (without_waiting s t.0) r.op left (sound.waiting r.op t.1.there))

waiting_kept : (v : Verdict) (o : OpData) (s : State) → ((m : Member) → ¬ (v ≡ Waits m)) → (after_verdict v o s).waiting ≡ s.waiting
waiting_kept Repeat o s other = refl
waiting_kept (Forged n) o s other = refl
waiting_kept (Waits m) o s other = absurd (other m refl)
waiting_kept (NotClosed k) o s other = refl
waiting_kept (PlaceOut p k) o s other = refl
waiting_kept Integrated o s other = refl

-- a release takes one operation out of the waiting ones
pub release_fewer : (s : State) (r : Released) → IsSound s → released s ≡ Some r → length s.waiting ≡ suc (length r.after.waiting)
release_fewer s r sound is =
    let t = taken_at s r is in
    let rest = without_waiting s t.0 in
    let waits : (m : Member) → ¬ (judged rest r.op ≡ Waits m) =
    λ m e. release_not_waits s r m sound.history sound.waiting is (ap (λ (x : Released). x.verdict) t.1.is ∙ e) in
    let left : r.after.waiting ≡ remove s.waiting t.0 =
    ap (λ (x : Released). x.after.waiting) t.1.is ∙ waiting_kept (judged rest r.op) r.op rest waits in
    let shorter = length-remove s.waiting t.0 t.1.place in
    omega (arith, shorter, ap length left)

-- a verdict keeps the number, and what was integrated
verdict_number : (v : Verdict) (o : OpData) (s : State) → (after_verdict v o s).number ≡ s.number
verdict_number Repeat o s = refl
verdict_number (Forged n) o s = refl
verdict_number (Waits m) o s = refl
verdict_number (NotClosed k) o s = refl
verdict_number (PlaceOut p k) o s = refl
verdict_number Integrated o s = refl

pub delivered_number : (s : State) (o : OpData) → (delivered s o).number ≡ s.number
delivered_number s o = verdict_number (judged s o) o s

pub release_number : (s : State) (r : Released) → released s ≡ Some r → r.after.number ≡ s.number
release_number s r is =
    let t = taken_at s r is in
    ap (λ (x : Released). x.after.number) t.1.is ∙ delivered_number (without_waiting s t.0) r.op

pub verdict_history : (v : Verdict) (o : OpData) (s : State) → take (length s.history) (after_verdict v o s).history ≡ s.history
verdict_history Repeat o s = take-length s.history
verdict_history (Forged n) o s = take-length s.history
verdict_history (Waits m) o s = take-length s.history
verdict_history (NotClosed k) o s = take-length s.history
verdict_history (PlaceOut p k) o s = take-length s.history
verdict_history Integrated o s = take-append_seam s.history (o ∷ [])

pub release_history : (s : State) (r : Released) → released s ≡ Some r → take (length s.history) r.after.history ≡ s.history
release_history s r is =
    let t = taken_at s r is in
    ap (λ (x : Released). take (length s.history) x.after.history) t.1.is
    ∙ verdict_history (judged (without_waiting s t.0) r.op) r.op (without_waiting s t.0)

-- a list that begins with one that begins with a third begins with the third
pub begins_on : {X : Type 0} (a b c : List X) → take (length a) b ≡ a → take (length b) c ≡ b → take (length a) c ≡ a
begins_on a b c ab bc =
    let shorter : length a ≤ length b = omega (arith, length-take (length a) b, ap length ab) in
    sym (take-take (length a) (length b) c shorter) ∙ ap (take (length a)) bc ∙ ab

-- ---- all releases

pub releases_none : (n : ℕ) (s : State) → released s ≡ None → releases n s ≡ []
unfolding releases
releases_none zero s none = refl
releases_none (suc n) s none = ap (and_more (releases n)) none

pub releases_some : (n : ℕ) (s : State) (r : Released) → released s ≡ Some r → releases (suc n) s ≡ r ∷ releases n r.after
unfolding releases
releases_some n s r some = ap (and_more (releases n)) some

-- all releases are the one that there is, and then all others
pub all_by_one : (s : State) (r : Released) → IsSound s → released s ≡ Some r → all_releases s ≡ r ∷ all_releases r.after
all_by_one s r sound some =
    ap (λ n. releases n s) (release_fewer s r sound some) ∙ releases_some (length r.after.waiting) s r some

pub after_append : (s : State) (rs qs : List Released) → state_after s (rs ++ qs) ≡ state_after (state_after s rs) qs
unfolding state_after
after_append s [] qs = refl
after_append s (r ∷ rs) qs = after_append r.after rs qs

pub after_none : (s : State) → state_after s [] ≡ s
unfolding state_after
after_none s = refl

pub after_more : (s : State) (r : Released) (rs : List Released) → state_after s (r ∷ rs) ≡ state_after r.after rs
unfolding state_after
after_more s r rs = refl

after_one : (s : State) (r : Released) → state_after s (r ∷ []) ≡ r.after
unfolding state_after
after_one s r = refl

-- a state is settled exactly where nothing is released
pub none_released : (s : State) → IsSettled s → released s ≡ None
none_released s settles = ap (released_at s) settles

pub none_settled : (s : State) → released s ≡ None → IsSettled s
none_settled s is = from (first_answer s.history s.waiting)
  where
    from : FirstAnswer s.history s.waiting (first_ready s.history s.waiting) → IsSettled s
    from (inr (none, _)) = none
    from (inl (i, some, found)) =
        absurd (none-some (delivered_again (without_waiting s i) found.op)
        (sym is ∙ (ap (released_at s) some ∙ ap (option_map (delivered_again (without_waiting s i))) found.at)))

pub settled_has_none : (s : State) → IsSettled s → all_releases s ≡ []
settled_has_none s settles = releases_none (length s.waiting) s (none_released s settles)

pub settled_stays : (s : State) → IsSettled s → settled s ≡ s
settled_stays s settles = ap (λ rs. state_after s rs) (settled_has_none s settles) ∙ after_none s

-- ---- the laws

none_waiting : (s : State) → length s.waiting ≤ 0 → IsSettled s
none_waiting s few = from s.waiting few
  where
    from : (w : List OpData) → length w ≤ 0 → first_ready s.history w ≡ None
    from [] few = refl
    from (o ∷ os) few = absurd (omega arith)

releases_zero : (s : State) → releases zero s ≡ []
unfolding releases
releases_zero s = refl

settle_by : (n : ℕ) → ((r : Released) → IsSound r.after → length r.after.waiting ≤ n → IsSettled (state_after r.after (releases n r.after)))
    → (s : State) → IsSound s → length s.waiting ≤ suc n → (r : Option Released) → released s ≡ r
    → IsSettled (state_after s (releases (suc n) s))
settle_by n rest s sound few None none =
    subst IsSettled (sym (ap (state_after s) (releases_none (suc n) s none) ∙ after_none s)) (none_settled s none)
settle_by n rest s sound few (Some r) some =
    subst IsSettled (sym (ap (state_after s) (releases_some n s r some) ∙ after_more s r (releases n r.after)))
    (rest r (sound_released s r sound some) (omega (arith, few, release_fewer s r sound some)))

-- after as many releases as there are operations that wait, none is ready
pub releases_settle : (n : ℕ) (s : State) → IsSound s → length s.waiting ≤ n → IsSettled (state_after s (releases n s))
releases_settle zero s sound few = subst IsSettled (sym (ap (state_after s) (releases_zero s) ∙ after_none s)) (none_waiting s few)
releases_settle (suc n) s sound few = settle_by n (λ r after less. releases_settle n r.after after less) s sound few (released s) refl

pub settled_settles : (s : State) → IsSound s → IsSettled (settled s)
settled_settles s sound = releases_settle (length s.waiting) s sound (omega arith)

few_by : (n : ℕ) → ((s : State) → length (releases n s) ≤ n) → (s : State) (r : Option Released) → released s ≡ r
    → length (releases (suc n) s) ≤ suc n
few_by n rest s None none = subst (λ (rs : List Released). length rs ≤ suc n) (sym (releases_none (suc n) s none)) (omega arith)
few_by n rest s (Some r) some =
    subst (λ (rs : List Released). length rs ≤ suc n) (sym (releases_some n s r some)) (omega (arith, rest r.after))

pub releases_few : (n : ℕ) (s : State) → length (releases n s) ≤ n
releases_few zero s = subst (λ (rs : List Released). length rs ≤ zero) (sym (releases_zero s)) (omega arith)
releases_few (suc n) s = few_by n (releases_few n) s (released s) refl

-- the first of a list of releases, and the others
pub record IsFirstOf (n : ℕ) (s : State) (r : Released) (rs : List Released) : Type 0 where
  pub release : released s ≡ Some r
  pub more : ℕ
  pub one_more : n ≡ suc more
  pub rest : releases more r.after ≡ rs

first_of_some : (n : ℕ) (s : State) (q r : Released) (rs : List Released) → released s ≡ Some q → q ∷ releases n q.after ≡ r ∷ rs
    → IsFirstOf (suc n) s r rs
first_of_some n s q r rs some at =
    let same : q ≡ r = cc in
    let others : releases n q.after ≡ rs = cc in
    record {
      release = some ∙ ap (λ x. Some x) same;
      more = n;
      one_more = refl;
      rest =
          ap (λ (x : Released). releases n x.after) (sym same) ∙ others;
    }

first_of_by : (n : ℕ) (s : State) (r : Released) (rs : List Released) (q : Option Released) → released s ≡ q → releases (suc n) s ≡ r ∷ rs
    → IsFirstOf (suc n) s r rs
first_of_by n s r rs None none at = absurd (empty r rs (sym (releases_none (suc n) s none) ∙ at))
  where
    empty : (r : Released) (rs : List Released) → [] ≡ r ∷ rs → ⊥
    empty r rs e = cc
first_of_by n s r rs (Some q) some at = first_of_some n s q r rs some (sym (releases_some n s q some) ∙ at)

first_of : (n : ℕ) (s : State) (r : Released) (rs : List Released) → releases n s ≡ r ∷ rs → IsFirstOf n s r rs
first_of zero s r rs at = absurd (empty r rs (sym (releases_zero s) ∙ at))
  where
    empty : (r : Released) (rs : List Released) → [] ≡ r ∷ rs → ⊥
    empty r rs e = cc
first_of (suc n) s r rs at = first_of_by n s r rs (released s) refl at

-- each release is the first ready one of the state before it
pub release_at : (n : ℕ) (s : State) (done : List Released) (r : Released) (left : List Released) → releases n s ≡ done ++ r ∷ left
    → released (state_after s done) ≡ Some r
release_at n s [] r left at = ap (λ x. released x) (after_none s) ∙ (first_of n s r left at).release
release_at n s (d ∷ ds) r left at =
    let f = first_of n s d (ds ++ r ∷ left) at in
    ap (λ x. released x) (after_more s d ds) ∙ release_at f.more d.after ds r left f.rest

pub later_same : (s : State) → IsLater s s
later_same s = record { number = refl; history = take-length s.history }

pub later_on : (s t u : State) → IsLater s t → IsLater t u → IsLater s u
later_on s t u a b = record { number = b.number ∙ a.number; history = begins_on s.history t.history u.history a.history b.history }

pub later_released : (s : State) (r : Released) → released s ≡ Some r → IsLater s r.after
later_released s r is = record { number = release_number s r is; history = release_history s r is }

-- each release leaves a sound state, which is a later one of the same site
pub sound_along : (n : ℕ) (s : State) (done left : List Released) → IsSound s → releases n s ≡ done ++ left
    → IsSound (state_after s done) × IsLater s (state_after s done)
sound_along n s [] left sound at = subst (λ t. IsSound t × IsLater s t) (sym (after_none s)) (sound, later_same s)
sound_along n s (d ∷ ds) left sound at =
    let f = first_of n s d (ds ++ left) at in
    let rest = sound_along f.more d.after ds left (sound_released s d sound f.release) f.rest in
    subst (λ t. IsSound t × IsLater s t) (sym (after_more s d ds))
    (rest.0, later_on s d.after (state_after d.after ds) (later_released s d f.release) rest.1)

never_by : (n : ℕ) → ((t : State) (q : Released) (k : Member) → IsSound t → Contains (releases n t) q → ¬ (q.verdict ≡ Waits k))
    → (s : State) (r : Released) (m : Member) → IsSound s → (p : Option Released) → released s ≡ p → Contains (releases (suc n) s) r
    → ¬ (r.verdict ≡ Waits m)
never_by n rest s r m sound None none there = absurd (contains_none r (subst (λ rs. Contains rs r) (releases_none (suc n) s none) there))
never_by n rest s r m sound (Some p) some there =
    elim (contains_cases p (releases n p.after) r (subst (λ rs. Contains rs r) (releases_some n s p some) there)) [
      | inl same ↦ subst (λ (x : Released). ¬ (x.verdict ≡ Waits m)) same (release_not_waits s p m sound.history sound.waiting some)
      | inr later ↦ rest p.after r m (sound_released s p sound some) later
    ]

-- no release answers that the operation waits
pub releases_not_wait : (n : ℕ) (s : State) (r : Released) (m : Member) → IsSound s → Contains (releases n s) r → ¬ (r.verdict ≡ Waits m)
releases_not_wait zero s r m sound there = absurd (contains_none r (subst (λ rs. Contains rs r) (releases_zero s) there))
releases_not_wait (suc n) s r m sound there = never_by n (releases_not_wait n) s r m sound (released s) refl there

-- ---- on the way to the settled state

-- some releases were done and listed, and those of the state that was reached are left
pub record IsSettling (s now : State) (old new : List Release) : Type 0 where
  pub sound : IsSound s
  pub done : List Released
  pub parts : all_releases s ≡ done ++ all_releases now
  pub state : now ≡ state_after s done
  pub listed : new ≡ old ++ map release_of done

pub settling_first : (s : State) (old : List Release) → IsSound s → IsSettling s s old old
settling_first s old sound = record { sound = sound; done = []; parts = refl; state = sym (after_none s); listed = sym (append-nil old) }

pub settling_more : (s now next : State) (old new more : List Release) → IsSettling s now old new → IsReleasedInto now next new more true
    → IsSettling s next old more
settling_more s now next old new more w (r, is, after, listed) =
    let sound : IsSound now = subst IsSound (sym w.state) (sound_along (length s.waiting) s w.done (all_releases now) w.sound w.parts).0 in
    record {
      sound = w.sound;
      done = w.done ++ r ∷ [];
      parts =
          w.parts
          ∙ ap (λ rs. w.done ++ rs) (all_by_one now r sound is ∙ ap (λ (t : State). r ∷ all_releases t) (sym after))
          ∙ sym (append_assoc w.done (r ∷ []) (all_releases next));
      state = after ∙ sym (after_one now r) ∙ ap (λ t. state_after t (r ∷ [])) w.state ∙ sym (after_append s w.done (r ∷ []));
      listed =
          listed
          ∙ ap (λ rs. rs ++ release_of r ∷ []) w.listed
          ∙ append_assoc old (map release_of w.done) (release_of r ∷ [])
          ∙ ap (λ rs. old ++ rs) (sym (map-append release_of w.done (r ∷ [])));
    }

pub settling_fewer : (s now next : State) (old new more : List Release) → IsSettling s now old new → IsReleasedInto now next new more true
    → length next.waiting < length now.waiting
settling_fewer s now next old new more w (r, is, after, listed) =
    let sound : IsSound now = subst IsSound (sym w.state) (sound_along (length s.waiting) s w.done (all_releases now) w.sound w.parts).0 in
    omega (arith, release_fewer now r sound is, ap (λ (t : State). length t.waiting) after)

settling_all : (s now : State) (old new : List Release) → (w : IsSettling s now old new) → released now ≡ None → all_releases s ≡ w.done
settling_all s now old new w none = w.parts ∙ ap (λ rs. w.done ++ rs) (releases_none (length now.waiting) now none) ∙ append-nil w.done

-- nothing more is released: the state is settled, and all releases are listed
pub settling_last : (s now next : State) (old new more : List Release) → IsSettling s now old new → IsReleasedInto now next new more false
    → (next ≡ settled s) × (more ≡ old ++ map release_of (all_releases s))
settling_last s now next old new more w (none, same, kept) =
    let all = settling_all s now old new w none in (
      same ∙ w.state ∙ ap (λ rs. state_after s rs) (sym all),
      kept ∙ w.listed ∙ ap (λ rs. old ++ map release_of rs) (sym all),
    )

-- ---- the forms

pub forms_same : (fs : List Form) → KeepsForms fs fs
forms_same fs = take-length fs

pub forms_on : (fs gs hs : List Form) → KeepsForms fs gs → KeepsForms gs hs → KeepsForms fs hs
forms_on fs gs hs a b = begins_on fs gs hs a b
