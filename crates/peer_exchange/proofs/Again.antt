-- Taking in what a site has already: each operation is a repeat, and lets go only what is ready.
use Rattle.std.proofs.Common.{◌≡◌, ℕ, zero, suc, true, inl, inr, List, [], ◌∷◌, ◌++◌, length, Ok, refl, ap, sym, subst, ◌∙◌, append-nil}
use Rattle.std.proofs.Common.{append_assoc}
use Rattle.std.specs.Prelude.{Contains, Option, Some, None}
use Rattle.std.proofs.lemmas.Bool.{cases_Bool}
use Rattle.std.proofs.lemmas.List.Elements.{Contains-append_left, Contains-append_right, Contains-append_cases}
use Rattle.std.proofs.lemmas.Option.{none-some}
use Rattle.op_name.specs.declared.member.Member.TheVariants.{Original}
use Rattle.op_name.specs.NameData.{NameData}
use Rattle.context_diff.specs.Operations.{OpData, inserting, deleting, undoing, member_of, IsWellFormed}
use Rattle.context_diff.specs.Histories.{is_known, IsValid}
use Rattle.context_diff.proofs.CallerLemmas.{contains_cases, contains_here, contains_later, contains_none, known_member}
use Rattle.site_answers.specs.declared.verdict.Verdict.{Verdict}
use Rattle.site_answers.specs.declared.verdict.Verdict.TheVariants.{Repeat}
use Rattle.cot_site.specs.Verdicts.{IsRepeat}
use Rattle.cot_site.specs.States.{State, Released, judged, delivered, after_verdict, released, released_at, IsSettled}
use Rattle.cot_site.specs.Releases.{IsSound, IsLater, and_more, releases, all_releases, state_after, settled}
use Rattle.cot_site.specs.Sites.{AllFormed}
use Rattle.cot_site.proofs.CallerLemmas.{group_reached, settled_settles, settled_stays, sound_along, sound_delivered, unknown_no_repeat}
use Rattle.cot_site.proofs.CallerLemmas.{verdicts_exact, after_append, after_more, after_none, later_on}
use Rattle.participant.specs.Taking.{is_had}
use Rattle.peer_exchange.specs.Taking.{all_taken_in, IsPartlyTaken, IsBefore, IsOnTheWay}
use Rattle.peer_exchange.proofs.FirstTaken.{had_cases, same_after_none, taken_first, first_taken}
use Rattle.peer_exchange.proofs.LackedTaken.{known_later, has_later}
use Rattle.peer_exchange.proofs.Later.{later_delivered, later_settled, settled_later, taking_in_keeps_histories}
use Rattle.peer_exchange.proofs.Receivings.{taken_append}

-- ---- what a site has is a repeat

-- the operation's member is known, and an original is known with this content
pub record Has (h : List OpData) (o : OpData) : Type 0 where
  pub known : is_known h (member_of o) ≡ true
  pub same : (n : NameData) → member_of o ≡ Original n → Contains h o

repeat_of : (h : List OpData) (o : OpData) → IsValid h → Has h o → IsRepeat h o
repeat_of h (inserting n p text c) valid has = has.same n refl
repeat_of h (deleting n p c) valid has = has.same n refl
repeat_of h (undoing a t g c) valid has = group_reached h valid t g has.known

same_of : (h : List OpData) (o : OpData) (n : NameData) → IsRepeat h o → member_of o ≡ Original n → Contains h o
same_of h (inserting m p text c) n is named = is
same_of h (deleting m p c) n is named = is
same_of h (undoing a t g c) n is named = absurd (let never = named in cc)

has_of : (h : List OpData) (o : OpData) → IsValid h → IsWellFormed o → IsRepeat h o → Has h o
has_of h o valid formed is = record {
  known = elim (cases_Bool (is_known h (member_of o))) [
    | inl known ↦ known
    | inr fresh ↦ absurd (unknown_no_repeat h valid o formed fresh is)
  ];
  same = λ n named. same_of h o n is named;
}

pub has_on : (s t : State) (o : OpData) → IsLater s t → Has s.history o → Has t.history o
has_on s t o later has = record {
  known = known_later s t later (member_of o) has.known;
  same = λ n named. has_later s t later o (has.same n named);
}

pub judged_repeat : (t : State) (o : OpData) → IsSound t → IsWellFormed o → Has t.history o → judged t o ≡ Repeat
judged_repeat t o sound formed has =
    sym ((verdicts_exact t.history t.waiting o Repeat sound.history formed).0 (repeat_of t.history o sound.history has))

-- so it is after the delivery of an operation that is taken in
had_has : (s : State) (o : OpData) → IsSound s → IsWellFormed o → is_had (judged s o) ≡ true → Has (delivered s o).history o
had_has s o sound formed had = elim (had_cases (judged s o) had) [
  | inl is ↦
      let more : (delivered s o).history ≡ s.history ++ o ∷ [] = ap (λ (x : Verdict). (after_verdict x o s).history) is in
      let there : Contains (delivered s o).history o =
      subst (λ (h : List OpData). Contains h o) (sym more) (Contains-append_right s.history (o ∷ []) o (contains_here o [])) in
      record { known = known_member (delivered s o).history o there; same = λ n named. there }
  | inr is ↦
      let same : delivered s o ≡ s = ap (λ (x : Verdict). after_verdict x o s) is in
      let repeated : IsRepeat s.history o = (verdicts_exact s.history s.waiting o Repeat sound.history formed).1 (sym is) in
      subst (λ (t : State). Has t.history o) (sym same) (has_of s.history o sound.history formed repeated)
]

-- ---- what was taken in is there

all_behind : (o : OpData) (os : List OpData) → AllFormed (o ∷ os) → AllFormed os
all_behind o os formed p at = formed p (contains_later o os p at)

pub taken_has : (s t : State) (os : List OpData) → IsSound s → AllFormed os → all_taken_in s os ≡ Ok t → (o : OpData) → Contains os o
    → Has t.history o
taken_has s t [] sound formed e o at = absurd (contains_none o at)
taken_has s t (p ∷ os) sound formed e o at =
    let fine = formed p (contains_here p os) in
    let first = first_taken s t p os e in
    let next = settled (delivered s p) in
    let sound_next = (later_settled s p sound fine).0 in
    let to_end = (taking_in_keeps_histories next t os sound_next (all_behind p os formed) first.1).1 in
    elim (contains_cases p os o at) [
      | inl same ↦ subst (Has t.history) same
          (has_on (delivered s p) t p (later_on (delivered s p) next t (settled_later s p sound fine) to_end)
          (had_has s p sound fine first.0))
      | inr later ↦ taken_has next t os sound_next (all_behind p os formed) first.1 o later
    ]

-- and nothing is ready then
taken_settled : (s t : State) (os : List OpData) → IsSound s → AllFormed os → IsSettled s → all_taken_in s os ≡ Ok t → IsSettled t
taken_settled s t [] sound formed settles e = subst IsSettled (same_after_none s t e) settles
taken_settled s t (o ∷ os) sound formed settles e =
    let fine = formed o (contains_here o os) in
    let first = first_taken s t o os e in
    taken_settled (settled (delivered s o)) t os (later_settled s o sound fine).0 (all_behind o os formed)
    (settled_settles (delivered s o) (sound_delivered s o sound fine)) first.1

-- whatever was ready before
pub some_settle : (s t : State) (o : OpData) (os : List OpData) → IsSound s → AllFormed (o ∷ os) → all_taken_in s (o ∷ os) ≡ Ok t
    → IsSettled t
some_settle s t o os sound formed e =
    let fine = formed o (contains_here o os) in
    taken_settled (settled (delivered s o)) t os (later_settled s o sound fine).0 (all_behind o os formed)
    (settled_settles (delivered s o) (sound_delivered s o sound fine)) (first_taken s t o os e).1

-- ---- repeats once more

repeat_first : (t : State) (o : OpData) (os : List OpData) → judged t o ≡ Repeat → all_taken_in t (o ∷ os) ≡ all_taken_in (settled t) os
repeat_first t o os is =
    let same : delivered t o ≡ t = ap (λ (x : Verdict). after_verdict x o t) is in
    taken_first t o os (ap is_had is) ∙ ap (λ (y : State). all_taken_in (settled y) os) same

pub repeats_pass : (u : State) (xs os : List OpData) → IsSound u → IsSettled u → AllFormed xs
    → ((o : OpData) → Contains xs o → Has u.history o)
    → all_taken_in u (xs ++ os) ≡ all_taken_in u os
repeats_pass u [] os sound settles formed has = refl
repeats_pass u (o ∷ xs) os sound settles formed has =
    repeat_first u o (xs ++ os) (judged_repeat u o sound (formed o (contains_here o xs)) (has o (contains_here o xs)))
    ∙ (ap (λ (t : State). all_taken_in t (xs ++ os)) (settled_stays u settles)
    ∙ repeats_pass u xs os sound settles (all_behind o xs formed) (λ p at. has p (contains_later o xs p at)))

-- all releases of a sound state leave a later one
settled_is : (t : State) → IsSound t → IsSound (settled t) × IsLater t (settled t)
settled_is t sound = sound_along (length t.waiting) t (all_releases t) [] sound (sym (append-nil (all_releases t)))

-- the first repeat lets go what is ready, and the others change nothing
repeats_settle : (t : State) (o : OpData) (xs os : List OpData) → IsSound t → AllFormed (o ∷ xs)
    → ((p : OpData) → Contains (o ∷ xs) p → Has t.history p)
    → all_taken_in t ((o ∷ xs) ++ os) ≡ all_taken_in (settled t) os
repeats_settle t o xs os sound formed has =
    let u = settled_is t sound in
    repeat_first t o (xs ++ os) (judged_repeat t o sound (formed o (contains_here o xs)) (has o (contains_here o xs)))
    ∙ repeats_pass (settled t) xs os u.0 (settled_settles t sound) (all_behind o xs formed)
    (λ p at. has_on t (settled t) p u.1 (has p (contains_later o xs p at)))

-- ---- releases that were cut short

-- each is the release of the state before it
abbrev Follow : State → List Released → Type 0
Follow s [] = Unit {0}
Follow s (r ∷ rs) = (released s ≡ Some r) × Follow r.after rs

releases_follow : (n : ℕ) (s : State) (rs : List Released) → releases n s ≡ rs → Follow s rs
unfolding releases
releases_follow n s [] e = tt
releases_follow zero s (r ∷ rs) e = absurd (let never = e in cc)
releases_follow (suc n) s (r ∷ rs) e = from (λ rest. releases_follow n r.after rs rest) (released s) refl e
  where
    from : (releases n r.after ≡ rs → Follow r.after rs) → (p : Option Released) → released s ≡ p → and_more (releases n) p ≡ r ∷ rs
        → Follow s (r ∷ rs)
    from again None is got = absurd (let never = got in cc)
    from again (Some q) is got =
        let same : q ≡ r = cc in
        let rest : releases n q.after ≡ rs = cc in
        (is ∙ ap (λ (x : Released). Some x) same, again (ap (λ (x : Released). releases n x.after) (sym same) ∙ rest))

follow_behind : (s : State) (done left : List Released) → Follow s (done ++ left) → Follow (state_after s done) left
follow_behind s [] left follow = subst (λ (t : State). Follow t left) (sym (after_none s)) follow
follow_behind s (r ∷ done) left follow =
    subst (λ (t : State). Follow t left) (sym (after_more s r done)) (follow_behind r.after done left follow.1)

-- releases up to a state at which none is ready are all that there are
follow_all : (n : ℕ) (t : State) (left : List Released) → Follow t left → released (state_after t left) ≡ None
    → released (state_after t (releases n t)) ≡ None → releases n t ≡ left
unfolding releases state_after
follow_all zero t [] follow none end = refl
follow_all zero t (r ∷ left) follow none end = absurd (none-some r (sym end ∙ follow.0))
follow_all (suc n) t [] follow none end = ap (and_more (releases n)) none
follow_all (suc n) t (r ∷ left) follow none end =
    let more : releases (suc n) t ≡ r ∷ releases n r.after = ap (and_more (releases n)) follow.0 in
    more ∙ ap (λ (rs : List Released). r ∷ rs) (follow_all n r.after left follow.1 none
    (ap (λ (rs : List Released). released (state_after t rs)) (sym more) ∙ end))

-- what is left of the releases leads to the same state
left_settles : (d : State) (done left : List Released) → IsSound d → all_releases d ≡ done ++ left
    → settled (state_after d done) ≡ settled d
left_settles d done left sound parts =
    let t = state_after d done in
    let along = sound_along (length d.waiting) d done left sound parts in
    let whole : settled d ≡ state_after t left = ap (state_after d) parts ∙ after_append d done left in
    let none : released (state_after t left) ≡ None = ap released (sym whole) ∙ ap (released_at (settled d)) (settled_settles d sound) in
    let end : released (settled t) ≡ None = ap (released_at (settled t)) (settled_settles t along.0) in
    let follow = follow_behind d done left (releases_follow (length d.waiting) d (done ++ left) parts) in
    ap (state_after t) (follow_all (length t.waiting) t left follow none end) ∙ sym whole

-- ---- on the way

-- some operations were taken in, and no more
pub taken_again : (s at : State) (before behind : List OpData) → IsSound s → AllFormed before → all_taken_in s before ≡ Ok at
    → all_taken_in at (before ++ behind) ≡ all_taken_in at behind
taken_again s at [] behind sound formed e = refl
taken_again s at (o ∷ before) behind sound formed e =
    let later = taking_in_keeps_histories s at (o ∷ before) sound formed e in
    repeats_pass at (o ∷ before) behind later.0 (some_settle s at o before sound formed e) formed
    (taken_has s at (o ∷ before) sound formed e)

-- all operations of the front that are there again are repeats, the first of which lets go what is ready
front_again : (t : State) (before : List OpData) (o : OpData) (os : List OpData) → IsSound t → AllFormed (before ++ o ∷ [])
    → ((p : OpData) → Contains (before ++ o ∷ []) p → Has t.history p)
    → all_taken_in t (before ++ o ∷ os) ≡ all_taken_in (settled t) os
front_again t [] o os sound formed has = repeats_settle t o [] os sound formed has
front_again t (p ∷ before) o os sound formed has =
    ap (all_taken_in t) (sym (append_assoc (p ∷ before) (o ∷ []) os)) ∙ repeats_settle t p (before ++ o ∷ []) os sound formed has

-- the first of those after it was taken in in part
partly_again : (s at t : State) (before : List OpData) (o : OpData) (os : List OpData) → IsSound s → AllFormed (before ++ o ∷ os)
    → all_taken_in s before ≡ Ok at
    → IsPartlyTaken at o t → all_taken_in t (before ++ o ∷ os) ≡ all_taken_in at (o ∷ os)
partly_again s at t before o os sound formed e p =
    let front : AllFormed before = λ q there. formed q (Contains-append_left before (o ∷ os) q there) in
    let fine : IsWellFormed o = formed o (Contains-append_right before (o ∷ os) o (contains_here o os)) in
    let to_at = taking_in_keeps_histories s at before sound front e in
    let d = delivered at o in
    let sound_d = sound_delivered at o to_at.0 fine in
    let half = p.untaken.2 in
    let had : is_had (judged at o) ≡ true = subst (λ (v : Verdict). is_had v ≡ true) p.untaken.1 p.untaken.0 in
    let along = sound_along (length d.waiting) d half.done half.left sound_d half.parts in
    let sound_t : IsSound t = subst IsSound (sym half.state) along.0 in
    let later_d : IsLater d t = subst (IsLater d) (sym half.state) along.1 in
    let all : AllFormed (before ++ o ∷ []) = λ q there. elim (Contains-append_cases before (o ∷ []) q there) [
      | inl old ↦ front q old
      | inr last ↦ elim (contains_cases o [] q last) [
        | inl same ↦ subst IsWellFormed same fine
        | inr never ↦
            absurd (contains_none q never)
      ]
    ] in
    let later_at : IsLater at t = later_on at d t (later_delivered at o) later_d in
    let has : (q : OpData) → Contains (before ++ o ∷ []) q → Has t.history q =
    λ q there. elim (Contains-append_cases before (o ∷ []) q there) [
      | inl old ↦ has_on at t q later_at (taken_has s at before sound front e q old)
      | inr last ↦ elim (contains_cases o [] q last) [
        | inl same ↦ subst (Has t.history) same (has_on d t o later_d (had_has at o to_at.0 fine had))
        | inr never ↦ absurd (contains_none q never)
      ]
    ] in
    front_again t before o os sound_t all has
    ∙ (ap (λ (x : State). all_taken_in x os) (ap settled half.state ∙ left_settles d half.done half.left sound_d half.parts)
    ∙ sym (taken_first at o os had))

reached_again : (s at t : State) (before behind : List OpData) → IsSound s → AllFormed (before ++ behind)
    → all_taken_in s before ≡ Ok at → IsBefore at behind t
    → all_taken_in t (before ++ behind) ≡ all_taken_in at behind
reached_again s at t before [] sound formed e is =
    ap (λ (x : State). all_taken_in x (before ++ [])) is
    ∙ taken_again s at before [] sound (λ o there. formed o (Contains-append_left before [] o there)) e
reached_again s at t before (o ∷ os) sound formed e (inl is) =
    ap (λ (x : State). all_taken_in x (before ++ o ∷ os)) is
    ∙ taken_again s at before (o ∷ os) sound (λ q there. formed q (Contains-append_left before (o ∷ os) q there)) e
reached_again s at t before (o ∷ os) sound formed e (inr p) = partly_again s at t before o os sound formed e p

-- at a state on the way through these operations they are taken in as at the state before
pub way_again : (s t : State) (os : List OpData) → IsSound s → AllFormed os → IsOnTheWay s os t → all_taken_in t os ≡ all_taken_in s os
way_again s t os sound formed w =
    let all : AllFormed (w.before ++ w.behind) = subst AllFormed w.parts formed in
    ap (all_taken_in t) w.parts
    ∙ (reached_again s w.at t w.before w.behind sound all w.taken w.reached
    ∙ (sym (taken_append s w.at w.before w.behind w.taken) ∙ ap (all_taken_in s) (sym w.parts)))
