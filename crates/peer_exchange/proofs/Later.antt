-- Taking in keeps a site sound, and what it integrated stays the first part of its history.
use Rattle.std.proofs.Common.{◌≡◌, inl, inr, List, [], ◌∷◌, ◌++◌, length, refl, sym, subst, append-nil}
use Rattle.std.proofs.Math.Seq.{take-length}
use Rattle.std.proofs.lemmas.List.Elements.{Contains-append_left, Contains-append_right}
use Rattle.context_diff.specs.Operations.{OpData, IsWellFormed}
use Rattle.context_diff.proofs.CallerLemmas.{contains_here, contains_later}
use Rattle.cot_site.specs.States.{State, Released, judged, delivered}
use Rattle.cot_site.specs.Releases.{IsSound, IsLater, all_releases, state_after, settled}
use Rattle.cot_site.specs.Sites.{AllFormed}
use Rattle.cot_site.proofs.CallerLemmas.{delivered_number, sound_along, sound_delivered, verdict_history, later_on}
use Rattle.peer_exchange.specs.declared.peer.Peer.{Peer}
use Rattle.peer_exchange.specs.declared.peer.Peer.TheVariants as peer
use Rattle.peer_exchange.specs.Taking.{IsPartlyTaken, IsBefore, IsOnTheWay, TakingInKeepsHistories}
use Rattle.peer_exchange.specs.Code.Receiving.{AreUntaken}
use Rattle.peer_exchange.proofs.FirstTaken.{same_after_none, first_taken}

pub later_same : (s : State) → IsLater s s
later_same s = record { number = refl; history = take-length s.history }

pub later_delivered : (s : State) (o : OpData) → IsLater s (delivered s o)
later_delivered s o = record { number = delivered_number s o; history = verdict_history (judged s o) o s }

-- after the delivery, some releases
later_released : (s : State) (o : OpData) (done left : List Released) → IsSound s → IsWellFormed o
    → all_releases (delivered s o) ≡ done ++ left
    → IsSound (state_after (delivered s o) done) × IsLater s (state_after (delivered s o) done)
later_released s o done left sound formed parts =
    let d = delivered s o in
    let along = sound_along (length d.waiting) d done left (sound_delivered s o sound formed) parts in
    (along.0, later_on s d (state_after d done) (later_delivered s o) along.1)

-- the releases alone
pub settled_later : (s : State) (o : OpData) → IsSound s → IsWellFormed o → IsLater (delivered s o) (settled (delivered s o))
settled_later s o sound formed =
    let d = delivered s o in
    (sound_along (length d.waiting) d (all_releases d) [] (sound_delivered s o sound formed) (sym (append-nil (all_releases d)))).1

pub later_settled : (s : State) (o : OpData) → IsSound s → IsWellFormed o
    → IsSound (settled (delivered s o)) × IsLater s (settled (delivered s o))
later_settled s o sound formed =
    later_released s o (all_releases (delivered s o)) [] sound formed (sym (append-nil (all_releases (delivered s o))))

pub taking_in_keeps_histories : TakingInKeepsHistories
taking_in_keeps_histories s t [] sound formed e =
    subst (λ (x : State). IsSound x × IsLater s x) (same_after_none s t e) (sound, later_same s)
taking_in_keeps_histories s t (o ∷ os) sound formed e =
    let next = settled (delivered s o) in
    let first = later_settled s o sound (formed o (contains_here o os)) in
    let rest = taking_in_keeps_histories next t os first.0 (λ p at. formed p (contains_later o os p at)) (first_taken s t o os e).1 in
    (rest.0, later_on s next t first.1 rest.1)

formed_front : (before behind : List OpData) → AllFormed (before ++ behind) → AllFormed before
formed_front before behind formed o at = formed o (Contains-append_left before behind o at)

partly_later : (s t : State) (o : OpData) → IsSound s → IsWellFormed o → IsPartlyTaken s o t → IsSound t × IsLater s t
partly_later s t o sound formed p =
    let half = p.untaken.2 in
    subst (λ (x : State). IsSound x × IsLater s x) (sym half.state) (later_released s o half.done half.left sound formed half.parts)

later_before : (s t : State) (os : List OpData) → IsSound s → AllFormed os → IsBefore s os t → IsLater s t
later_before s t [] sound formed is = subst (IsLater s) (sym is) (later_same s)
later_before s t (o ∷ os) sound formed (inl is) = subst (IsLater s) (sym is) (later_same s)
later_before s t (o ∷ os) sound formed (inr p) = (partly_later s t o sound (formed o (contains_here o os)) p).1

-- also where they aren't all taken in
pub untaken_later : (s t : State) (os : List OpData) (why : Peer) → IsSound s → AllFormed os → AreUntaken s os t why → IsLater s t
untaken_later s t os (peer.Bytes offset cause) sound formed never = absurd never
untaken_later s t os (peer.Op member verdict) sound formed r =
    let all : AllFormed (r.before ++ r.op ∷ r.behind) = subst AllFormed r.parts formed in
    (taking_in_keeps_histories s t r.before sound (formed_front r.before (r.op ∷ r.behind) all) r.taken).1
untaken_later s t os peer.Memory sound formed w =
    let all : AllFormed (w.before ++ w.behind) = subst AllFormed w.parts formed in
    let front = taking_in_keeps_histories s w.at w.before sound (formed_front w.before w.behind all) w.taken in
    later_on s w.at t front.1 (later_before w.at t w.behind front.0 (λ o at. all o (Contains-append_right w.before w.behind o at))
    w.reached)

sound_before : (s t : State) (os : List OpData) → IsSound s → AllFormed os → IsBefore s os t → IsSound t
sound_before s t [] sound formed is = subst IsSound (sym is) sound
sound_before s t (o ∷ os) sound formed (inl is) = subst IsSound (sym is) sound
sound_before s t (o ∷ os) sound formed (inr p) = (partly_later s t o sound (formed o (contains_here o os)) p).0

-- a state on the way is sound
pub way_sound : (s t : State) (os : List OpData) → IsSound s → AllFormed os → IsOnTheWay s os t → IsSound t
way_sound s t os sound formed w =
    let all : AllFormed (w.before ++ w.behind) = subst AllFormed w.parts formed in
    let front = taking_in_keeps_histories s w.at w.before sound (formed_front w.before w.behind all) w.taken in
    sound_before w.at t w.behind front.0 (λ o at. all o (Contains-append_right w.before w.behind o at)) w.reached
