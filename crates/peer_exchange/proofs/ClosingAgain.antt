-- A message that was taken in changes nothing when it comes again.
use Rattle.std.proofs.Common.{◌≡◌, ℕ, inl, inr, List, [], ◌∷◌, ◌++◌, length, drop, Result, Ok, refl, ap, sym, subst, ◌∙◌, append-nil}
use Rattle.std.specs.Prelude.{Contains}
use Rattle.std.proofs.lemmas.List.{drop_at}
use Rattle.std.proofs.lemmas.List.Elements.{Contains-append_left, Contains-append_right}
use Rattle.context_vector.specs.Contexts.{ContextData, has}
use Rattle.context_diff.specs.Operations.{OpData, IsWellFormed}
use Rattle.context_diff.proofs.CallerLemmas.{contains_here}
use Rattle.site_answers.specs.declared.verdict.Verdict.{Verdict}
use Rattle.cot_site.specs.States.{State, delivered, after_verdict, IsSettled}
use Rattle.cot_site.specs.Releases.{IsSound, IsLater, all_releases, state_after}
use Rattle.cot_site.specs.Sites.{AllFormed}
use Rattle.cot_site.proofs.CallerLemmas.{after_none, settled_has_none}
use Rattle.peer_exchange.specs.declared.peer.Peer.{Peer}
use Rattle.peer_exchange.specs.declared.peer.Peer.TheVariants as peer
use Rattle.peer_exchange.specs.Joins.{unseen}
use Rattle.peer_exchange.specs.Messages.{third_message, IsSecond, IsThird}
use Rattle.peer_exchange.specs.Taking.{Refusal, all_taken_in, IsPartlyTaken, IsBefore, IsOnTheWay}
use Rattle.peer_exchange.specs.Closing.{IsClosed, IsFinished, IsUnclosed, IsUnfinished}
use Rattle.peer_exchange.specs.Again.{IsClosedAgain, ClosingAgainChangesNothing, ClosingLaterChangesNothing}
use Rattle.peer_exchange.proofs.FirstTaken.{same_after_none, taken_none}
use Rattle.peer_exchange.proofs.Later.{taking_in_keeps_histories}
use Rattle.peer_exchange.proofs.OneThing.{messages_tell_one_thing}
use Rattle.peer_exchange.proofs.Again.{Has, has_on, judged_repeat, repeats_pass, taken_again, taken_has, some_settle}
use Rattle.peer_exchange.proofs.NotRefused.{unclosed_why, unfinished_why}

one_end : (s t u : State) (os : List OpData) → all_taken_in s os ≡ Ok t → all_taken_in s os ≡ Ok u → u ≡ t
one_end s t u os e f = let same : ◌≡◌ {A = Result State Refusal} (Ok u) (Ok t) = sym f ∙ e in cc

front_none : {X : Type 0} (xs ys : List X) → xs ++ ys ≡ [] → xs ≡ []
front_none [] ys e = refl
front_none (x ∷ xs) ys e = absurd (let never = e in cc)

-- ---- at a settled site that has them

module _ (t : State) (sound : IsSound t) (settles : IsSettled t) where
  abbrev HasAll : List OpData → Type 0
  HasAll os = (o : OpData) → Contains os o → Has t.history o

  had_stay : (os : List OpData) → AllFormed os → HasAll os → all_taken_in t os ≡ Ok t
  had_stay os formed are =
      ap (all_taken_in t) (sym (append-nil os)) ∙ (repeats_pass t os [] sound settles formed are ∙ taken_none t)

  -- nothing is released, so that memory doesn't run out among the releases
  never_in_part : (o : OpData) (u : State) → IsWellFormed o → Has t.history o → IsPartlyTaken t o u → ⊥
  never_in_part o u fine is_there p =
      let half = p.untaken.2 in
      let same : delivered t o ≡ t = ap (λ (x : Verdict). after_verdict x o t) (judged_repeat t o sound fine is_there) in
      let none : half.done ++ half.left ≡ [] = sym half.parts ∙ (ap all_releases same ∙ settled_has_none t settles) in
      let is : u ≡ t = half.state ∙ ((λ i. state_after (same i) (front_none half.done half.left none i)) ∙ after_none t) in
      half.unsettled (subst IsSettled (sym is) settles)

  before_stays : (os : List OpData) (u : State) → AllFormed os → HasAll os → IsBefore t os u → u ≡ t
  before_stays [] u formed are is = is
  before_stays (o ∷ os) u formed are (inl is) = is
  before_stays (o ∷ os) u formed are (inr p) = absurd (never_in_part o u (formed o (contains_here o os)) (are o (contains_here o os)) p)

  way_stays : (os : List OpData) (u : State) → AllFormed os → HasAll os → IsOnTheWay t os u → u ≡ t
  way_stays os u formed are w =
      let all : AllFormed (w.before ++ w.behind) = subst AllFormed w.parts formed in
      let have : HasAll (w.before ++ w.behind) = subst HasAll w.parts are in
      let front = had_stay w.before (λ o at. all o (Contains-append_left w.before w.behind o at))
      (λ o at. have o (Contains-append_left w.before w.behind o at)) in
      before_stays w.behind u (λ o at. all o (Contains-append_right w.before w.behind o at))
      (λ o at. have o (Contains-append_right w.before w.behind o at))
      (subst (λ (x : State). IsBefore x w.behind u) (one_end t t w.at w.before front w.taken) w.reached)

-- ---- at the state that taking them in left

-- no operation is on the way through none
none_stays : (t u : State) → IsOnTheWay t [] u → u ≡ t
none_stays t u w = go w.before w.behind w.parts w.taken w.reached
  where
    go : (before behind : List OpData) → [] ≡ before ++ behind → all_taken_in t before ≡ Ok w.at → IsBefore w.at behind u → u ≡ t
    go [] [] e taken is = is ∙ sym (same_after_none t w.at taken)
    go [] (o ∷ behind) e taken is = absurd (let never = e in cc)
    go (o ∷ before) behind e taken is = absurd (let never = e in cc)

module _ (s t : State) (os : List OpData) (sound : IsSound s) (formed : AllFormed os) (taken : all_taken_in s os ≡ Ok t) where
  pub taken_stays : all_taken_in t os ≡ Ok t
  taken_stays = ap (all_taken_in t) (sym (append-nil os)) ∙ (taken_again s t os [] sound formed taken ∙ taken_none t)

  taken_way_stays : (u : State) → IsOnTheWay t os u → u ≡ t
  taken_way_stays = go os formed taken
    where
      go : (ps : List OpData) → AllFormed ps → all_taken_in s ps ≡ Ok t → (u : State) → IsOnTheWay t ps u → u ≡ t
      go [] fine e u w = none_stays t u w
      go (p ∷ ps) fine e u w =
          way_stays t (taking_in_keeps_histories s t (p ∷ ps) sound fine e).0 (some_settle s t p ps sound fine e) (p ∷ ps) u fine
          (taken_has s t (p ∷ ps) sound fine e) w

  module _ (l : State) (fine : IsSound l) (settles : IsSettled l) (later : IsLater t l) where
    has_then : (o : OpData) → Contains os o → Has l.history o
    has_then o at = has_on t l o later (taken_has s t os sound formed taken o at)

    later_stays : all_taken_in l os ≡ Ok l
    later_stays = had_stay l fine settles os formed has_then

    later_way_stays : (u : State) → IsOnTheWay l os u → u ≡ l
    later_way_stays u w = way_stays l fine settles os u formed has_then w

-- ---- the calls

-- a state at which taking them in changes nothing
record Stays (t : State) (os : List OpData) : Type 0 where
  taken : all_taken_in t os ≡ Ok t
  way : (u : State) → IsOnTheWay t os u → u ≡ t

still_closed : (t u : State) (second again after : List ℕ) (state : ContextData) (os : List OpData) (others : ℕ × ℕ)
    → IsSecond second state os → Stays t os → IsClosed t second u again after others → u ≡ t
still_closed t u second again after state os others read stays c =
    one_end t t u os stays.taken
    (ap (all_taken_in t) (messages_tell_one_thing.second second state c.state os c.ops read c.read) ∙ c.taken)

still_unclosed : (t u : State) (second : List ℕ) (state : ContextData) (os : List OpData) (why : Peer)
    → IsSecond second state os → Stays t os → IsUnclosed t second u why → (u ≡ t) × (why ≡ peer.Memory)
still_unclosed t u second state os why read stays is =
    let cause = unclosed_why t u t second state os why read stays.taken is in
    let memory : IsUnclosed t second u peer.Memory = subst (IsUnclosed t second u) cause is in
    let same = messages_tell_one_thing.second second memory.0 state memory.1 os memory.2 read in
    (stays.way u (subst (λ (ps : List OpData). IsOnTheWay t ps u) same memory.3), cause)

still_finished : (t u : State) (third : List ℕ) (os : List OpData) (other : ℕ) → IsThird third os → Stays t os
    → IsFinished t third u other → u ≡ t
still_finished t u third os other read stays f =
    one_end t t u os stays.taken (ap (all_taken_in t) (messages_tell_one_thing.third third os f.ops read f.read) ∙ f.taken)

still_unfinished : (t u : State) (third : List ℕ) (os : List OpData) (why : Peer) → IsThird third os → Stays t os
    → IsUnfinished t third u why → (u ≡ t) × (why ≡ peer.Memory)
still_unfinished t u third os why read stays is =
    let cause = unfinished_why t u t third os why read stays.taken is in
    let memory : IsUnfinished t third u peer.Memory = subst (IsUnfinished t third u) cause is in
    let same = messages_tell_one_thing.third third memory.0 os memory.1 read in
    (stays.way u (subst (λ (ps : List OpData). IsOnTheWay t ps u) same memory.2), cause)

-- what is written is the third message for the state that the second one tells
written : (before third made : List ℕ) → before ++ third ≡ before ++ made → third ≡ made
written before third made e =
    sym (drop_at before third (length before) refl) ∙ (ap (drop (length before)) e ∙ drop_at before made (length before) refl)

after_close : (s t : State) (second before now : List ℕ) (counts : ℕ × ℕ) → IsSound s → (c : IsClosed s second t before now counts)
    → Stays t c.ops
after_close s t second before now counts sound c = record {
  taken = taken_stays s t c.ops sound c.read.formed c.taken;
  way = taken_way_stays s t c.ops sound c.read.formed c.taken;
}

after_finish : (s t : State) (third : List ℕ) (count : ℕ) → IsSound s → (f : IsFinished s third t count) → Stays t f.ops
after_finish s t third count sound f = record {
  taken = taken_stays s t f.ops sound f.read.formed f.taken;
  way = taken_way_stays s t f.ops sound f.read.formed f.taken;
}

closed_again : (s t u : State) (second before again third other : List ℕ) (counts others : ℕ × ℕ) → IsSound s
    → IsClosed s second t before (before ++ third) counts → IsClosed t second u again (again ++ other) others
    → IsClosedAgain t u third other counts others
closed_again s t u second before again third other counts others sound c d =
    let site = still_closed t u second again (again ++ other) c.state c.ops others c.read
    (after_close s t second before (before ++ third) counts sound c) d in
    let state = messages_tell_one_thing.state second d.state c.state d.ops c.ops d.read c.read in
    let ops = messages_tell_one_thing.second second d.state c.state d.ops c.ops d.read c.read in
    let sent : others.1 ≡ counts.1 =
    d.sent ∙ ((λ i. length (unseen (has (state i)) (site i).history)) ∙ sym c.sent) in
    let received : others.0 ≡ counts.0 = d.received ∙ (ap length ops ∙ sym c.received) in
    record {
      site = site;
      message = written again other (third_message u.history d.state) d.appended
          ∙ ((λ i. third_message (site i).history (state i)) ∙ sym (written before third (third_message t.history c.state) c.appended));
      numbers = λ i. (received i, sent i);
    }

pub closing_again_changes_nothing : ClosingAgainChangesNothing
closing_again_changes_nothing = record {
  closed = closed_again;
  unclosed = λ s t u second before now counts why sound c.
      still_unclosed t u second c.state c.ops why c.read (after_close s t second before now counts sound c);
  finished = λ s t u third count other sound f g. (
    still_finished t u third f.ops other f.read (after_finish s t third count sound f) g,
    g.received ∙ (ap length (messages_tell_one_thing.third third g.ops f.ops g.read f.read) ∙ sym f.received),
  );
  unfinished = λ s t u third count why sound f.
      still_unfinished t u third f.ops why f.read (after_finish s t third count sound f);
}

closed_then : (s t l : State) (second before now : List ℕ) (counts : ℕ × ℕ) → IsSound s
    → (c : IsClosed s second t before now counts) → IsSound l → IsSettled l → IsLater t l → Stays l c.ops
closed_then s t l second before now counts sound c fine settles later = record {
  taken = later_stays s t c.ops sound c.read.formed c.taken l fine settles later;
  way = later_way_stays s t c.ops sound c.read.formed c.taken l fine settles later;
}

finished_then : (s t l : State) (third : List ℕ) (count : ℕ) → IsSound s → (f : IsFinished s third t count) → IsSound l → IsSettled l
    → IsLater t l → Stays l f.ops
finished_then s t l third count sound f fine settles later = record {
  taken = later_stays s t f.ops sound f.read.formed f.taken l fine settles later;
  way = later_way_stays s t f.ops sound f.read.formed f.taken l fine settles later;
}

pub closing_later_changes_nothing : ClosingLaterChangesNothing
closing_later_changes_nothing = record {
  closed = λ s t l u second before now again after counts others sound c fine settles later.
      still_closed l u second again after c.state c.ops others c.read
      (closed_then s t l second before now counts sound c fine settles later);
  unclosed = λ s t l u second before now counts why sound c fine settles later.
      still_unclosed l u second c.state c.ops why c.read (closed_then s t l second before now counts sound c fine settles later);
  finished = λ s t l u third count other sound f fine settles later.
      still_finished l u third f.ops other f.read (finished_then s t l third count sound f fine settles later);
  unfinished = λ s t l u third count why sound f fine settles later.
      still_unfinished l u third f.ops why f.read (finished_then s t l third count sound f fine settles later);
}
