-- The two sites of a generated session, over a pair that tells its bytes: they send each other all that they made, and meet.
use Rattle.std.proofs.Common.{◌≡◌, ◌⊎◌, ℕ, suc, ◌+◌, ◌≤◌, Bool, false, Option, List, [], ◌∷◌, ◌++◌, length, refl, sym, ap, subst, ◌∙◌, inl, inr, arith, append-nil}
use Rattle.std.specs.Prelude.{Contains, ◌≢◌}
use Rattle.std.specs.Io.KnownBytes.{Appends}
use Rattle.std.proofs.lemmas.Bool.{cases_Bool}
use Rattle.std.proofs.lemmas.List.{length-append}
use Rattle.std.proofs.lemmas.Slice.Eq.{bytes_eq-Decides}
use Rattle.outside_io.specs.Ends.{End}
use Rattle.op_name.specs.declared.member.Member.{Member}
use Rattle.op_name.specs.Members.{target_of}
use Rattle.context_diff.specs.Operations.{OpData, member_of}
use Rattle.context_diff.specs.Histories.{is_known, IsValid, Agree}
use Rattle.context_diff.specs.Replays.{text_of}
use Rattle.context_diff.proofs.CallerLemmas.{agree_back, contains_cases, contains_here, contains_later, contains_none, holder}
use Rattle.cot_site.specs.States.{State}
use Rattle.site_answers.specs.declared.verdict.Verdict.{Verdict}
use Rattle.peer_exchange.specs.declared.messages.PeerCause.TheVariants.{Head, Frame, Cut, Extra, Limit}
use Rattle.peer_exchange.specs.declared.peer.Peer.{Peer}
use Rattle.peer_exchange.specs.declared.peer.Peer.TheVariants as refused
use Rattle.peer_exchange.specs.Joins.{unseen, joined, AreSound, IsExchanged, AnyExchangesMeet}
use Rattle.peer_exchange.specs.Exchanges.{Talk, IsExchange, IsQuiet, AgreeInAll, HaveJoined, UnrefusedCallsJoin, AgreeingSitesMeet, SecondExchangesAreEmpty, IsEmptyExchange}
use Rattle.peer_exchange.specs.Lengths.{few_operations, ShortHistoriesHaveShortMessages}
use Rattle.peer_exchange.specs.Taking.{with_history}
use Rattle.session_replay.specs.Generating.{turns, IsAlone, SitesStayAlone}
use Rattle.site_node.specs.declared.node.Node.TheVariants as node
use Rattle.site_node.specs.Pairs.{IsTelling, IsUnlooped, IsUnspoilt}
use Rattle.cotpad_run.specs.Generating.{alike}
use Rattle.cotpad_run.specs.Looping.{pair_plan, server_of, joiner_of, AreTwoTalks}
use Rattle.cotpad_run.specs.Code.Looping.{AreBothLooped, IsLeftAfter}
use Rattle.std.proofs.KnownBytes.{Appends-trans}

-- ---- sites that know nothing of each other

-- all operations of the history are of originals of this site
abbrev pub AreOf : ℕ → List OpData → Type 0
AreOf i h = (o : OpData) → Contains h o → (target_of (member_of o)).site ≡ i

-- the one knows no member of the other
pub apart : (i j : ℕ) (h p : List OpData) → (i ≡ j → ⊥) → AreOf i h → AreOf j p → (o : OpData) → Contains p o
    → is_known h (member_of o) ≡ false
apart i j h p differ own other o there = elim (cases_Bool (is_known h (member_of o))) [
  | inl known ↦
      let held = holder h (member_of o) known in
      absurd (differ (sym (own held.op held.there) ∙ ap (λ m. (target_of m).site) held.is ∙ other o there))
  | inr isnt ↦ isnt
]

-- they agree, since they have no name in common
pub agree_apart : (i j : ℕ) (h p : List OpData) → (i ≡ j → ⊥) → AreOf i h → AreOf j p → Agree h p
agree_apart i j h p differ own other o q n there here is same =
    absurd (differ (sym (own o there) ∙ ap (λ m. (target_of m).site) (is ∙ sym same) ∙ other q here))

all_pass : (knows : Member → Bool) (os : List OpData) → ((o : OpData) → Contains os o → knows (member_of o) ≡ false)
    → length (unseen knows os) ≡ length os
all_pass knows [] every = refl
all_pass knows (o ∷ os) every = rw (every o (contains_here o os)) (ap suc (all_pass knows os (λ x at. every x (contains_later o os x at))))

-- ---- the pair

pub record Pair (s j : State) : Type 0 where
  pub server : IsQuiet s
  pub joiner : IsQuiet j
  pub agree : Agree s.history j.history
  pub sound : AreSound (s.history ∷ j.history ∷ [])
  pub to_joiner : length (unseen (is_known j.history) s.history) ≡ 8
  pub to_server : length (unseen (is_known s.history) j.history) ≡ 8
  pub server_made : length s.history ≡ 8
  pub joiner_made : length j.history ≡ 8

-- one of two
two_cases : {X : Type 0} (a b x : X) → Contains (a ∷ b ∷ []) x → (a ≡ x) ⊎ (b ≡ x)
two_cases a b x at = elim (contains_cases a (b ∷ []) x at) [
  | inl first ↦ inl first
  | inr later ↦ elim (contains_cases b [] x later) [ inl second ↦ inr second | inr none ↦ absurd (contains_none x none) ]
]

pair_sound : (s j : State) → IsValid s.history → IsValid j.history → Agree s.history s.history → Agree j.history j.history
    → Agree s.history j.history → AreSound (s.history ∷ j.history ∷ [])
pair_sound s j valid_s valid_j own_s own_j agree = record {
  valid = λ h at. elim (two_cases s.history j.history h at) [
    | inl is ↦ subst IsValid is valid_s
    | inr is ↦ subst IsValid is valid_j
  ];
  agree = λ h p at bt. elim (two_cases s.history j.history h at) [
    | inl is ↦ elim (two_cases s.history j.history p bt) [
      | inl same ↦ subst (λ x. Agree x p) is (subst (Agree s.history) same own_s)
      | inr same ↦ subst (λ x. Agree x p) is (subst (Agree s.history) same agree)
    ]
    | inr is ↦ elim (two_cases s.history j.history p bt) [
      | inl same ↦ subst (λ x. Agree x p) is (subst (Agree j.history) same (agree_back s.history j.history agree))
      | inr same ↦ subst (λ x. Agree x p) is (subst (Agree j.history) same own_j)
    ]
  ];
}

quiet_agree : (s j : State) → s.waiting ≡ [] → j.waiting ≡ [] → Agree s.history j.history → AgreeInAll s j
quiet_agree s j none_s none_j agree =
    subst (λ (w : List OpData). Agree (s.history ++ w) (j.history ++ j.waiting)) (sym none_s)
    (subst (λ (w : List OpData). Agree (s.history ++ []) (j.history ++ w)) (sym none_j)
    (subst (λ (h : List OpData). Agree h (j.history ++ [])) (sym (append-nil s.history))
    (subst (Agree s.history) (sym (append-nil j.history)) agree)))

eight_first : (start : ℕ) → turns (pair_plan start) 0 16 ≡ 8
unfolding turns
eight_first start = refl

eight_second : (start : ℕ) → turns (pair_plan start) 1 16 ≡ 8
unfolding turns
eight_second start = refl

-- two sites at which nothing waits, that agree, and have few operations
record AreReady (s j : State) : Type 0 where
  server : IsQuiet s
  joiner : IsQuiet j
  agree : AgreeInAll s j
  few : length s.history + length j.history ≤ few_operations

-- so they are at first, and after an exchange
ready_at_first : (s j : State) → Pair s j → AreReady s j
ready_at_first s j pair = record {
  server = pair.server;
  joiner = pair.joiner;
  agree = quiet_agree s j pair.server.none pair.joiner.none pair.agree;
  few = omega (arith, pair.server_made, pair.joiner_made);
}

quiet_with : (s t : State) (h : List OpData) → IsQuiet s → IsValid h → t ≡ with_history s h → IsQuiet t
quiet_with s t h quiet valid is =
    subst IsQuiet (sym is) (record {
      sound = record { number = quiet.sound.number; history = valid; waiting = quiet.sound.waiting };
      none =
          quiet.none;
    })

ready_then : UnrefusedCallsJoin → AnyExchangesMeet → (s j server joiner : State) (x : Talk) → Pair s j → IsExchange s j server joiner x
    → AreReady server joiner
ready_then join any s j server joiner x pair calls =
    let joined_both : HaveJoined s j server joiner x = join s j server joiner x pair.server pair.joiner calls in
    let h = s.history in
    let p = j.history in
    let js = joined h p ∷ joined p h ∷ [] in
    let here : Contains js (joined h p) = contains_here (joined h p) (joined p h ∷ []) in
    let there : Contains js (joined p h) = contains_later (joined h p) (joined p h ∷ []) (joined p h) (contains_here (joined p h) []) in
    let sound = (any (h ∷ p ∷ []) (js ∷ []) pair.sound (exchanged h p, tt)).0 in
    let server_quiet = quiet_with s server (joined h p) pair.server (sound.valid (joined h p) here) joined_both.server in
    let joiner_quiet = quiet_with j joiner (joined p h) pair.joiner (sound.valid (joined p h) there) joined_both.joiner in
    let server_is : server.history ≡ joined h p = ap (λ (q : State). q.history) joined_both.server in
    let joiner_is : joiner.history ≡ joined p h = ap (λ (q : State). q.history) joined_both.joiner in
    let agree : Agree server.history joiner.history =
    subst (Agree server.history) (sym joiner_is)
    (subst (λ (k : List OpData). Agree k (joined p h)) (sym server_is) (sound.agree (joined h p) (joined p h) here there)) in
    record {
      server = server_quiet;
      joiner = joiner_quiet;
      agree = quiet_agree server joiner server_quiet.none joiner_quiet.none agree;
      few = omega (
        arith,
        ap length server_is,
        ap length joiner_is,
        length-append h (unseen (is_known h) p),
        length-append p (unseen (is_known p) h),
        pair.server_made,
        pair.joiner_made,
        pair.to_server,
        pair.to_joiner,
      );
    }
  where
    exchanged : (h p : List OpData) → IsExchanged (h ∷ p ∷ []) (joined h p ∷ joined p h ∷ [])
    exchanged h p k at = elim (two_cases (joined h p) (joined p h) k at) [
      | inl is ↦ inr (h, p, contains_here h (p ∷ []), contains_later h (p ∷ []) p (contains_here p []), sym is)
      | inr is ↦ inr (p, h, contains_later h (p ∷ []) p (contains_here p []), contains_here h (p ∷ []), sym is)
    ]

pub pair_apart : SitesStayAlone → (start : ℕ) → Pair (server_of start) (joiner_of start)
pair_apart stay start =
    let p = pair_plan start in
    let a : IsAlone p 0 (server_of start) = stay p (omega arith) (omega arith) (omega arith) refl 0 (omega arith) in
    let b : IsAlone p 1 (joiner_of start) = stay p (omega arith) (omega arith) (omega arith) refl 1 (omega arith) in
    record {
      server = record { sound = a.sound; none = a.quiet };
      joiner = record { sound = b.sound; none = b.quiet };
      agree = agree_apart 0 1 (server_of start).history (joiner_of start).history (λ e. absurd (omega (arith, e))) a.own b.own;
      sound = pair_sound (server_of start) (joiner_of start) a.sound.history b.sound.history a.one b.one
          (agree_apart 0 1 (server_of start).history (joiner_of start).history (λ e. absurd (omega (arith, e))) a.own b.own);
      to_joiner =
          all_pass (is_known (joiner_of start).history) (server_of start).history
          (apart 1 0 (joiner_of start).history (server_of start).history (λ e. absurd (omega (arith, e))) b.own a.own)
          ∙ (a.made ∙ eight_first start);
      to_server =
          all_pass (is_known (server_of start).history) (joiner_of start).history
          (apart 0 1 (server_of start).history (joiner_of start).history (λ e. absurd (omega (arith, e))) a.own b.own)
          ∙ (b.made ∙ eight_second start);
      server_made = a.made ∙ eight_first start;
      joiner_made = b.made ∙ eight_second start;
    }

-- ---- both exchanges

both_alike : (t k : State) → text_of t.history ≡ text_of k.history → alike t (t ∷ k ∷ []) ≡ 2
both_alike t k same =
    rw (
      (bytes_eq-Decides (text_of t.history) (text_of t.history)).1 refl,
      (bytes_eq-Decides (text_of k.history) (text_of t.history)).1 (sym same),
    ) refl

-- what the exchanges of such a pair come to
pub record Outcome (s j t k : State) (once twice : ℕ × ℕ) (old new : ℕ → End) : Type 0 where
  pub once_is : once ≡ (8, 8)
  pub twice_is : twice ≡ (0, 0)
  pub shown : alike t (t ∷ k ∷ []) ≡ 2

pair_is : (counts : ℕ × ℕ) (a b : ℕ) → counts.0 ≡ a → counts.1 ≡ b → counts ≡ (a, b)
pair_is counts a b first second = λ i. (first i, second i)

pub outcome : UnrefusedCallsJoin → AgreeingSitesMeet → SecondExchangesAreEmpty → (s j t k : State) (once twice : ℕ × ℕ) (old new : ℕ → End)
    → Pair s j → IsTelling old → AreBothLooped s t j k once twice old new → Outcome s j t k once twice old new
outcome join meet empty s j t k once twice old new pair telling both =
    let first = both.first.messages telling in
    let second = both.second.messages (both.first.telling telling) in
    let joined : HaveJoined s j both.server both.joiner first.talk =
    join s j both.server both.joiner first.talk pair.server pair.joiner first.calls in
    let alikes = meet s j both.server both.joiner first.talk pair.server pair.joiner pair.agree first.calls in
    let none : IsEmptyExchange both.server both.joiner t k second.talk =
    empty s j both.server both.joiner t k first.talk second.talk pair.server pair.joiner first.calls second.calls in
    record {
      once_is =
          pair_is once 8 8 (sym first.server_sent ∙ (joined.to_joiner ∙ pair.to_joiner))
          (sym first.joiner_sent ∙ (joined.to_server ∙ pair.to_server));
      twice_is = pair_is twice 0 0 (sym second.server_sent ∙ none.server_sent) (sym second.joiner_sent ∙ none.joiner_sent);
      shown = both_alike t k (ap (λ (x : State). text_of x.history) none.server
          ∙ (alikes.1 ∙ ap (λ (x : State). text_of x.history) (sym none.joiner)));
    }

two : (a b c : Option (List ℕ)) (xs ys us vs : List ℕ) → Appends a b xs → Appends b c ys → xs ≡ us → ys ≡ vs → Appends a c (us ++ vs)
two a b c xs ys us vs first second is same = Appends-trans a b c us vs (subst (Appends a b) is first) (subst (Appends b c) same second)

pub talks : (start : ℕ) (t k : State) (once twice : ℕ × ℕ) (old new : ℕ → End) → IsTelling old
    → AreBothLooped (server_of start) t (joiner_of start) k once twice old new → AreTwoTalks start old new
talks start t k once twice old new telling both =
    let first = both.first.messages telling in
    let between = both.first.telling telling in
    let second = both.second.messages between in
    let carried = both.first.carried telling in
    let carried_on = both.second.carried between in
    record {
      server = both.server;
      joiner = both.joiner;
      last_server = t;
      last_joiner = k;
      once = first.talk;
      twice = second.talk;
      first = first.calls;
      second = second.calls;
      server_sent = two _ _ _ _ _ _ _ both.first.speaks.server_sent both.second.speaks.server_sent first.server_side second.server_side;
      joiner_sent = two _ _ _ _ _ _ _ both.first.speaks.joiner_sent both.second.speaks.joiner_sent first.joiner_side second.joiner_side;
      server_received =
          two _ _ _ _ _ _ _ both.first.speaks.server_received both.second.speaks.server_received (carried.0 ∙ first.joiner_side)
          (carried_on.0 ∙ second.joiner_side);
      joiner_received =
          two _ _ _ _ _ _ _ both.first.speaks.joiner_received both.second.speaks.joiner_received (carried.1 ∙ first.server_side)
          (carried_on.1 ∙ second.server_side);
    }

-- ---- exchanges that stopped

-- of what came over such a pair nothing is refused
none_refused : (why : Peer) → IsUnspoilt (node.Peer why) → ((offset : ℕ) → node.Peer why ≢ node.Peer (refused.Bytes offset Limit))
    → ((member : Member) (verdict : Verdict) → node.Peer why ≢ node.Peer (refused.Op member verdict)) → ⊥
none_refused (refused.Bytes offset Head) unspoilt short agreed = unspoilt
none_refused (refused.Bytes offset (Frame cause)) unspoilt short agreed = unspoilt
none_refused (refused.Bytes offset Cut) unspoilt short agreed = unspoilt
none_refused (refused.Bytes offset Extra) unspoilt short agreed = unspoilt
none_refused (refused.Bytes offset Limit) unspoilt short agreed = short offset refl
none_refused (refused.Op member verdict) unspoilt short agreed = agreed member verdict refl
none_refused refused.Memory unspoilt short agreed = unspoilt

never_stopped : ShortHistoriesHaveShortMessages → (s t j k : State) (why : Peer) (old new : ℕ → End) → AreReady s j → IsTelling old
    → IsUnlooped s t j k (node.Peer why) old new → ⊥
never_stopped short s t j k why old new ready telling stopped =
    none_refused why (stopped.unspoilt telling)
    (λ offset is. short s j ready.server ready.joiner ready.few (stopped.limited telling offset is))
    (stopped.agreed telling ready.agree)

pub never_left : UnrefusedCallsJoin → AnyExchangesMeet → ShortHistoriesHaveShortMessages
    → (s t j k : State) (why : Peer) (old new : ℕ → End) → Pair s j → IsTelling old → IsLeftAfter s t j k (node.Peer why) old new → ⊥
never_left join any short s t j k why old new pair telling (inl first) =
    never_stopped short s t j k why old new (ready_at_first s j pair) telling first
never_left join any short s t j k why old new pair telling (inr midway) =
    let messages = midway.first.messages telling in
    never_stopped short midway.server t midway.joiner k why midway.between new
    (ready_then join any s j midway.server midway.joiner messages.talk pair messages.calls) (midway.first.telling telling) midway.second
