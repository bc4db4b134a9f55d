-- How an exchange over a pair goes, message by message.
use Rattle.std.proofs.Common.{◌≡◌, ◌⊎◌, ◌<◌, arith, ℕ, List, [], ◌++◌, refl, sym, ap, subst, ◌∙◌, append-nil, append_assoc, inl, inr}
use Rattle.std.specs.Prelude.{Option, Some, None, Result, Ok, Err, IfOk, IfErr}
use Rattle.std.proofs.KnownBytes.{Appends-nil, Appends-trans}
use Rattle.std.specs.Io.KnownBytes.{Appends}
use Rattle.outside_io.specs.Ends.{End, nothing_of, linked_to, shut_of}
use Rattle.context_diff.specs.Histories.{IsValid}
use Rattle.cot_site.specs.States.{State}
use Rattle.peer_exchange.specs.declared.messages.Which.TheVariants.{First, Second, Third}
use Rattle.peer_exchange.specs.declared.messages.PeerCause.{PeerCause}
use Rattle.peer_exchange.specs.declared.messages.PeerCause.TheVariants.{Limit}
use Rattle.peer_exchange.specs.declared.peer.Peer.{Peer}
use Rattle.peer_exchange.specs.declared.peer.Peer.TheVariants as refused
use Rattle.peer_exchange.specs.Closing.{IsClosed, IsUnclosed, IsFinished, IsUnfinished}
use Rattle.peer_exchange.specs.Exchanges.{AgreeInAll, OnlyMemoryRefuses}
use Rattle.peer_exchange.specs.Lengths.{IsTooLong}
use Rattle.peer_exchange.specs.Messages.{first_message, IsAnswered}
use Rattle.peer_exchange.specs.Refusals.{IsWhole, IsUnread}
use Rattle.peer_exchange.proofs.CallerLemmas.{offered_whole, answered_whole, closing_whole}
use Rattle.site_node.specs.declared.node.Node.{Node}
use Rattle.site_node.specs.declared.node.Node.TheVariants as node
use Rattle.site_node.specs.Stops.{node_of, AreAskedFor, Explains}
use Rattle.site_node.specs.Exchanges.{IsFrontOf}
use Rattle.site_node.specs.Pairs.{IsTelling, IsUnspoilt, Speaks, IsLooped, IsUnlooped}
use Rattle.site_node.specs.Code.Carrying.{IsCarried, IsUncarried}
use Rattle.site_node.proofs.Carriages.{limit_too_long}
use Rattle.site_node.proofs.Explaining.{unread_memory, whole_unspoilt}

-- nothing is to come at either end
pub record NothingToCome (ends : ℕ → End) : Type 0 where
  pub first : (ends 0).to_come ≡ Some []
  pub second : (ends 1).to_come ≡ Some []

pub quiet_by : (w : ℕ → End) → ((w 0).to_come ≡ nothing_of (w 0).to_come) × ((w 1).to_come ≡ nothing_of (w 1).to_come) → IsTelling w
    → NothingToCome w
quiet_by w none tells = record { first = none.0 ∙ ap nothing_of tells.0.1; second = none.1 ∙ ap nothing_of tells.1.1 }

-- what carrying a message does at the end from which it goes
pub record Goes (old new : End) (bytes : List ℕ) : Type 0 where
  pub sent : Appends old.sent new.sent bytes
  pub received : new.received ≡ old.received
  pub to_come : new.to_come ≡ old.to_come

pub speaks_none : (w : ℕ → End) → Speaks w w [] [] [] []
speaks_none w = record {
  server_received = Appends-nil (w 0).received;
  server_sent = Appends-nil (w 0).sent;
  joiner_received = Appends-nil (w 1).received;
  joiner_sent = Appends-nil (w 1).sent;
}

-- bytes went from the joiner, and these came to the server
pub to_server_then : (a b c : ℕ → End) (ts fs tj fj bytes came : List ℕ) → Speaks a b ts fs tj fj → Goes (b 1) (c 1) bytes
    → Appends (b 0).received (c 0).received came → (c 0).sent ≡ (b 0).sent
    → Speaks a c (ts ++ came) fs tj (fj ++ bytes)
to_server_then a b c ts fs tj fj bytes came talk goes received sent = record {
  server_received = Appends-trans (a 0).received (b 0).received (c 0).received ts came talk.server_received received;
  server_sent = subst (λ (x : Option (List ℕ)). Appends (a 0).sent x fs) (sym sent) talk.server_sent;
  joiner_received = subst (λ (x : Option (List ℕ)). Appends (a 1).received x tj) (sym goes.received) talk.joiner_received;
  joiner_sent = Appends-trans (a 1).sent (b 1).sent (c 1).sent fj bytes talk.joiner_sent goes.sent;
}

-- bytes went from the server, and these came to the joiner
pub to_joiner_then : (a b c : ℕ → End) (ts fs tj fj bytes came : List ℕ) → Speaks a b ts fs tj fj → Goes (b 0) (c 0) bytes
    → Appends (b 1).received (c 1).received came → (c 1).sent ≡ (b 1).sent
    → Speaks a c ts (fs ++ bytes) (tj ++ came) fj
to_joiner_then a b c ts fs tj fj bytes came talk goes received sent = record {
  server_received = subst (λ (x : Option (List ℕ)). Appends (a 0).received x ts) (sym goes.received) talk.server_received;
  server_sent = Appends-trans (a 0).sent (b 0).sent (c 0).sent fs bytes talk.server_sent goes.sent;
  joiner_received = Appends-trans (a 1).received (b 1).received (c 1).received tj came talk.joiner_received received;
  joiner_sent = subst (λ (x : Option (List ℕ)). Appends (a 1).sent x fj) (sym sent) talk.joiner_sent;
}

front_all : (bytes : List ℕ) → IsFrontOf bytes bytes
front_all bytes = ([], sym (append-nil bytes))

no_front : (bytes : List ℕ) → IsFrontOf [] bytes
no_front bytes = (bytes, refl)

front_behind : (first a b : List ℕ) → IsFrontOf a b → IsFrontOf (first ++ a) (first ++ b)
front_behind first a b front = (front.0, ap (λ (t : List ℕ). first ++ t) front.1 ∙ sym (append_assoc first a front.0))

-- ---- before the first message

-- the wire wasn't linked, or there was no memory for the first message
pub unstarted : (w v : ℕ → End) (s j : State) (why : Node) → v 0 ≡ w 0 → v 1 ≡ w 1 → (why ≡ node.Link) ⊎ (why ≡ node.Memory)
    → IsUnlooped s s j j why w v
unstarted w v s j why first second cause = record {
  to_server = [];
  from_server = [];
  to_joiner = [];
  from_joiner = [];
  speaks = record {
    server_received = subst (λ (e : End). Appends (w 0).received e.received []) (sym first) (Appends-nil (w 0).received);
    server_sent = subst (λ (e : End). Appends (w 0).sent e.sent []) (sym first) (Appends-nil (w 0).sent);
    joiner_received = subst (λ (e : End). Appends (w 1).received e.received []) (sym second) (Appends-nil (w 1).received);
    joiner_sent = subst (λ (e : End). Appends (w 1).sent e.sent []) (sym second) (Appends-nil (w 1).sent);
  };
  stopped = inr (
    inl (record { same = refl; unheard = refl; silent = refl }),
    inl (record {
      same = refl;
      unheard = refl;
      offered = no_front (first_message j.history);
      cause = elim cause [ inl link ↦ inl link | inr memory ↦ inr (memory, refl) ];
    }),
  );
  carried = λ tells. (no_front [], no_front []);
  unspoilt = λ tells. elim cause [ inl link ↦ subst IsUnspoilt (sym link) tt | inr memory ↦ subst IsUnspoilt (sym memory) tt ];
  limited =
      λ tells offset is. absurd (elim cause [
        | inl link ↦ (let never = sym link ∙ is in cc)
        | inr memory ↦
            (let never = sym memory ∙ is in cc)
      ]);
  agreed =
      λ tells agree member verdict is. elim cause [
        | inl link ↦ (let never = sym link ∙ is in cc)
        | inr memory ↦
            (let never = sym memory ∙ is in cc)
      ];
}

-- ---- the first message

-- it is what the joiner has, and whole
pub record Offer (j : State) (first : List ℕ) : Type 0 where
  pub is : first ≡ first_message j.history
  pub whole : IsWhole First first

pub offer_by : (j : State) (before first : List ℕ) → IsValid j.history → before ≡ [] → first ≡ before ++ first_message j.history
    → Offer j first
offer_by j before first valid none offered =
    let is : first ≡ first_message j.history = offered ∙ ap (λ (t : List ℕ). t ++ first_message j.history) none in
    record { is = is; whole = offered_whole j.history first valid is }

-- no whole first message came to the server
pub unasked : (w v : ℕ → End) (s j : State) (first : List ℕ) (why : Node) → (IsTelling w → NothingToCome w) → Offer j first
    → IsUncarried (w 1) (v 1) (w 0) (v 0) First first why → (v 1).received ≡ (w 1).received → (v 1).to_come ≡ (w 1).to_come
    → (v 0).sent ≡ (w 0).sent
    → IsUnlooped s s j j why w v
unasked w v s j first why quiet offer un received to_come sent = record {
  to_server = un.came;
  from_server = [];
  to_joiner = [];
  from_joiner = un.gone;
  speaks =
      to_server_then w w v [] [] [] [] un.gone un.came (speaks_none w) (record { sent = un.sent; received = received; to_come = to_come })
      un.received sent;
  stopped =
      inl (
        inl (record { same = refl; silent = refl; explained = un.explains }),
        inl
            (record { same = refl; unheard = refl; offered = (un.front.0, sym offer.is ∙ un.front.1) }),
      );
  carried = λ tells. (un.carried (quiet tells).first, no_front []);
  unspoilt = λ tells. un.unspoilt offer.whole (quiet tells).first;
  limited = λ tells offset is.
      inl (subst IsTooLong offer.is (limit_too_long First (w 1) (v 1) (w 0) (v 0) first why offset un offer.whole (quiet tells).first is));
  agreed = λ tells agree member verdict is. subst (Explains First un.came) is un.explains;
}

-- a whole one came
pub record Heard (w v : ℕ → End) (j : State) (first asked : List ℕ) : Type 0 where
  pub offer : Offer j first
  pub whole : IsWhole First asked
  pub wanted : AreAskedFor First asked
  pub speaks : Speaks w v asked [] [] first
  pub same : IsTelling w → (asked ≡ first) × NothingToCome v

pub heard_by : (w v : ℕ → End) (j : State) (first asked : List ℕ) → (IsTelling w → NothingToCome w) → Offer j first → IsWhole First asked
    → AreAskedFor First asked → IsCarried (w 0) (v 0) First first asked → Goes (w 1) (v 1) first → (v 0).sent ≡ (w 0).sent
    → Heard w v j first asked
heard_by w v j first asked quiet offer whole wanted carried goes sent = record {
  offer = offer;
  whole = whole;
  wanted = wanted;
  speaks = to_server_then w w v [] [] [] [] first asked (speaks_none w) goes carried.received sent;
  same = λ tells.
      let q = quiet tells in
      let is = carried.same offer.whole q.first in
      (is.0, record { first = is.1; second = goes.to_come ∙ q.second });
}

-- out of memory is no refusal
no_refusal : (why refusal : Peer) → why ≡ refused.Memory → node_of why ≡ node.Peer refusal → ⊥
no_refusal why refusal memory is = let never : ◌≡◌ {A = Node} node.Memory (node.Peer refusal) = sym (ap node_of memory) ∙ is in cc

-- there was no memory for the second one
pub unanswered : (w v : ℕ → End) (s j : State) (first asked : List ℕ) (why : Peer) → Heard w v j first asked → IsUnread First asked why
    → IsUnlooped s s j j (node_of why) w v
unanswered w v s j first asked why h unread =
    let memory : why ≡ refused.Memory = unread_memory First asked why h.whole unread in
    record {
      to_server = asked;
      from_server = [];
      to_joiner = [];
      from_joiner = first;
      speaks = h.speaks;
      stopped = inl (
        inl (record {
          same = refl;
          silent = refl;
          explained = subst (λ (p : Peer). Explains First asked (node_of p)) (sym memory) h.wanted;
        }),
        inl (record { same = refl; unheard = refl; offered = ([], sym h.offer.is ∙ sym (append-nil first)) }),
      );
      carried = λ tells. (([], sym ((h.same tells).0) ∙ sym (append-nil asked)), no_front []);
      unspoilt = λ tells. subst (λ (p : Peer). IsUnspoilt (node_of p)) (sym memory) tt;
      limited = λ tells offset is. absurd (no_refusal why (refused.Bytes offset Limit) memory is);
      agreed = λ tells agree member verdict is. no_refusal why (refused.Op member verdict) memory is;
    }

-- ---- the second message

-- it is the answer to what the server heard, and whole
pub record Answer (s : State) (asked second : List ℕ) (count : ℕ) : Type 0 where
  pub is : IsAnswered s.history asked [] second count
  pub whole : IsWhole Second second

pub answer_by : (s : State) (asked before second : List ℕ) (count : ℕ) → IsValid s.history → before ≡ []
    → IsAnswered s.history asked before second count → Answer s asked second count
answer_by s asked before second count valid none answered =
    let is = subst (λ (t : List ℕ). IsAnswered s.history asked t second count) none answered in
    record { is = is; whole = answered_whole s.history asked second count valid is }

-- no whole second message came to the joiner
pub unbrought : (w v u : ℕ → End) (s j : State) (first asked second : List ℕ) (count : ℕ) (why : Node) → Heard w v j first asked
    → Answer s asked second count
    → IsUncarried (v 0) (u 0) (v 1) (u 1) Second second why → (u 0).received ≡ (v 0).received → (u 0).to_come ≡ (v 0).to_come
    → (u 1).sent ≡ (v 1).sent
    → IsUnlooped s s j j why w u
unbrought w v u s j first asked second count why h answer un received to_come sent = record {
  to_server = asked;
  from_server = un.gone;
  to_joiner = un.came;
  from_joiner = first;
  speaks =
      to_joiner_then w v u asked [] [] first un.gone un.came h.speaks (record { sent = un.sent; received = received; to_come = to_come })
      un.received sent;
  stopped = inr (
    inr (record {
      theirs = answer.is.state;
      whole = h.whole;
      told = answer.is.told;
      answered = (un.front.0, sym answer.is.appended ∙ un.front.1);
      same = refl;
    }),
    inr (inl (record { same = refl; offered = h.offer.is; explained = un.explains })),
  );
  carried = λ tells. (([], sym ((h.same tells).0) ∙ sym (append-nil asked)), un.carried (h.same tells).1.second);
  unspoilt = λ tells. un.unspoilt answer.whole (h.same tells).1.second;
  limited = λ tells offset is.
      let same = h.same tells in
      inr (inl (record {
        second = second;
        count = count;
        answered = subst (λ (x : List ℕ). IsAnswered s.history x [] second count) (same.0 ∙ h.offer.is) answer.is;
        long = limit_too_long Second (v 0) (u 0) (v 1) (u 1) second why offset un answer.whole same.1.second is;
      }));
  agreed = λ tells agree member verdict is. subst (Explains Second un.came) is un.explains;
}

-- a whole one came
pub record Told (w u : ℕ → End) (s j : State) (first asked second answered : List ℕ) (count : ℕ) : Type 0 where
  pub offer : Offer j first
  pub asked_whole : IsWhole First asked
  pub answer : Answer s asked second count
  pub whole : IsWhole Second answered
  pub speaks : Speaks w u asked second answered first
  pub same : IsTelling w → (asked ≡ first) × (answered ≡ second) × NothingToCome u

pub told_by : (w v u : ℕ → End) (s j : State) (first asked second answered : List ℕ) (count : ℕ) → Heard w v j first asked
    → Answer s asked second count → IsWhole Second answered
    → IsCarried (v 1) (u 1) Second second answered → Goes (v 0) (u 0) second → (u 1).sent ≡ (v 1).sent
    → Told w u s j first asked second answered count
told_by w v u s j first asked second answered count h answer whole carried goes sent = record {
  offer = h.offer;
  asked_whole = h.whole;
  answer = answer;
  whole = whole;
  speaks = to_joiner_then w v u asked [] [] first second answered h.speaks goes carried.received sent;
  same = λ tells.
      let before = h.same tells in
      let is = carried.same answer.whole before.1.second in
      (before.0, is.0, record { first = goes.to_come ∙ before.1.first; second = is.1 });
}

-- where a whole message is refused, its bytes aren't at fault
unclosed_unspoilt : (s t : State) (bytes : List ℕ) (why : Peer) → IsWhole Second bytes → IsUnclosed s bytes t why → IsUnspoilt (node_of why)
unclosed_unspoilt s t bytes (refused.Bytes offset cause) whole un = absurd (whole_unspoilt Second bytes offset cause whole un.1)
unclosed_unspoilt s t bytes (refused.Op member verdict) whole un = tt
unclosed_unspoilt s t bytes refused.Memory whole un = tt

unfinished_unspoilt : (s t : State) (bytes : List ℕ) (why : Peer) → IsWhole Third bytes → IsUnfinished s bytes t why
    → IsUnspoilt (node_of why)
unfinished_unspoilt s t bytes (refused.Bytes offset cause) whole un = absurd (whole_unspoilt Third bytes offset cause whole un.1)
unfinished_unspoilt s t bytes (refused.Op member verdict) whole un = tt
unfinished_unspoilt s t bytes refused.Memory whole un = tt

unclosed_bytes : (s t : State) (bytes : List ℕ) (why : Peer) (offset : ℕ) (cause : PeerCause) → IsWhole Second bytes
    → IsUnclosed s bytes t why → node_of why ≡ node.Peer (refused.Bytes offset cause) → ⊥
unclosed_bytes s t bytes (refused.Bytes at why) offset cause whole un is = whole_unspoilt Second bytes at why whole un.1
unclosed_bytes s t bytes (refused.Op member verdict) offset cause whole un is = cc
unclosed_bytes s t bytes refused.Memory offset cause whole un is = cc

unfinished_bytes : (s t : State) (bytes : List ℕ) (why : Peer) (offset : ℕ) (cause : PeerCause) → IsWhole Third bytes
    → IsUnfinished s bytes t why → node_of why ≡ node.Peer (refused.Bytes offset cause) → ⊥
unfinished_bytes s t bytes (refused.Bytes at why) offset cause whole un is = whole_unspoilt Third bytes at why whole un.1
unfinished_bytes s t bytes (refused.Op member verdict) offset cause whole un is = cc
unfinished_bytes s t bytes refused.Memory offset cause whole un is = cc

-- what the joiner was told is the server's answer to its own message
own_answer : (s j : State) (first asked second answered : List ℕ) (count : ℕ) → Offer j first → Answer s asked second count
    → asked ≡ first → answered ≡ second
    → IsAnswered s.history (first_message j.history) [] answered count
own_answer s j first asked second answered count offer answer same_first same_second =
    subst (λ (x : List ℕ). IsAnswered s.history (first_message j.history) [] x count) (sym same_second)
    (subst (λ (x : List ℕ). IsAnswered s.history x [] second count) (same_first ∙ offer.is) answer.is)

-- the joiner didn't take all in
pub unclosed : (w u : ℕ → End) (s j k : State) (first asked second answered : List ℕ) (count : ℕ) (why : Peer)
    → (AgreeInAll s j → OnlyMemoryRefuses s j) → Told w u s j first asked second answered count
    → IsUnclosed j answered k why → IsUnlooped s s j k (node_of why) w u
unclosed w u s j k first asked second answered count why only r untaken = record {
  to_server = asked;
  from_server = second;
  to_joiner = answered;
  from_joiner = first;
  speaks = r.speaks;
  stopped = inr (
    inr (record {
      theirs = r.answer.is.state;
      whole = r.asked_whole;
      told = r.answer.is.told;
      answered = ([], sym r.answer.is.appended ∙ sym (append-nil second));
      same = refl;
    }),
    inr (inr (inl (record { whole = r.whole; offered = r.offer.is; refusal = why; refused = untaken; cause = refl }))),
  );
  carried = λ tells. (([], sym ((r.same tells).0) ∙ sym (append-nil asked)), ([], sym ((r.same tells).1) ∙ sym (append-nil answered)));
  unspoilt = λ tells. unclosed_unspoilt j k answered why r.whole untaken;
  limited = λ tells offset is. absurd (unclosed_bytes j k answered why offset Limit r.whole untaken is);
  agreed = λ tells agree member verdict is.
      let same = r.same tells in
      let memory =
      (only agree).closing answered count k why (own_answer s j first asked second answered count r.offer r.answer same.0 same.1) untaken in
      no_refusal why (refused.Op member verdict) memory is;
}

-- ---- the third message

-- it is the joiner's answer, and whole
pub record Closing (j k : State) (answered third : List ℕ) (counts : ℕ × ℕ) : Type 0 where
  pub is : IsClosed j answered k [] third counts
  pub whole : IsWhole Third third

pub closing_by : (j k : State) (answered before third : List ℕ) (counts : ℕ × ℕ) → IsValid k.history → before ≡ []
    → IsClosed j answered k before third counts → Closing j k answered third counts
closing_by j k answered before third counts valid none closed =
    let is = subst (λ (t : List ℕ). IsClosed j answered k t third counts) none closed in
    record { is = is; whole = closing_whole k.history is.state third valid is.appended }

-- no whole third message came to the server
pub unheard : (w u t : ℕ → End) (s j k : State) (first asked second answered third : List ℕ) (count : ℕ) (counts : ℕ × ℕ) (why : Node)
    → Told w u s j first asked second answered count → Closing j k answered third counts
    → IsUncarried (u 1) (t 1) (u 0) (t 0) Third third why → (t 1).received ≡ (u 1).received → (t 1).to_come ≡ (u 1).to_come
    → (t 0).sent ≡ (u 0).sent
    → IsUnlooped s s j k why w t
unheard w u t s j k first asked second answered third count counts why r closing un received to_come sent = record {
  to_server = asked ++ un.came;
  from_server = second;
  to_joiner = answered;
  from_joiner = first ++ un.gone;
  speaks =
      to_server_then w u t asked second answered first un.gone un.came r.speaks
      (record { sent = un.sent; received = received; to_come = to_come }) un.received sent;
  stopped = inl (
    inr (inr (inl (record {
      first = asked;
      rest = un.came;
      theirs = r.answer.is.state;
      parts = refl;
      first_whole = r.asked_whole;
      told = r.answer.is.told;
      answered = r.answer.is.appended;
      same = refl;
      explained = un.explains;
    }))),
    inr (record {
      theirs = closing.is.state;
      ops = closing.is.ops;
      whole = r.whole;
      read = closing.is.read;
      taken = closing.is.taken;
      third = un.gone;
      sent = ap (λ (x : List ℕ). x ++ un.gone) r.offer.is;
      front = (un.front.0, sym closing.is.appended ∙ un.front.1);
    }),
  );
  carried = λ tells.
      let is = r.same tells in (
        subst (λ (x : List ℕ). IsFrontOf (x ++ un.came) (first ++ un.gone)) (sym is.0)
            (front_behind first un.came un.gone (un.carried is.2.first)),
        ([], sym is.1 ∙ sym (append-nil answered)),
      );
  unspoilt = λ tells. un.unspoilt closing.whole (r.same tells).2.first;
  limited = λ tells offset is.
      let same = r.same tells in
      inr (inr (record {
        second = answered;
        count = count;
        answered = own_answer s j first asked second answered count r.offer r.answer same.0 same.1;
        after = k;
        third = third;
        counts = counts;
        closed = closing.is;
        long = limit_too_long Third (u 1) (t 1) (u 0) (t 0) third why offset un closing.whole same.2.first is;
      }));
  agreed = λ tells agree member verdict is. subst (Explains Third un.came) is un.explains;
}

-- a whole one came
pub record Ended (w t : ℕ → End) (s j k : State) (first asked second answered third closed : List ℕ) (count : ℕ)
    (counts : ℕ × ℕ) : Type 0 where
  pub offer : Offer j first
  pub asked_whole : IsWhole First asked
  pub answer : Answer s asked second count
  pub answered_whole : IsWhole Second answered
  pub closing : Closing j k answered third counts
  pub whole : IsWhole Third closed
  pub speaks : Speaks w t (asked ++ closed) second answered (first ++ third)
  pub same : IsTelling w → (asked ≡ first) × (answered ≡ second) × (closed ≡ third) × NothingToCome t

pub ended_by : (w u t : ℕ → End) (s j k : State) (first asked second answered third closed : List ℕ) (count : ℕ) (counts : ℕ × ℕ)
    → Told w u s j first asked second answered count → Closing j k answered third counts
    → IsWhole Third closed → IsCarried (u 0) (t 0) Third third closed → Goes (u 1) (t 1) third → (t 0).sent ≡ (u 0).sent
    → Ended w t s j k first asked second answered third closed count counts
ended_by w u t s j k first asked second answered third closed count counts r closing whole carried goes sent = record {
  offer = r.offer;
  asked_whole = r.asked_whole;
  answer = r.answer;
  answered_whole = r.whole;
  closing = closing;
  whole = whole;
  speaks = to_server_then w u t asked second answered first third closed r.speaks goes carried.received sent;
  same = λ tells.
      let before = r.same tells in
      let is = carried.same closing.whole before.2.first in
      (before.0, before.1, is.0, record { first = is.1; second = goes.to_come ∙ before.2.second });
}

-- the server didn't take all in
pub unserved : (w t : ℕ → End) (s v j k : State) (first asked second answered third closed : List ℕ) (count : ℕ) (counts : ℕ × ℕ)
    (why : Peer) → (AgreeInAll s j → OnlyMemoryRefuses s j)
    → Ended w t s j k first asked second answered third closed count counts → IsUnfinished s closed v why
    → IsUnlooped s v j k (node_of why) w t
unserved w t s v j k first asked second answered third closed count counts why only r untaken = record {
  to_server = asked ++ closed;
  from_server = second;
  to_joiner = answered;
  from_joiner = first ++ third;
  speaks = r.speaks;
  stopped = inl (
    inr (inr (inr (record {
      first = asked;
      third = closed;
      theirs = r.answer.is.state;
      parts = refl;
      first_whole = r.asked_whole;
      told = r.answer.is.told;
      answered = r.answer.is.appended;
      third_whole = r.whole;
      refusal = why;
      refused = untaken;
      cause = refl;
    }))),
    inr (record {
      theirs = r.closing.is.state;
      ops = r.closing.is.ops;
      whole = r.answered_whole;
      read = r.closing.is.read;
      taken = r.closing.is.taken;
      third = third;
      sent = ap (λ (x : List ℕ). x ++ third) r.offer.is;
      front = ([], sym r.closing.is.appended ∙ sym (append-nil third));
    }),
  );
  carried = λ tells.
      let is = r.same tells in
      let all : first ++ third ≡ asked ++ closed = (λ i. sym is.0 i ++ sym is.2 i) in
      (([], all ∙ sym (append-nil (asked ++ closed))), ([], sym is.1 ∙ sym (append-nil answered)));
  unspoilt = λ tells. unfinished_unspoilt s v closed why r.whole untaken;
  limited = λ tells offset is. absurd (unfinished_bytes s v closed why offset Limit r.whole untaken is);
  agreed = λ tells agree member verdict is.
      let same = r.same tells in
      let answer = own_answer s j first asked second answered count r.offer r.answer same.0 same.1 in
      let closing = subst (λ (x : List ℕ). IsClosed j answered k [] x counts) (sym same.2) r.closing.is in
      let memory = (only agree).finishing answered closed count counts.0 counts.1 k v why answer closing untaken in
      no_refusal why (refused.Op member verdict) memory is;
}

-- it did
pub looped : (w t : ℕ → End) (s v j k : State) (first asked second answered third closed : List ℕ) (count taken : ℕ) (counts : ℕ × ℕ)
    → Ended w t s j k first asked second answered third closed count counts
    → IsFinished s closed v taken → IsLooped s v j k (count, counts.1) w t
looped w t s v j k first asked second answered third closed count taken counts r done = record {
  to_server = asked ++ closed;
  from_server = second;
  to_joiner = answered;
  from_joiner = first ++ third;
  speaks = r.speaks;
  server_taken = taken;
  served = record {
    first = asked;
    third = closed;
    theirs = r.answer.is.state;
    ops = done.ops;
    parts = refl;
    first_whole = r.asked_whole;
    told = r.answer.is.told;
    answered = r.answer.is.appended;
    third_whole = r.whole;
    read = done.read;
    taken = done.taken;
    frames_sent = r.answer.is.frames;
    frames_taken = done.received;
  };
  joiner_taken = counts.0;
  brought = record {
    theirs = r.closing.is.state;
    ops = r.closing.is.ops;
    whole = r.answered_whole;
    read = r.closing.is.read;
    taken = r.closing.is.taken;
    sent = (λ i. r.offer.is i ++ r.closing.is.appended i);
    frames_sent = r.closing.is.sent;
    frames_taken = r.closing.is.received;
  };
  carried = λ tells.
      let is = r.same tells in
      ((λ i. is.0 i ++ is.2 i), is.1);
  messages = λ tells.
      let is = r.same tells in
      record {
        talk =
            record {
              first = first;
              second = second;
              third = third;
              server_sent = count;
              joiner_took = counts.0;
              joiner_sent = counts.1;
              server_took = taken;
            };
        calls = record {
          offered = r.offer.is;
          answered = subst (λ (x : List ℕ). IsAnswered s.history x [] second count) is.0 r.answer.is;
          closed = subst (λ (x : List ℕ). IsClosed j x k [] third counts) is.1 r.closing.is;
          finished = subst (λ (x : List ℕ). IsFinished s x v taken) is.2 done;
        };
        server_side = refl;
        joiner_side = refl;
        server_sent = refl;
        joiner_sent = refl;
      };
  telling = λ tells.
      let quiet = (r.same tells).3 in
      (([], quiet.first), ([], quiet.second));
}

-- ---- before the ends are linked, and after they are shut

-- the same bytes were sent and received
pub record SameBytes (a b : End) : Type 0 where
  pub sent : b.sent ≡ a.sent
  pub received : b.received ≡ a.received

pub linked_same : (a b : End) (bytes : Option (List ℕ)) → b ≡ linked_to bytes a → SameBytes a b
linked_same a b bytes is = record { sent = ap (λ (e : End). e.sent) is; received = ap (λ (e : End). e.received) is }

pub shut_same : (a b c : End) → b ≡ a → c ≡ shut_of b → SameBytes a c
shut_same a b c first second =
    record {
      sent = ap (λ (e : End). e.sent) (second ∙ ap shut_of first);
      received = ap (λ (e : End). e.received)
          (second ∙ ap shut_of first);
    }

-- an exchange over the pair `v` goes from its ends before they were linked to those after they were shut
pub record Between (w v u x : ℕ → End) : Type 0 where
  pub first_before : SameBytes (w 0) (v 0)
  pub second_before : SameBytes (w 1) (v 1)
  pub first_after : SameBytes (u 0) (x 0)
  pub second_after : SameBytes (u 1) (x 1)
  pub telling : IsTelling w → IsTelling v
  pub telling_after : IsTelling u → IsTelling x

appends_between : (a b c d : Option (List ℕ)) (bytes : List ℕ) → b ≡ a → d ≡ c → Appends b c bytes → Appends a d bytes
appends_between a b c d bytes before after goes =
    subst (λ (x : Option (List ℕ)). Appends x d bytes) before (subst (λ (x : Option (List ℕ)). Appends b x bytes) (sym after) goes)

speaks_between : (w v u x : ℕ → End) (ts fs tj fj : List ℕ) → Between w v u x → Speaks v u ts fs tj fj → Speaks w x ts fs tj fj
speaks_between w v u x ts fs tj fj b talk = record {
  server_received =
      appends_between (w 0).received (v 0).received (u 0).received (x 0).received ts b.first_before.received b.first_after.received
      talk.server_received;
  server_sent = appends_between (w 0).sent (v 0).sent (u 0).sent (x 0).sent fs b.first_before.sent b.first_after.sent talk.server_sent;
  joiner_received =
      appends_between (w 1).received (v 1).received (u 1).received (x 1).received tj b.second_before.received b.second_after.received
      talk.joiner_received;
  joiner_sent = appends_between (w 1).sent (v 1).sent (u 1).sent (x 1).sent fj b.second_before.sent b.second_after.sent talk.joiner_sent;
}

pub looped_between : (w v u x : ℕ → End) (s t j k : State) (counts : ℕ × ℕ) → Between w v u x → IsLooped s t j k counts v u
    → IsLooped s t j k counts w x
looped_between w v u x s t j k counts b r = record {
  to_server = r.to_server;
  from_server = r.from_server;
  to_joiner = r.to_joiner;
  from_joiner = r.from_joiner;
  speaks = speaks_between w v u x r.to_server r.from_server r.to_joiner r.from_joiner b r.speaks;
  server_taken = r.server_taken;
  served = r.served;
  joiner_taken = r.joiner_taken;
  brought = r.brought;
  carried = λ tells. r.carried (b.telling tells);
  messages = λ tells. r.messages (b.telling tells);
  telling = λ tells. b.telling_after (r.telling (b.telling tells));
}

pub unlooped_between : (w v u x : ℕ → End) (s t j k : State) (why : Node) → Between w v u x → IsUnlooped s t j k why v u
    → IsUnlooped s t j k why w x
unlooped_between w v u x s t j k why b r = record {
  to_server = r.to_server;
  from_server = r.from_server;
  to_joiner = r.to_joiner;
  from_joiner = r.from_joiner;
  speaks = speaks_between w v u x r.to_server r.from_server r.to_joiner r.from_joiner b r.speaks;
  stopped = r.stopped;
  carried = λ tells. r.carried (b.telling tells);
  unspoilt = λ tells. r.unspoilt (b.telling tells);
  limited = λ tells. r.limited (b.telling tells);
  agreed = λ tells. r.agreed (b.telling tells);
}

-- the same of an answer, whichever it is
pub looped_all : (w v u x : ℕ → End) (s t j k : State) (r : Result (ℕ × ℕ) Node) → Between w v u x
    → IfOk r (λ counts. IsLooped s t j k counts v u) → IfOk r (λ counts. IsLooped s t j k counts w x)
looped_all w v u x s t j k (Ok counts) b is = looped_between w v u x s t j k counts b is
looped_all w v u x s t j k (Err why) b is = tt

pub unlooped_all : (w v u x : ℕ → End) (s t j k : State) (r : Result (ℕ × ℕ) Node) → Between w v u x
    → IfErr r (λ why. IsUnlooped s t j k why v u) → IfErr r (λ why. IsUnlooped s t j k why w x)
unlooped_all w v u x s t j k (Ok counts) b is = tt
unlooped_all w v u x s t j k (Err why) b is = unlooped_between w v u x s t j k why b is

-- what linking the pair and shutting its ends one after the other does
pub between : (w v u y x : ℕ → End) → ((end : ℕ) → end < 2 → v end ≡ linked_to (nothing_of (w end).to_come) (w end)) → y 0 ≡ shut_of (u 0)
    → y 1 ≡ u 1 → x 0 ≡ y 0 → x 1 ≡ shut_of (y 1) → Between w v u x
between w v u y x linked first_shut first_other second_other second_shut = record {
  first_before = linked_same (w 0) (v 0) (nothing_of (w 0).to_come) (linked 0 (omega arith));
  second_before = linked_same (w 1) (v 1) (nothing_of (w 1).to_come) (linked 1 (omega arith));
  first_after = shut_same (u 0) (u 0) (x 0) refl (second_other ∙ first_shut);
  second_after = shut_same (u 1) (y 1) (x 1) first_other second_shut;
  telling = λ tells. (
    ([], ap (λ (e : End). e.to_come) (linked 0 (omega arith)) ∙ ap nothing_of tells.0.1),
    ([], ap (λ (e : End). e.to_come) (linked 1 (omega arith)) ∙ ap nothing_of tells.1.1),
  );
  telling_after = λ tells. (
    ([], ap (λ (e : End). e.to_come) (second_other ∙ first_shut) ∙ ap nothing_of tells.0.1),
    ([], ap (λ (e : End). e.to_come) (second_shut ∙ ap shut_of first_other) ∙ ap nothing_of tells.1.1),
  );
}

-- nothing is to come at an end that was linked to another one
pub linked_quiet : (a b : End) → b ≡ linked_to (nothing_of a.to_come) a → b.to_come ≡ nothing_of b.to_come
linked_quiet a b is = subst (λ (e : End). e.to_come ≡ nothing_of e.to_come) (sym is) (twice a.to_come)
  where
    twice : (known : Option (List ℕ)) → nothing_of known ≡ nothing_of (nothing_of known)
    twice None = refl
    twice (Some xs) = refl
