-- How an exchange goes at a joiner, message by message.
use Rattle.std.proofs.Common.{◌≡◌, ℕ, List, [], ◌++◌, refl, sym, ap, subst, ◌∙◌, inl, inr}
use Rattle.std.specs.Prelude.{Option}
use Rattle.std.specs.Io.KnownBytes.{Appends}
use Rattle.outside_io.specs.Ends.{End}
use Rattle.outside_io.specs.Writing.{WritesFront}
use Rattle.cot_site.specs.States.{State}
use Rattle.peer_exchange.specs.declared.messages.Which.TheVariants.{Second}
use Rattle.peer_exchange.specs.declared.peer.Peer.{Peer}
use Rattle.peer_exchange.specs.Closing.{IsClosed, IsUnclosed}
use Rattle.peer_exchange.specs.Messages.{first_message}
use Rattle.peer_exchange.specs.Refusals.{IsWhole}
use Rattle.site_node.specs.declared.node.Node.{Node}
use Rattle.site_node.specs.declared.node.Node.TheVariants as node
use Rattle.site_node.specs.Stops.{node_of}
use Rattle.site_node.specs.Moves.{Receives, IsStopped}
use Rattle.site_node.specs.Exchanges.{Exchanges, IsBrought, IsUnjoined}
use Rattle.site_node.proofs.Talking.{Moves, moves_none, receives_then, sends_then, talks_of, nothing_said}

-- there was no memory for the first message
pub unoffered : (a : End) (s : State) → Exchanges a a a.to_come (IsUnjoined s s node.Memory)
unoffered a s =
    nothing_said a a a.to_come (IsUnjoined s s node.Memory) refl (inl (record {
      same = refl;
      unheard = refl;
      offered = (first_message s.history, refl);
      cause = inr (refl, refl);
    }))

-- the wire failed while it went
pub unsent : (a b : End) (s : State) (before first : List ℕ) → before ≡ [] → first ≡ before ++ first_message s.history
    → WritesFront a.sent b.sent first → b.received ≡ a.received → b.to_come ≡ a.to_come → Exchanges a b a.to_come (IsUnjoined s s node.Link)
unsent a b s before first none offered written received to_come = record {
  came = [];
  gone = written.front;
  talks = talks_of a b [] written.front (sends_then a a b [] [] written.front (moves_none a) written.written received to_come);
  said = inl (record {
    same = refl;
    unheard = refl;
    offered = (written.rest, sym (offered ∙ ap (λ (t : List ℕ). t ++ first_message s.history) none) ∙ written.parts);
    cause = inl refl;
  });
}

-- the first message went
pub record Offered (a b : End) (s : State) (first : List ℕ) : Type 0 where
  pub is : first ≡ first_message s.history
  pub moves : Moves a b [] first

pub offered_by : (a b : End) (s : State) (before first : List ℕ) → before ≡ [] → first ≡ before ++ first_message s.history
    → Appends a.sent b.sent first → b.received ≡ a.received → b.to_come ≡ a.to_come → Offered a b s first
offered_by a b s before first none offered written received to_come = record {
  is = offered ∙ ap (λ (t : List ℕ). t ++ first_message s.history) none;
  moves = sends_then a a b [] [] first (moves_none a) written received to_come;
}

-- no whole second message came
pub unheard : (a b c : End) (s : State) (first : List ℕ) (why : Node) → Offered a b s first → IsStopped Second b c why
    → Exchanges a c a.to_come (IsUnjoined s s why)
unheard a b c s first why r stopped = record {
  came = stopped.came;
  gone = first;
  talks = talks_of a c stopped.came first (receives_then a b c [] first stopped.came r.moves stopped.receives);
  said = inr (inl (record { same = refl; offered = r.is; explained = stopped.explains }));
}

-- its operations weren't all taken in, or there was no memory for the third one
pub unclosed : (a b c : End) (s t : State) (first second : List ℕ) (why : Peer) → Offered a b s first → IsWhole Second second
    → Receives b c second → IsUnclosed s second t why
    → Exchanges a c a.to_come (IsUnjoined s t (node_of why))
unclosed a b c s t first second why r whole came untaken = record {
  came = second;
  gone = first;
  talks = talks_of a c second first (receives_then a b c [] first second r.moves came);
  said = inr (inr (inl (record { whole = whole; offered = r.is; refusal = why; refused = untaken; cause = refl })));
}

-- the first message went, and a whole second one came, whose operations were taken in
pub record Closed (a c : End) (s t : State) (first second third : List ℕ) (counts : ℕ × ℕ) : Type 0 where
  pub is : first ≡ first_message s.history
  pub whole : IsWhole Second second
  pub closed : IsClosed s second t [] third counts
  pub moves : Moves a c second first

pub closed_by : (a b c : End) (s t : State) (first second before third : List ℕ) (counts : ℕ × ℕ) → Offered a b s first
    → IsWhole Second second → Receives b c second → before ≡ []
    → IsClosed s second t before third counts → Closed a c s t first second third counts
closed_by a b c s t first second before third counts r whole came none closed = record {
  is = r.is;
  whole = whole;
  closed = subst (λ (x : List ℕ). IsClosed s second t x third counts) none closed;
  moves = receives_then a b c [] first second r.moves came;
}

-- the wire failed while the third one went
pub cut_off : (a c d : End) (s t : State) (first second third : List ℕ) (counts : ℕ × ℕ) → Closed a c s t first second third counts
    → WritesFront c.sent d.sent third → d.received ≡ c.received → d.to_come ≡ c.to_come → Exchanges a d a.to_come (IsUnjoined s t node.Link)
cut_off a c d s t first second third counts r written received to_come = record {
  came = second;
  gone = first ++ written.front;
  talks =
      talks_of a d second (first ++ written.front) (sends_then a c d second first written.front r.moves written.written received to_come);
  said = inr (inr (inr (record {
    theirs = r.closed.state;
    ops = r.closed.ops;
    whole = r.whole;
    read = r.closed.read;
    taken = r.closed.taken;
    third = written.front;
    sent = ap (λ (x : List ℕ). x ++ written.front) r.is;
    front = (written.rest, sym r.closed.appended ∙ written.parts);
    cause = refl;
  })));
}

-- it went
pub joined : (a c d : End) (s t : State) (first second third : List ℕ) (counts : ℕ × ℕ) → Closed a c s t first second third counts
    → Appends c.sent d.sent third → d.received ≡ c.received → d.to_come ≡ c.to_come
    → Exchanges a d a.to_come (IsBrought s t (counts.1, counts.0))
joined a c d s t first second third counts r written received to_come = record {
  came = second;
  gone = first ++ third;
  talks = talks_of a d second (first ++ third) (sends_then a c d second first third r.moves written received to_come);
  said = record {
    theirs = r.closed.state;
    ops = r.closed.ops;
    whole = r.whole;
    read = r.closed.read;
    taken = r.closed.taken;
    sent = (λ i. r.is i ++ r.closed.appended i);
    frames_sent = r.closed.sent;
    frames_taken = r.closed.received;
  };
}

-- the wire failed to link
pub unlinked : (a b : End) (peer : Option (List ℕ)) (s : State) → b ≡ a → Exchanges a b peer (IsUnjoined s s node.Link)
unlinked a b peer s same =
    nothing_said a b peer (IsUnjoined s s node.Link) same (inl (record {
      same = refl;
      unheard = refl;
      offered = (first_message s.history, refl);
      cause = inl refl;
    }))
