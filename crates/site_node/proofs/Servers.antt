-- How an exchange goes at a server, message by message.
use Rattle.std.proofs.Common.{◌≡◌, ℕ, List, [], ◌++◌, refl, sym, ap, subst, ◌∙◌, inl, inr}
use Rattle.std.specs.Prelude.{Option}
use Rattle.std.specs.Io.KnownBytes.{Appends}
use Rattle.outside_io.specs.Ends.{End}
use Rattle.outside_io.specs.Writing.{WritesFront}
use Rattle.cot_site.specs.States.{State}
use Rattle.peer_exchange.specs.declared.messages.Which.TheVariants.{First, Third}
use Rattle.peer_exchange.specs.declared.peer.Peer.{Peer}
use Rattle.peer_exchange.specs.Closing.{IsFinished, IsUnfinished}
use Rattle.peer_exchange.specs.Messages.{second_message, IsAnswered}
use Rattle.peer_exchange.specs.Refusals.{IsWhole, IsUnread}
use Rattle.site_node.specs.declared.node.Node.{Node}
use Rattle.site_node.specs.declared.node.Node.TheVariants as node
use Rattle.site_node.specs.Stops.{node_of, AreAskedFor, Explains}
use Rattle.site_node.specs.Moves.{Receives, IsStopped}
use Rattle.site_node.specs.Exchanges.{Exchanges, IsServed, IsUnserved}
use Rattle.site_node.proofs.Explaining.{unread_memory}
use Rattle.site_node.proofs.Talking.{Moves, moves_none, receives_then, sends_then, talks_of, nothing_said}

-- a whole first message came
pub record Asked (a b : End) (first : List ℕ) : Type 0 where
  pub whole : IsWhole First first
  pub wanted : AreAskedFor First first
  pub moves : Moves a b first []

pub asked_by : (a b : End) (first : List ℕ) → IsWhole First first → AreAskedFor First first → Receives a b first → Asked a b first
asked_by a b first whole wanted came =
    record { whole = whole; wanted = wanted; moves = receives_then a a b [] [] first (moves_none a) came }

-- no whole first message came
pub unasked : (a b : End) (s : State) (why : Node) → IsStopped First a b why → Exchanges a b a.to_come (IsUnserved s s why)
unasked a b s why stopped = record {
  came = stopped.came;
  gone = [];
  talks = talks_of a b stopped.came [] (receives_then a a b [] [] stopped.came (moves_none a) stopped.receives);
  said = inl (record { same = refl; silent = refl; explained = stopped.explains });
}

-- there was no memory for the second one
pub unanswered : (a b : End) (s : State) (first : List ℕ) (why : Peer) → Asked a b first → IsUnread First first why
    → Exchanges a b a.to_come (IsUnserved s s (node_of why))
unanswered a b s first why asked unread = record {
  came = first;
  gone = [];
  talks = talks_of a b first [] asked.moves;
  said =
      inl (record {
        same = refl;
        silent = refl;
        explained = subst (λ (p : Peer). Explains First first (node_of p))
            (sym (unread_memory First first why asked.whole unread)) asked.wanted;
      });
}

-- the wire failed while it went
pub unsent : (a b c : End) (s : State) (first before second : List ℕ) (count : ℕ) → Asked a b first → before ≡ []
    → IsAnswered s.history first before second count
    → WritesFront b.sent c.sent second → c.received ≡ b.received → c.to_come ≡ b.to_come
    → Exchanges a c a.to_come (IsUnserved s s node.Link)
unsent a b c s first before second count asked none answered written received to_come = record {
  came = first;
  gone = written.front;
  talks = talks_of a c first written.front (sends_then a b c first [] written.front asked.moves written.written received to_come);
  said = inr (inl (record {
    theirs = answered.state;
    first_whole = asked.whole;
    told = answered.told;
    answered =
        (written.rest, sym (answered.appended ∙ ap (λ (t : List ℕ). t ++ second_message s.history answered.state) none) ∙ written.parts);
    same = refl;
    cause = refl;
  }));
}

-- a whole first message came, and the second one went
pub record Answered (a c : End) (s : State) (first second : List ℕ) (count : ℕ) : Type 0 where
  pub whole : IsWhole First first
  pub answered : IsAnswered s.history first [] second count
  pub moves : Moves a c first second

pub answered_by : (a b c : End) (s : State) (first before second : List ℕ) (count : ℕ) → Asked a b first → before ≡ []
    → IsAnswered s.history first before second count
    → Appends b.sent c.sent second → c.received ≡ b.received → c.to_come ≡ b.to_come → Answered a c s first second count
answered_by a b c s first before second count asked none answered written received to_come = record {
  whole = asked.whole;
  answered = subst (λ (t : List ℕ). IsAnswered s.history first t second count) none answered;
  moves = sends_then a b c first [] second asked.moves written received to_come;
}

-- no whole third message came
pub unheard : (a c d : End) (s : State) (first second : List ℕ) (count : ℕ) (why : Node) → Answered a c s first second count
    → IsStopped Third c d why → Exchanges a d a.to_come (IsUnserved s s why)
unheard a c d s first second count why r stopped = record {
  came = first ++ stopped.came;
  gone = second;
  talks = talks_of a d (first ++ stopped.came) second (receives_then a c d first second stopped.came r.moves stopped.receives);
  said = inr (inr (inl (record {
    first = first;
    rest = stopped.came;
    theirs = r.answered.state;
    parts = refl;
    first_whole = r.whole;
    told = r.answered.told;
    answered = r.answered.appended;
    same = refl;
    explained = stopped.explains;
  })));
}

-- its operations weren't all taken in
pub unserved : (a c d : End) (s t : State) (first second third : List ℕ) (count : ℕ) (why : Peer) → Answered a c s first second count
    → IsWhole Third third → Receives c d third
    → IsUnfinished s third t why → Exchanges a d a.to_come (IsUnserved s t (node_of why))
unserved a c d s t first second third count why r whole came untaken = record {
  came = first ++ third;
  gone = second;
  talks = talks_of a d (first ++ third) second (receives_then a c d first second third r.moves came);
  said = inr (inr (inr (record {
    first = first;
    third = third;
    theirs = r.answered.state;
    parts = refl;
    first_whole = r.whole;
    told = r.answered.told;
    answered = r.answered.appended;
    third_whole = whole;
    refusal = why;
    refused = untaken;
    cause = refl;
  })));
}

-- they were
pub served : (a c d : End) (s t : State) (first second third : List ℕ) (sent count : ℕ) → Answered a c s first second sent
    → IsWhole Third third → Receives c d third
    → IsFinished s third t count → Exchanges a d a.to_come (IsServed s t (sent, count))
served a c d s t first second third sent count r whole came done = record {
  came = first ++ third;
  gone = second;
  talks = talks_of a d (first ++ third) second (receives_then a c d first second third r.moves came);
  said = record {
    first = first;
    third = third;
    theirs = r.answered.state;
    ops = done.ops;
    parts = refl;
    first_whole = r.whole;
    told = r.answered.told;
    answered = r.answered.appended;
    third_whole = whole;
    read = done.read;
    taken = done.taken;
    frames_sent = r.answered.frames;
    frames_taken = done.received;
  };
}

-- the wire failed to link
pub unlinked : (a b : End) (peer : Option (List ℕ)) (s : State) → b ≡ a → Exchanges a b peer (IsUnserved s s node.Link)
unlinked a b peer s same =
    nothing_said a b peer (IsUnserved s s node.Link) same (inl (record { same = refl; silent = refl; explained = inl refl }))
