-- What reads at an end move, one after the other, and why they stop.
use Rattle.std.proofs.Common.{◌≡◌, ℕ, ◌+◌, ◌<◌, ◌≤◌, List, [], ◌++◌, length, refl, sym, ap, subst, ◌∙◌, append-nil, arith, inl, inr, ◌⊎◌}
use Rattle.std.proofs.lemmas.List.{length-append, nil_from_length}
use Rattle.std.proofs.KnownBytes.{Appends-nil, Appends-trans, Consumes-nil, Consumes-trans}
use Rattle.outside_io.specs.Ends.{End}
use Rattle.peer_exchange.specs.declared.messages.Which.{Which}
use Rattle.peer_exchange.specs.declared.messages.TheConstants.{MAX_MESSAGE}
use Rattle.peer_exchange.specs.declared.messages.Measure.TheVariants as message
use Rattle.peer_exchange.specs.declared.messages.PeerCause.{PeerCause}
use Rattle.peer_exchange.specs.declared.messages.PeerCause.TheVariants.{Cut}
use Rattle.peer_exchange.specs.declared.peer.Peer.TheVariants.{Bytes}
use Rattle.peer_exchange.specs.Measuring.{measure_of}
use Rattle.peer_exchange.proofs.CallerLemmas.{nothing_past}
use Rattle.site_node.specs.declared.node.Node.{Node}
use Rattle.site_node.specs.declared.node.Node.TheVariants.{Link, Peer, Memory}
use Rattle.site_node.specs.Moves.{Receives, Gains, IsStopped}
use Rattle.site_node.specs.Stops.{AreAskedFor, Explains, IsSpoilt}
use Rattle.site_node.specs.Code.Reading.{IsPart, StopsAfter}

pub receives_none : (a : End) (bytes : List ℕ) → bytes ≡ [] → Receives a a bytes
receives_none a bytes none =
    subst (Receives a a) (sym none) (record { received = Appends-nil a.received; consumed = Consumes-nil a.to_come; sent = refl })

receives_on : (a b c : End) (x y : List ℕ) → Receives a b x → Receives b c y → Receives a c (x ++ y)
receives_on a b c x y first second = record {
  received = Appends-trans a.received b.received c.received x y first.received second.received;
  consumed = Consumes-trans a.to_come b.to_come c.to_come x y first.consumed second.consumed;
  sent = second.sent ∙ first.sent;
}

-- all that came so far, where one more piece came
pub receives_gain : (a b c : End) (before now after : List ℕ) → now ≡ before → Receives a b before → Gains b c now after
    → Receives a c after
receives_gain a b c before now after same first gains =
    subst (Receives a c) (sym (gains.grown ∙ ap (λ (t : List ℕ). t ++ gains.piece) same))
    (receives_on a b c before gains.piece first gains.moved)

-- a piece that is no more than was asked for was asked for
pub asked_on : (which : Which) (before piece : List ℕ) (k room : ℕ)
    → measure_of which before ≡ message.More k → length piece ≤ room → length before + room ≤ k → length before + room ≤ MAX_MESSAGE
    → AreAskedFor which (before ++ piece)
asked_on which before piece k room more few asked short = inr (record {
  front = before;
  piece = piece;
  parts = refl;
  at_least = k;
  asked = more;
  within = omega (arith, few, asked, length-append before piece);
  short = omega (arith, few, short, length-append before piece);
})

-- the same of all bytes, where they are no more than was asked for
pub asked_to : (which : Which) (before piece after : List ℕ) (k : ℕ)
    → after ≡ before ++ piece → measure_of which before ≡ message.More k → length after ≤ k → length after ≤ MAX_MESSAGE
    → AreAskedFor which after
asked_to which before piece after k parts more within short =
    inr (record { front = before; piece = piece; parts = parts; at_least = k; asked = more; within = within; short = short })

-- where no byte came that wasn't asked for, a failure of the wire or a lack of memory is explained
pub midway : (which : Which) (bytes : List ℕ) (why : Node) → AreAskedFor which bytes → (why ≡ Link) ⊎ (why ≡ Memory)
    → Explains which bytes why
midway which bytes why asked (inl link) = subst (Explains which bytes) (sym link) asked
midway which bytes why asked (inr memory) = subst (Explains which bytes) (sym memory) asked

-- ---- what comes of a message

-- nothing yet
pub no_part : (which : Which) (bytes : List ℕ) → bytes ≡ [] → IsPart which bytes
no_part which bytes none =
    subst (IsPart which) (sym none) (record { short = omega arith; past = nothing_past which; asked = inl refl })

-- nothing more
pub gains_none : (a : End) (before after : List ℕ) → after ≡ before → Gains a a before after
gains_none a before after same = record {
  piece = [];
  grown = same ∙ sym (append-nil before);
  moved = receives_none a [] refl;
}

-- no byte was received
received_none : (b c : End) (now after : List ℕ) → Gains b c now after → length after ≡ length now → Receives b c []
received_none b c now after gains none =
    let size : length gains.piece ≡ 0 = omega (arith, none, ap length gains.grown, length-append now gains.piece) in
    subst (Receives b c) (nil_from_length gains.piece size) gains.moved

-- ---- no message comes

nothing_said : (which : Which) (bytes : List ℕ) (why : Node) → Explains which bytes why → Explains which (bytes ++ []) why
nothing_said which bytes why said = subst (λ (t : List ℕ). Explains which t why) (sym (append-nil bytes)) said

-- the bytes that came have a fault
pub stops_by : (which : Which) (a : End) (bytes : List ℕ) (offset : ℕ) (cause : PeerCause) (why : Node) → why ≡ Peer (Bytes offset cause)
    → AreAskedFor which bytes → IsSpoilt which bytes offset cause → StopsAfter which a a bytes why
stops_by which a bytes offset cause why is asked spoilt = record {
  piece = [];
  receives = receives_none a [] refl;
  explains = nothing_said which bytes why (subst (Explains which bytes) (sym is) (asked, spoilt));
}

-- nothing more is to come, where the message asks for more
pub stops_short : (which : Which) (b c : End) (before now after : List ℕ) (k offset : ℕ) (why : Node)
    → Gains b c now after → length after ≡ length now → measure_of which before ≡ message.More k → length before < MAX_MESSAGE
    → offset ≡ length before → why ≡ Peer (Bytes offset Cut) → AreAskedFor which before → StopsAfter which b c before why
stops_short which b c before now after k offset why gains none more few at is asked = record {
  piece = [];
  receives = received_none b c now after gains none;
  explains = nothing_said which before why (subst (Explains which before) (sym is) (asked, ((k, more), few, at)));
}

-- the same after the bytes that came before
pub stopped_after : (which told : Which) (a b c : End) (before : List ℕ) (why : Node) → told ≡ which → Receives a b before
    → StopsAfter told b c before why → IsStopped which a c why
stopped_after which told a b c before why same first stops = record {
  came = before ++ stops.piece;
  receives = receives_on a b c before stops.piece first stops.receives;
  explains = subst (λ (w : Which). Explains w (before ++ stops.piece) why) same stops.explains;
}
