-- An exchange with another site that agrees, and whose messages come whole, isn't refused.
use Rattle.std.proofs.Common.{◌≡◌, ◌⊎◌, ℕ, ◌<◌, ◌≤◌, List, [], ◌∷◌, ◌++◌, length, refl, sym, ap, subst, ◌∙◌, inl, inr, arith, append_assoc, append-nil, length-append, drop}
use Rattle.std.proofs.Math.Seq.{drop-append_seam}
use Rattle.std.proofs.lemmas.List.{nil_from_length}
use Rattle.std.specs.Prelude.{Option, Some, None, Result, Err, IfErr, IfSome}
use Rattle.std.specs.Io.KnownBytes.{Appends, Consumes}
use Rattle.outside_io.specs.Ends.{End}
use Rattle.cot_site.specs.States.{State}
use Rattle.cot_site.specs.Releases.{IsSound}
use Rattle.wire_codec.proofs.CallerLemmas.{IsBytes, IsBytes-drop}
use Rattle.peer_exchange.specs.declared.messages.Which.{Which}
use Rattle.peer_exchange.specs.declared.messages.Which.TheVariants.{First, Second, Third}
use Rattle.peer_exchange.specs.declared.messages.TheConstants.{MAX_MESSAGE}
use Rattle.peer_exchange.specs.declared.messages.Measure.{Measure}
use Rattle.peer_exchange.specs.declared.messages.Measure.TheVariants as message
use Rattle.peer_exchange.specs.declared.messages.PeerCause.{PeerCause}
use Rattle.peer_exchange.specs.declared.messages.PeerCause.TheVariants.{Head, Frame, Cut, Extra, Limit}
use Rattle.peer_exchange.specs.declared.peer.Peer.{Peer}
use Rattle.peer_exchange.specs.declared.peer.Peer.TheVariants as refused
use Rattle.peer_exchange.specs.Closing.{IsUnclosed, IsUnfinished}
use Rattle.peer_exchange.specs.Exchanges.{OnlyMemoryRefuses, AgreeingSitesAreNotRefused}
use Rattle.peer_exchange.specs.Measuring.{measure_of}
use Rattle.peer_exchange.specs.Messages.{first_message}
use Rattle.peer_exchange.specs.Refusals.{IsWhole}
use Rattle.peer_exchange.specs.Taking.{TakingInKeepsHistories}
use Rattle.peer_exchange.proofs.CallerLemmas.{says_still, offered_whole, answered_whole, closing_whole}
use Rattle.site_node.specs.declared.node.Node.{Node}
use Rattle.site_node.specs.declared.node.Node.TheVariants as node
use Rattle.site_node.specs.Exchanges.{Exchanges, IsFrontOf, IsUnserved, IsUnjoined}
use Rattle.site_node.specs.Stops.{Explains, node_of}
use Rattle.site_node.proofs.CallerLemmas.{whole_front, bad_front, front_bytes}
use Rattle.cotpad_run.specs.Peers.{AreOfJoiner, AreOfServer}

-- ---- a front of two lists

-- it lies within the first one, and isn't all of it; or it goes on after it
abbrev pub Within : List ℕ → List ℕ → List ℕ → List ℕ → Type 0
Within a b came rest = ((length came < length a) × IsFrontOf came a) ⊎ ((x : List ℕ) × (came ≡ a ++ x) × (b ≡ x ++ rest))

tails : (y z : ℕ) (xs ys : List ℕ) → y ∷ xs ≡ z ∷ ys → (y ≡ z) × (xs ≡ ys)
tails y z xs ys e = (cc, cc)

pub within : (a b came rest : List ℕ) → a ++ b ≡ came ++ rest → Within a b came rest
within [] b came rest e = inr (came, refl, e)
within (y ∷ a) b [] rest e = inl (omega arith, (y ∷ a, refl))
within (y ∷ a) b (z ∷ came) rest e =
    let both = tails y z (a ++ b) (came ++ rest) e in
    elim (within a b came rest both.1) [
      | inl inside ↦ inl (omega (arith, inside.0), (inside.1.0, λ i. both.0 i ∷ inside.1.1 i))
      | inr behind ↦ inr (behind.0, (λ i. sym both.0 i ∷ behind.1 i), behind.2)
    ]

-- what stands after the same is the same
behind_same : (a x y : List ℕ) → a ++ x ≡ a ++ y → x ≡ y
behind_same [] x y e = e
behind_same (z ∷ a) x y e = behind_same a x y (tails z z (a ++ x) (a ++ y) e).1

behind_bytes : (a b all : List ℕ) → IsBytes all → all ≡ a ++ b → IsBytes b
behind_bytes a b all fits parts =
    subst IsBytes (ap (drop (length a)) parts ∙ drop-append_seam a b) (IsBytes-drop (length a) all fits)

-- ---- whole messages

still_whole : (which : Which) (a x : List ℕ) → IsBytes a → IsWhole which a → measure_of which (a ++ x) ≡ message.Whole (length a)
still_whole which a x fits whole = says_still which a x (message.Whole (length a)) fits (λ n never. cc) whole

-- a whole message that bytes begin with is the one that they begin with
pub whole_is : (which : Which) (a b came rest : List ℕ) → IsBytes a → IsWhole which a → IsWhole which came → a ++ b ≡ came ++ rest
    → (came ≡ a) × (rest ≡ b)
whole_is which a b came rest fits whole own e = elim (within a b came rest e) [
  | inl inside ↦
      let same : came ≡ a = whole_front which a came fits whole inside.1 own in
      absurd (omega (arith, inside.0, ap length same))
  | inr behind ↦
      let said : ◌≡◌ {A = Measure} (message.Whole (length a)) (message.Whole (length came)) =
      sym (still_whole which a behind.0 fits whole) ∙ (ap (measure_of which) (sym behind.1) ∙ own) in
      let size : length a ≡ length came = cc in
      let none : behind.0 ≡ [] = nil_from_length behind.0 (omega (arith, size, ap length behind.1, length-append a behind.0)) in
      (behind.1 ∙ (ap (λ (x : List ℕ). a ++ x) none ∙ append-nil a), sym (behind.2 ∙ ap (λ (x : List ℕ). x ++ rest) none))
]

-- bytes received of such that begin with a whole message, not too long, give no reason to refuse it; that they are cut is said only of all
pub no_fault : (which : Which) (a b came rest : List ℕ) (why : Peer) → IsBytes a → IsWhole which a → length a ≤ MAX_MESSAGE
    → a ++ b ≡ came ++ rest
    → ((offset : ℕ) → why ≡ refused.Bytes offset Cut → came ≡ a ++ b) → Explains which came (node.Peer why) → ⊥
no_fault which a b came rest (refused.Op member verdict) fits whole short e cut explained = explained
no_fault which a b came rest refused.Memory fits whole short e cut explained = explained
no_fault which a b came rest (refused.Bytes offset cause) fits whole short e cut explained = elim (within a b came rest e) [
  | inl inside ↦ inside_none cause cut inside.0 inside.1 explained
  | inr behind ↦ behind_none cause (ap (measure_of which) behind.1 ∙ still_whole which a behind.0 fits whole) explained
]
  where
    inside_none : (cause : PeerCause) → ((o : ℕ) → refused.Bytes offset cause ≡ refused.Bytes o Cut → came ≡ a ++ b)
        → length came < length a → IsFrontOf came a → Explains which came (node.Peer (refused.Bytes offset cause)) → ⊥
    inside_none Head all less front said = bad_front which a came offset Head fits whole front said.1
    inside_none (Frame c) all less front said = bad_front which a came offset (Frame c) fits whole front said.1
    inside_none Cut all less front said = omega (arith, less, ap length (all offset refl), length-append a b)
    inside_none Extra all less front said = said.1
    inside_none Limit all less front said = omega (arith, less, short, said.1.1)

    behind_none : (cause : PeerCause) → measure_of which came ≡ message.Whole (length a)
        → Explains which came (node.Peer (refused.Bytes offset cause)) → ⊥
    behind_none Head is said = let never = sym is ∙ said.1 in cc
    behind_none (Frame c) is said = let never = sym is ∙ said.1 in cc
    behind_none Cut is said = let never = sym is ∙ said.1.0.1 in cc
    behind_none Extra is said = said.1
    behind_none Limit is said = let never = sym is ∙ said.1.0.1 in cc

-- ---- serving

peer_is : (why refusal : Peer) → node.Peer why ≡ node_of refusal → refusal ≡ refused.Memory → ⊥
peer_is why refusal is memory = let never = is ∙ ap node_of memory in cc

joined_valid : TakingInKeepsHistories → (s j : State) (bytes : List ℕ) (x : AreOfJoiner s j bytes) → IsSound x.joined
joined_valid keep s j bytes x = (keep j x.joined x.closed.ops x.sound x.closed.read.formed x.closed.taken).0

pub unrefused_serving : TakingInKeepsHistories → (s j t : State) (bytes came gone rest : List ℕ) (why : Peer) → OnlyMemoryRefuses s j
    → AreOfJoiner s j bytes
    → bytes ≡ came ++ rest → ((offset : ℕ) → why ≡ refused.Bytes offset Cut → came ≡ bytes) → IsUnserved s t (node.Peer why) came gone → ⊥
unrefused_serving keep s j t bytes came gone rest why only theirs parts cut stopped = by stopped
  where
    fits : IsBytes bytes
    fits = theirs.fits

    first : List ℕ
    first = first_message j.history

    third : List ℕ
    third = theirs.third

    first_whole : IsWhole First first
    first_whole = offered_whole j.history first theirs.sound.history refl

    third_whole : IsWhole Third third
    third_whole =
        closing_whole theirs.joined.history theirs.closed.state third (joined_valid keep s j bytes theirs).history theirs.closed.appended

    first_fits : IsBytes first
    first_fits = front_bytes first third bytes fits theirs.parts

    third_fits : IsBytes third
    third_fits = behind_bytes first third bytes fits theirs.parts

    both : first ++ third ≡ came ++ rest
    both = sym theirs.parts ∙ parts

    by : IsUnserved s t (node.Peer why) came gone → ⊥
    by (inl x) =
        no_fault First first third came rest why first_fits first_whole theirs.first_short both (λ o is. cut o is ∙ theirs.parts)
        x.explained
    by (inr (inl x)) = let never = x.cause in cc
    by (inr (inr (inl x))) =
        let split : first ++ third ≡ x.first ++ (x.rest ++ rest) =
        both ∙ (ap (λ (c : List ℕ). c ++ rest) x.parts ∙ append_assoc x.first x.rest rest) in
        let is = whole_is First first third x.first (x.rest ++ rest) first_fits first_whole x.first_whole split in
        no_fault Third third [] x.rest rest why third_fits third_whole theirs.third_short (append-nil third ∙ sym is.1)
        (λ o same. behind_same first x.rest third
        (ap (λ (f : List ℕ). f ++ x.rest) (sym is.0) ∙ (sym x.parts ∙ (cut o same ∙ theirs.parts))) ∙ sym (append-nil third))
        x.explained
    by (inr (inr (inr x))) =
        let split : first ++ third ≡ x.first ++ (x.third ++ rest) =
        both ∙ (ap (λ (c : List ℕ). c ++ rest) x.parts ∙ append_assoc x.first x.third rest) in
        let is = whole_is First first third x.first (x.third ++ rest) first_fits first_whole x.first_whole split in
        let same = whole_is Third third [] x.third rest third_fits third_whole x.third_whole (append-nil third ∙ sym is.1) in
        peer_is why x.refusal x.cause
        (only.finishing theirs.second third theirs.sent theirs.counts.0 theirs.counts.1 theirs.joined t x.refusal theirs.answered
        theirs.closed (subst (λ m. IsUnfinished s m t x.refusal) same.0 x.refused))

-- ---- joining

pub unrefused_joining : (s j t : State) (bytes came gone rest : List ℕ) (why : Peer) → OnlyMemoryRefuses j s → AreOfServer s j bytes
    → bytes ≡ came ++ rest → ((offset : ℕ) → why ≡ refused.Bytes offset Cut → came ≡ bytes) → IsUnjoined s t (node.Peer why) came gone → ⊥
unrefused_joining s j t bytes came gone rest why only theirs parts cut stopped = by stopped
  where
    fits : IsBytes bytes
    fits = theirs.fits

    whole : IsWhole Second bytes
    whole = answered_whole j.history (first_message s.history) bytes theirs.sent theirs.sound.history theirs.answered

    all : bytes ++ [] ≡ came ++ rest
    all = append-nil bytes ∙ parts

    by : IsUnjoined s t (node.Peer why) came gone → ⊥
    by (inl x) = elim x.cause [ inl link ↦ (let never = link in cc) | inr memory ↦ (let never = memory.0 in cc) ]
    by (inr (inl x)) =
        no_fault Second bytes [] came rest why fits whole theirs.short all (λ o is. cut o is ∙ sym (append-nil bytes)) x.explained
    by (inr (inr (inl x))) =
        let same = whole_is Second bytes [] came rest fits whole x.whole all in
        peer_is why x.refusal x.cause (only.closing bytes theirs.sent t x.refusal theirs.answered
        (subst (λ m. IsUnclosed s m t x.refusal) same.0 x.refused))
    by (inr (inr (inr x))) = let never = x.cause in cc

-- ---- the bytes of the peer, as they are told

came_of : (peer left : Option (List ℕ)) (theirs came : List ℕ) → peer ≡ Some theirs → Consumes peer left came
    → (rest : List ℕ) × (theirs ≡ came ++ rest)
came_of peer left theirs came is consumed = of_left left (subst (λ p. Consumes p left came) is consumed)
  where
    of_left : (left : Option (List ℕ)) → Consumes (Some theirs) left came → (rest : List ℕ) × (theirs ≡ came ++ rest)
    of_left None never = absurd never
    of_left (Some rest) parts = (rest, parts)

all_came : (before after peer : Option (List ℕ)) (received theirs came : List ℕ) → before ≡ Some received → peer ≡ Some theirs
    → Appends before after came → IfSome peer (Appends before after) → came ≡ theirs
all_came before after peer received theirs came told is some all =
    let one : Appends (Some received) after came = subst (λ b. Appends b after came) told some in
    let other : Appends (Some received) after theirs =
    subst (λ b. Appends b after theirs) told (subst (λ p. IfSome p (Appends before after)) is all) in
    behind_same received came theirs (same_appended received came theirs after one other)
  where
    same_appended : (xs ys zs : List ℕ) (new : Option (List ℕ)) → Appends (Some xs) new ys → Appends (Some xs) new zs → xs ++ ys ≡ xs ++ zs
    same_appended xs ys zs None one other = absurd one
    same_appended xs ys zs (Some new) one other = sym one ∙ other

pub serve_unrefused : AgreeingSitesAreNotRefused → TakingInKeepsHistories
    → (s t j : State) (r : Result (ℕ × ℕ) Node) (old new : End) (peer : Option (List ℕ)) (theirs received : List ℕ) (why : Peer)
    → IsSound s → AreOfJoiner s j theirs → peer ≡ Some theirs → old.received ≡ Some received
    → IfErr r (λ why. Exchanges old new peer (IsUnserved s t why))
    → ((offset : ℕ) → r ≡ Err (node.Peer (refused.Bytes offset Cut)) → IfSome peer (Appends old.received new.received))
    → r ≡ Err (node.Peer why) → ⊥
serve_unrefused agreeing keep s t j r old new peer theirs received why sound messages is told stopped cut because =
    let x : Exchanges old new peer (IsUnserved s t (node.Peer why)) =
    subst (λ q. IfErr q (λ why. Exchanges old new peer (IsUnserved s t why))) because stopped in
    let front = came_of peer x.talks.left theirs x.came is x.talks.front in
    unrefused_serving keep s j t theirs x.came x.gone front.0 why (agreeing s j sound messages.sound messages.agree) messages front.1
    (λ offset same. all_came old.received new.received peer received theirs x.came told is x.talks.received
    (cut offset (because ∙ ap (λ w. Err (node.Peer w)) same)))
    x.said

pub join_unrefused : AgreeingSitesAreNotRefused
    → (s t j : State) (r : Result (ℕ × ℕ) Node) (old new : End) (peer : Option (List ℕ)) (theirs received : List ℕ) (why : Peer)
    → IsSound s → AreOfServer s j theirs → peer ≡ Some theirs → old.received ≡ Some received
    → IfErr r (λ why. Exchanges old new peer (IsUnjoined s t why))
    → ((offset : ℕ) → r ≡ Err (node.Peer (refused.Bytes offset Cut)) → IfSome peer (Appends old.received new.received))
    → r ≡ Err (node.Peer why) → ⊥
join_unrefused agreeing s t j r old new peer theirs received why sound messages is told stopped cut because =
    let x : Exchanges old new peer (IsUnjoined s t (node.Peer why)) =
    subst (λ q. IfErr q (λ why. Exchanges old new peer (IsUnjoined s t why))) because stopped in
    let front = came_of peer x.talks.left theirs x.came is x.talks.front in
    unrefused_joining s j t theirs x.came x.gone front.0 why (agreeing j s messages.sound sound messages.agree) messages front.1
    (λ offset same. all_came old.received new.received peer received theirs x.came told is x.talks.received
    (cut offset (because ∙ ap (λ w. Err (node.Peer w)) same)))
    x.said
