-- A message on its way from one end of a pair to the other.
use Rattle.std.proofs.Common.{◌≡◌, ℕ, zero, suc, ◌+◌, ◌-◌, ◌<◌, ◌≤◌, true, List, [], ◌∷◌, ◌++◌, length, take, drop, refl, sym, ap}
use Rattle.std.proofs.Common.{subst, ◌∙◌, append-nil, append_assoc, arith, take-append-drop, Bool}
use Rattle.std.specs.Prelude.{Option, Some, None}
use Rattle.std.proofs.Math.Seq.{take-add}
use Rattle.std.proofs.lemmas.List.{length-append, length-drop, length-take-le, nil_from_length, take_at}
use Rattle.std.proofs.KnownBytes.{Appends-nil, Appends-trans, Consumes-trans}
use Rattle.std.specs.Io.KnownBytes.{Appends, Consumes, IsAtEnd, append_known}
use Rattle.outside_io.specs.Ends.{End, brought}
use Rattle.outside_io.specs.Writing.{WritesFront}
use Rattle.outside_io.specs.declared.link.Asked.{Asked}
use Rattle.outside_io.specs.declared.link.Asked.TheVariants.{Pair}
use Rattle.wire_codec.proofs.CallerLemmas.{IsBytes, IsBytes-take}
use Rattle.peer_exchange.specs.declared.messages.Which.{Which}
use Rattle.peer_exchange.specs.declared.messages.Measure.{Measure}
use Rattle.peer_exchange.specs.declared.messages.Measure.TheVariants as message
use Rattle.peer_exchange.specs.declared.messages.PeerCause.{PeerCause}
use Rattle.peer_exchange.specs.declared.messages.PeerCause.TheVariants.{Head, Frame, Cut, Extra, Limit}
use Rattle.peer_exchange.specs.declared.peer.Peer.TheVariants as refused
use Rattle.peer_exchange.specs.Lengths.{IsTooLong}
use Rattle.peer_exchange.specs.Measuring.{measure_of}
use Rattle.peer_exchange.specs.Refusals.{IsWhole}
use Rattle.peer_exchange.proofs.CallerLemmas.{says_still}
use Rattle.site_node.specs.declared.node.Node.{Node}
use Rattle.site_node.specs.declared.node.Node.TheVariants as node
use Rattle.site_node.specs.Exchanges.{IsFrontOf}
use Rattle.site_node.specs.Moves.{Receives, Gains}
use Rattle.site_node.specs.Pairs.{IsUnspoilt}
use Rattle.site_node.specs.Stops.{AreAskedFor, Explains, IsSpoilt}
use Rattle.site_node.specs.Code.Reading.{StopsAfter}
use Rattle.site_node.specs.Code.Carrying.{SendsOn, IsCarried, IsUncarried}

-- ---- a piece of the bytes

-- a front of what is left of them
pub piece_of_rest : (bytes rest piece : List ℕ) (at n : ℕ) → rest ≡ drop at bytes → piece ≡ take n rest → length piece ≡ n
    → take (at + length piece) bytes ≡ take at bytes ++ piece
piece_of_rest bytes rest piece at n left is size =
    let same : take (length piece) (drop at bytes) ≡ piece =
    ap (λ (k : ℕ). take k (drop at bytes)) size ∙ (ap (take n) (sym left) ∙ sym is) in
    take-add at (length piece) bytes ∙ ap (λ (t : List ℕ). take at bytes ++ t) same

-- all of a piece is to come at the other end of a pair that is linked
all_brought : (a b : Option (List ℕ)) (asked : Asked) (linked : Bool) (piece : List ℕ) → asked ≡ Pair → linked ≡ true
    → Appends a b (brought asked linked piece) → Appends a b piece
all_brought a b asked linked piece pair link came = subst (Appends a b) (λ i. brought (pair i) (link i) piece) came

pub sends_piece : (a b o p : End) (bytes rest piece : List ℕ) (n : ℕ) (asked : Asked) (at : ℕ) → rest ≡ drop at bytes
    → piece ≡ take n rest → length piece ≡ n
    → Appends a.sent b.sent piece → asked ≡ Pair → o.linked ≡ true → Appends o.to_come p.to_come (brought asked o.linked piece)
    → SendsOn a b o p bytes at (at + length piece)
sends_piece a b o p bytes rest piece n asked at left is size sent pair link came = record {
  piece = piece;
  parts = piece_of_rest bytes rest piece at n left is size;
  sent = sent;
  brought = all_brought o.to_come p.to_come asked o.linked piece pair link came;
}

-- a front of a piece is one of what is left
pub front_of_rest : (a b : Option (List ℕ)) (bytes rest piece : List ℕ) (at n : ℕ) → rest ≡ drop at bytes → piece ≡ take n rest
    → WritesFront a b piece → WritesFront a b (drop at bytes)
front_of_rest a b bytes rest piece at n left is written = record {
  front = written.front;
  rest = written.rest ++ drop n rest;
  parts =
      sym left ∙ (sym (take-append-drop n rest)
      ∙ (ap (λ (t : List ℕ). t ++ drop n rest) (sym is ∙ written.parts) ∙ append_assoc written.front written.rest (drop n rest)));
  written = written.written;
}

-- ---- bytes under way

-- all that was sent has come, or is to come, after what was to come at first
abbrev pub IsUnderWay : (first now : Option (List ℕ)) (sent came : List ℕ) → Type 0
IsUnderWay first now sent came = Consumes (append_known first sent) now came

pub way_none : (a : Option (List ℕ)) (came : List ℕ) → came ≡ [] → IsUnderWay a a [] came
way_none None came none = tt
way_none (Some xs) came none = append-nil xs ∙ ap (λ (t : List ℕ). t ++ xs) (sym none)

pub way_sent : (a b c : Option (List ℕ)) (sent piece later came : List ℕ) → IsUnderWay a b sent came → Appends b c piece
    → later ≡ sent ++ piece → IsUnderWay a c later came
way_sent None b c sent piece later came way written is = tt
way_sent (Some xs) None c sent piece later came way written is = absurd way
way_sent (Some xs) (Some ys) None sent piece later came way written is = absurd written
way_sent (Some xs) (Some ys) (Some zs) sent piece later came way written is =
    ap (λ (t : List ℕ). xs ++ t) is
    ∙ (sym (append_assoc xs sent piece)
    ∙ (ap (λ (t : List ℕ). t ++ piece) way
    ∙ (append_assoc came ys piece
    ∙ ap (λ (t : List ℕ). came ++ t) (sym written))))

-- where nothing was to come at first
pub way_told : (a b : Option (List ℕ)) (sent came : List ℕ) → a ≡ Some [] → IsUnderWay a b sent came
    → (ys : List ℕ) × (b ≡ Some ys) × (sent ≡ came ++ ys)
way_told a b sent came none way = go b (subst (λ (x : Option (List ℕ)). IsUnderWay x b sent came) none way)
  where
    go : (x : Option (List ℕ)) → IsUnderWay (Some []) x sent came → (ys : List ℕ) × (x ≡ Some ys) × (sent ≡ came ++ ys)
    go None told = absurd told
    go (Some ys) told = (ys, refl, told)

-- some of them come
pub way_read : (a b c : Option (List ℕ)) (sent came piece : List ℕ) → IsUnderWay a b sent came → Consumes b c piece
    → IsUnderWay a c sent (came ++ piece)
way_read a b c sent came piece way consumed = Consumes-trans (append_known a sent) b c came piece way consumed

-- ---- fronts of a whole message

pub front_bytes : (front rest all : List ℕ) → IsBytes all → all ≡ front ++ rest → IsBytes front
front_bytes front rest all fits parts =
    let is : take (length front) all ≡ front = ap (take (length front)) parts ∙ take_at front rest (length front) refl in
    subst IsBytes is (IsBytes-take (length front) all fits)

-- a front of a whole message that is a message itself is all of it
pub whole_front : (which : Which) (bytes came : List ℕ) → IsBytes bytes → IsWhole which bytes → IsFrontOf came bytes → IsWhole which came
    → came ≡ bytes
whole_front which bytes came fits whole front own =
    let still : measure_of which bytes ≡ message.Whole (length came) =
    ap (measure_of which) front.1 ∙ says_still which came front.0 (message.Whole (length came))
    (front_bytes came front.0 bytes fits front.1) (λ n never. cc) own in
    let same : ◌≡◌ {A = Measure} (message.Whole (length bytes)) (message.Whole (length came)) = sym whole ∙ still in
    let size : length bytes ≡ length came = cc in
    let none : front.0 ≡ [] = nil_from_length front.0 (omega (arith, size, ap length front.1, length-append came front.0)) in
    sym (front.1 ∙ (ap (λ (t : List ℕ). came ++ t) none ∙ append-nil came))

-- one that asks for more isn't all of it
pub more_front : (which : Which) (bytes came : List ℕ) (k : ℕ) → IsWhole which bytes → IsFrontOf came bytes
    → measure_of which came ≡ message.More k → length came < length bytes
more_front which bytes came k whole front more = go front.0 front.1
  where
    go : (rest : List ℕ) → bytes ≡ came ++ rest → length came < length bytes
    go [] parts =
        let same : bytes ≡ came = parts ∙ append-nil came in
        absurd (let never = sym whole ∙ (ap (measure_of which) same ∙ more) in cc)
    go (x ∷ xs) parts = omega (arith, ap length parts, length-append came (x ∷ xs))

-- and none has a fault
pub bad_front : (which : Which) (bytes came : List ℕ) (offset : ℕ) (cause : PeerCause) → IsBytes bytes → IsWhole which bytes
    → IsFrontOf came bytes → measure_of which came ≡ message.Bad offset cause → ⊥
bad_front which bytes came offset cause fits whole front bad =
    let still : measure_of which bytes ≡ message.Bad offset cause =
    ap (measure_of which) front.1 ∙ says_still which came front.0 (message.Bad offset cause) (front_bytes came front.0 bytes fits front.1)
    (λ n never. cc) bad in
    let never = sym whole ∙ still in cc

-- ---- carrying a message

-- of the bytes those up to `at` went at the one end, and these came at the other
pub record Carrying (a b o p : End) (bytes : List ℕ) (at : ℕ) (came : List ℕ) : Type 0 where
  pub sent : Appends a.sent b.sent (take at bytes)
  pub received : Appends o.received p.received came
  pub way : IsUnderWay o.to_come p.to_come (take at bytes) came

pub carrying_none : (a o : End) (bytes came : List ℕ) → came ≡ [] → Carrying a a o o bytes 0 came
carrying_none a o bytes came none = record {
  sent = Appends-nil a.sent;
  received = subst (Appends o.received o.received) (sym none) (Appends-nil o.received);
  way = way_none o.to_come came none;
}

carrying_sent : (a b c o p q : End) (bytes : List ℕ) (at next : ℕ) (came : List ℕ) → Carrying a b o p bytes at came
    → SendsOn b c p q bytes at next → q.received ≡ p.received → Carrying a c o q bytes next came
carrying_sent a b c o p q bytes at next came r s same = record {
  sent = subst (Appends a.sent c.sent) (sym s.parts) (Appends-trans a.sent b.sent c.sent (take at bytes) s.piece r.sent s.sent);
  received = subst (λ (x : Option (List ℕ)). Appends o.received x came) (sym same) r.received;
  way = way_sent o.to_come p.to_come q.to_come (take at bytes) s.piece (take next bytes) came r.way s.brought s.parts;
}

carrying_read : (a b c o p q : End) (bytes : List ℕ) (at : ℕ) (came piece : List ℕ) → Carrying a b o p bytes at came → c ≡ b
    → Receives p q piece → Carrying a c o q bytes at (came ++ piece)
carrying_read a b c o p q bytes at came piece r same moved = record {
  sent = subst (λ (x : End). Appends a.sent x.sent (take at bytes)) (sym same) r.sent;
  received = Appends-trans o.received p.received q.received came piece r.received moved.received;
  way = way_read o.to_come p.to_come q.to_come (take at bytes) came piece r.way moved.consumed;
}

-- where the next piece went, and one more came
pub carrying_on : (a b c d o p q x : End) (bytes : List ℕ) (at next : ℕ) (came after : List ℕ) → Carrying a b o p bytes at came
    → SendsOn b c p q bytes at next → q.received ≡ p.received → d ≡ c → Gains q x came after → Carrying a d o x bytes next after
carrying_on a b c d o p q x bytes at next came after r s same other gains =
    subst (Carrying a d o x bytes next) (sym gains.grown)
    (carrying_read a c d o q x bytes next came gains.piece (carrying_sent a b c o p q bytes at next came r s same) other gains.moved)

-- where nothing was to come at first, what came is a front of what went, and this is left of that
told : (a b o p : End) (bytes : List ℕ) (at : ℕ) (came : List ℕ) → Carrying a b o p bytes at came → o.to_come ≡ Some []
    → (ys : List ℕ) × (p.to_come ≡ Some ys) × (take at bytes ≡ came ++ ys)
told a b o p bytes at came r none = way_told o.to_come p.to_come (take at bytes) came none r.way

front_of_all : (bytes : List ℕ) (at : ℕ) (came ys : List ℕ) → take at bytes ≡ came ++ ys → IsFrontOf came bytes
front_of_all bytes at came ys parts = (
  ys ++ drop at bytes,
  sym (take-append-drop at bytes)
      ∙ (ap (λ (t : List ℕ). t ++ drop at bytes) parts ∙ append_assoc came ys (drop at bytes)),
)

-- ---- all of it went

pub all_went : (a b c : Option (List ℕ)) (bytes rest : List ℕ) (at : ℕ) → rest ≡ drop at bytes → Appends a b (take at bytes)
    → Appends b c rest → Appends a c bytes
all_went a b c bytes rest at left first second =
    subst (Appends a c) (take-append-drop at bytes) (Appends-trans a b c (take at bytes) (drop at bytes) first
    (subst (Appends b c) left second))

-- a whole message came, and the rest goes
pub carried : (which : Which) (a b o p q : End) (bytes rest came message : List ℕ) (asked : Asked) (at : ℕ) → IsBytes bytes
    → at ≤ length bytes → Carrying a b o p bytes at came → IsWhole which came
    → message ≡ came → rest ≡ drop at bytes → q.received ≡ p.received → asked ≡ Pair → p.linked ≡ true
    → Appends p.to_come q.to_come (brought asked p.linked rest) → IsCarried o q which bytes message
carried which a b o p q bytes rest came message asked at fits within r own whole_is left same pair link goes =
    subst (IsCarried o q which bytes) (sym whole_is) (record {
      received = subst (λ (x : Option (List ℕ)). Appends o.received x came) (sym same) r.received;
      same = λ whole none.
          let t = told a b o p bytes at came r none in
          let is : came ≡ bytes = whole_front which bytes came fits whole (front_of_all bytes at came t.0 t.2) own in
          let size : length (take at bytes) ≡ at = length-take-le at bytes within in
          let total : length (take at bytes) ≡ length came + length t.0 = ap length t.2 ∙ length-append came t.0 in
          let all : length came ≡ length bytes = ap length is in
          let nothing : t.0 ≡ [] = nil_from_length t.0 (omega (arith, size, total, all, within)) in
          let no_rest : drop at bytes ≡ [] =
          nil_from_length (drop at bytes) (omega (arith, size, total, all, within, length-drop at bytes)) in
          let more : Appends p.to_come q.to_come [] =
          subst (Appends p.to_come q.to_come) (left ∙ no_rest) (all_brought p.to_come q.to_come asked p.linked rest pair link goes) in
          (is, nothing_more q.to_come (subst (λ (x : Option (List ℕ)). Appends x q.to_come []) (t.1 ∙ ap Some nothing) more));
    })
  where
    nothing_more : (x : Option (List ℕ)) → Appends (Some []) x [] → x ≡ Some []
    nothing_more None never = absurd never
    nothing_more (Some xs) e = ap Some e

-- ---- it doesn't

-- the wire failed while it went
pub wire_failed : (which : Which) (a b c o p q : End) (bytes rest came : List ℕ) (at : ℕ) → Carrying a b o p bytes at came
    → rest ≡ drop at bytes → WritesFront b.sent c.sent rest → q.received ≡ p.received
    → AreAskedFor which came → IsUncarried a c o q which bytes node.Link
wire_failed which a b c o p q bytes rest came at r left written same asked = record {
  gone = take at bytes ++ written.front;
  front = (
    written.rest,
    sym (take-append-drop at bytes)
        ∙ (ap (λ (t : List ℕ). take at bytes ++ t) (sym left ∙ written.parts)
        ∙ sym (append_assoc (take at bytes) written.front written.rest)),
  );
  sent = Appends-trans a.sent b.sent c.sent (take at bytes) written.front r.sent written.written;
  came = came;
  received = subst (λ (x : Option (List ℕ)). Appends o.received x came) (sym same) r.received;
  explains = asked;
  carried = λ none.
      let t = told a b o p bytes at came r none in
      (t.0 ++ written.front, ap (λ (x : List ℕ). x ++ written.front) t.2 ∙ append_assoc came t.0 written.front);
  unspoilt = λ whole none. tt;
}

-- what came has this to say, and isn't what is said of a front of a whole message
stopped : (which : Which) (a b o p : End) (bytes came : List ℕ) (at : ℕ) (why : Node) → Carrying a b o p bytes at came
    → Explains which came why
    → (IsWhole which bytes → o.to_come ≡ Some [] → IsUnspoilt why) → IsUncarried a b o p which bytes why
stopped which a b o p bytes came at why r explains unspoilt = record {
  gone = take at bytes;
  front = (drop at bytes, sym (take-append-drop at bytes));
  sent = r.sent;
  came = came;
  received = r.received;
  explains = explains;
  carried = λ none. let t = told a b o p bytes at came r none in (t.0, t.2);
  unspoilt = unspoilt;
}

-- the ends and the bytes of a read that wasn't made, after the next piece went; it says that the bytes end too early only where no more
-- are to come, and none came
module _ (which : Which) (a b c d o p q x : End) (bytes came : List ℕ) (at next : ℕ) (why : Node) (fits : IsBytes bytes)
    (r : Carrying a b o p bytes at came) (s : SendsOn b c p q bytes at next) (same : q.received ≡ p.received) (other : d ≡ c)
    (within : (next ≤ length bytes) × (at ≤ next) × (length came ≡ at → next ≡ at → at ≡ length bytes))
    (stops : StopsAfter which q x came why)
    (cut : (offset : ℕ) → why ≡ node.Peer (refused.Bytes offset Cut) → IsAtEnd x.to_come × (offset ≡ length came)) where
  abbrev all_came : List ℕ
  all_came = came ++ stops.piece

  read : Carrying a d o x bytes next all_came
  read = carrying_read a c d o q x bytes next came stops.piece (carrying_sent a b c o p q bytes at next came r s same) other stops.receives

  module _ (whole : IsWhole which bytes) (quiet : o.to_come ≡ Some []) where
    left : (ys : List ℕ) × (x.to_come ≡ Some ys) × (take next bytes ≡ all_came ++ ys)
    left = told a d o x bytes next all_came read quiet

    front : IsFrontOf all_came bytes
    front = front_of_all bytes next all_came left.0 left.2

    -- a front of a whole message doesn't end too early
    not_cut : (offset : ℕ) → IsSpoilt which all_came offset Cut → IsAtEnd x.to_come → offset ≡ length came → ⊥
    not_cut offset spoilt ended none =
        let before = told a b o p bytes at came r quiet in
        let nothing : left.0 ≡ [] = subst IsAtEnd left.1 ended in
        let size : length (take next bytes) ≡ next = length-take-le next bytes within.0 in
        let total : length (take next bytes) ≡ length all_came + length left.0 = ap length left.2 ∙ length-append all_came left.0 in
        let size_before : length (take at bytes) ≡ at = length-take-le at bytes (omega (arith, within.1, within.0)) in
        let total_before : length (take at bytes) ≡ length came + length before.0 = ap length before.2 ∙ length-append came before.0 in
        let no_piece : length all_came ≡ length came = omega (arith, spoilt.2, none) in
        let zero_left : length left.0 ≡ 0 = ap length nothing in
        let all_read : length came ≡ at = omega (arith, size, total, size_before, total_before, zero_left, no_piece, within.1) in
        let unmoved : next ≡ at = omega (arith, size, total, all_read, zero_left, no_piece) in
        let all : at ≡ length bytes = within.2 all_read unmoved in
        let fewer = more_front which bytes all_came spoilt.0.0 whole front spoilt.0.1 in
        omega (arith, fewer, all_read, all, no_piece)

    unspoilt_by : (y : Node) → why ≡ y → Explains which all_came y → IsUnspoilt y
    unspoilt_by node.Link is e = tt
    unspoilt_by (node.Peer (refused.Bytes offset Head)) is e = bad_front which bytes all_came offset Head fits whole front e.1
    unspoilt_by (node.Peer (refused.Bytes offset (Frame cause))) is e =
        bad_front which bytes all_came offset (Frame cause) fits whole front e.1
    unspoilt_by (node.Peer (refused.Bytes offset Cut)) is e = not_cut offset e.1 (cut offset is).0 (cut offset is).1
    unspoilt_by (node.Peer (refused.Bytes offset Extra)) is e = e.1
    unspoilt_by (node.Peer (refused.Bytes offset Limit)) is e = tt
    unspoilt_by (node.Peer (refused.Op member verdict)) is e = tt
    unspoilt_by (node.Peer refused.Memory) is e = e
    unspoilt_by node.Memory is e = tt

  pub read_stopped : IsUncarried a d o x which bytes why
  read_stopped =
      stopped which a d o x bytes all_came next why read stops.explains (λ whole quiet. unspoilt_by whole quiet why refl stops.explains)

-- ---- the most bytes of a message

front_then : (a b c : List ℕ) → IsFrontOf a b → IsFrontOf b c → IsFrontOf a c
front_then a b c one two = (one.0 ++ two.0, two.1 ∙ (ap (λ (t : List ℕ). t ++ two.0) one.1 ∙ append_assoc a one.0 two.0))

-- where they came without an end, the message that was sent is longer
pub limit_too_long : (which : Which) (a b o p : End) (bytes : List ℕ) (why : Node) (offset : ℕ) → IsUncarried a b o p which bytes why
    → IsWhole which bytes → o.to_come ≡ Some []
    → why ≡ node.Peer (refused.Bytes offset Limit) → IsTooLong bytes
limit_too_long which a b o p bytes why offset un whole none is =
    let said = subst (Explains which un.came) is un.explains in
    let spoilt : IsSpoilt which un.came offset Limit = said.1 in
    let fewer = more_front which bytes un.came spoilt.0.0 whole (front_then un.came un.gone bytes (un.carried none) un.front) spoilt.0.1 in
    omega (arith, fewer, spoilt.1)

-- ---- the ends of a pair

-- the other end of the other end is the end itself
pub end_back : (w v : ℕ → End) (end : ℕ) → end < 2 → v (1 - (1 - end)) ≡ w (1 - (1 - end)) → v end ≡ w end
end_back w v zero side same = same
end_back w v (suc zero) side same = same
end_back w v (suc (suc n)) side same = absurd (omega (arith, side))
