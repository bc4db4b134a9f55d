-- A message that was read no further than it asked for is read to no byte past its end.
use Rattle.std.proofs.Common.{◌≡◌, ℕ, suc, zero, ◌+◌, ◌-◌, ◌<◌, ◌≤◌, ltb, eqb, Bool, true, false, cond, List, [], ◌++◌, length, take}
use Rattle.std.proofs.Common.{drop, Result, Ok, Err, refl, sym, ap, subst, ◌∙◌, arith, inl, inr}
use Rattle.std.specs.List.{starts_with}
use Rattle.std.specs.Int.{w32, from_be_bytes}
use Rattle.std.proofs.lemmas.Bool.{cases_Bool, ltb-true, ltb-false, le-ltb}
use Rattle.std.proofs.lemmas.List.{length-append, length-drop, take-append-drop, take_at, nil_from_length, take-append-le, drop-append-le}
use Rattle.std.proofs.lemmas.Nat.{from_be_bytes-to_be_bytes_4}
use Rattle.context_vector.specs.Contexts.{ContextData}
use Rattle.context_diff.specs.Operations.{OpData}
use Rattle.wire_codec.specs.declared.version.Version.TheVariants.{Two}
use Rattle.wire_codec.specs.declared.fault.Fault.{Fault}
use Rattle.wire_codec.specs.declared.fault.Refused.{Refused}
use Rattle.wire_codec.specs.declared.fault.Refused.TheVariants.{More, Bad}
use Rattle.wire_codec.specs.Spelling.{body_bytes, frame}
use Rattle.wire_codec.specs.Reading.{left_at, fault}
use Rattle.wire_codec.specs.declared.cause.Cause.TheVariants.{TooLong}
use Rattle.wire_codec.specs.Versions.{longest}
use Rattle.wire_codec.specs.Judging.{body_at, judged, judge, length_of}
use Rattle.wire_codec.specs.Answers.{scan_of}
use Rattle.wire_codec.specs.declared.fault.Unread.{Unread}
use Rattle.wire_codec.specs.declared.fault.Unread.TheVariants as unread
use Rattle.wire_codec.specs.States.{state_bytes, judge_state, state_scan_of}
use Rattle.wire_codec.proofs.CallerLemmas.{IsBytes, IsBytes-drop, IsBytes-take, body_short, judge_takes, judge_more, cond_err}
use Rattle.wire_codec.proofs.CallerLemmas.{state_takes, state_more, state_needs}
use Rattle.peer_exchange.specs.declared.messages.Which.{Which}
use Rattle.peer_exchange.specs.declared.stages.Stage.{Stage}
use Rattle.peer_exchange.specs.declared.stages.Stage.TheVariants.{Head, State, Frames}
use Rattle.peer_exchange.specs.declared.stages.Piece.{Piece}
use Rattle.peer_exchange.specs.declared.stages.Piece.TheVariants as part
use Rattle.peer_exchange.specs.declared.messages.PeerCause.TheVariants as causes
use Rattle.peer_exchange.specs.declared.messages.Measure.{Measure}
use Rattle.peer_exchange.specs.declared.messages.Measure.TheVariants as whole
use Rattle.peer_exchange.specs.Measuring.{start, head, head_piece, stated, state_piece, framed, frame_piece, piece_of, after_piece}
use Rattle.peer_exchange.specs.Measuring.{pieces, measure_of}
use Rattle.peer_exchange.specs.Measuring.{NotPast}
use Rattle.peer_exchange.proofs.Staying.{is_there, first_no, first_yes, by_false, by_true}
use Rattle.peer_exchange.proofs.Going.{enough}

-- the frame that bytes begin with is as long as its first four bytes say
used_is : (bytes : List ℕ) (o : OpData) (used : ℕ) → IsBytes bytes → judge Two bytes ≡ Ok (o, used) → used ≡ 4 + length_of bytes
used_is bytes o used fits e =
    let is = judge_takes Two bytes o used fits e in
    let short = body_short Two o is.well.in_range is.fits in
    let n = length (body_bytes Two o) in
    let size : length_of bytes ≡ n = ap length_of is.parts ∙ from_be_bytes-to_be_bytes_4 n (omega (arith, short)) in
    let long : length (frame Two o) ≡ 4 + n = omega arith in
    omega (arith, is.size, size, long)

-- a part of so many bytes, or nothing known
abbrev EndsAt : ℕ → Piece → Type 0
EndsAt n (part.Got next used) = used ≡ n
EndsAt n (part.Whole used) = used ≡ n
EndsAt n (part.More k) = Unit {0}
EndsAt n (part.Bad offset cause) = Unit {0}

head_ends : (frames : Bool) (bytes tail : List ℕ) (m : ℕ) → head_piece frames bytes ≡ part.More m → length (bytes ++ tail) ≤ m
    → EndsAt (length (bytes ++ tail)) (head_piece frames (bytes ++ tail))
head_ends frames bytes tail m e within =
    let is_head = starts_with (λ (x : ℕ) (y : ℕ). eqb x y) bytes head in
    let short =
    first_yes (ltb (length bytes) 8) (part.More 8) (cond is_head (part.Got (State frames) 8) (part.Bad 0 causes.Head)) (part.More m) e
    (not_more is_head m) in
    let eight : 8 ≡ m = let is = short.1 in cc in
    by_cases (bytes ++ tail) (omega (arith, within, eight))
  where
    not_more : (b : Bool) (k : ℕ) → cond b (part.Got (State frames) 8) (part.Bad 0 causes.Head) ≡ part.More k → ⊥
    not_more true k e' = cc
    not_more false k e' = cc

    by_cases : (all : List ℕ) → length all ≤ 8 → EndsAt (length all) (head_piece frames all)
    by_cases all few =
        elim (cases_Bool (ltb (length all) 8)) [
          | inl short ↦ rw short tt
          | inr ready ↦ elim (cases_Bool (starts_with (λ (x : ℕ) (y : ℕ). eqb x y) all head)) [
            | inl same ↦ rw (ready, same) (let long = ltb-false _ _ ready in omega (arith, long, few))
            | inr other ↦ rw (ready, other) tt
          ]
        ]

-- ---- states

stated_more : (frames : Bool) (j : Result (ContextData × ℕ) Unread) (m : ℕ) → stated frames (state_scan_of j) ≡ part.More m
    → j ≡ Err (unread.More m)
stated_more true (Ok x) m e = absurd cc
stated_more false (Ok x) m e = absurd cc
stated_more frames (Err (unread.More n)) m e = let same : n ≡ m = cc in λ i. Err (unread.More (same i))
stated_more frames (Err (unread.Bad f)) m e = absurd cc

state_ends : (frames : Bool) (bytes tail : List ℕ) (m : ℕ) → IsBytes (bytes ++ tail) → state_piece frames bytes ≡ part.More m
    → length (bytes ++ tail) ≤ m → EndsAt (length (bytes ++ tail)) (state_piece frames (bytes ++ tail))
state_ends frames bytes tail m fits e within = go (judge_state all) refl
  where
    all : List ℕ
    all = bytes ++ tail

    both : (b : Bool) (c : ContextData) (used : ℕ) → used ≡ length all → EndsAt (length all) (stated b (state_scan_of (Ok (c, used))))
    both true c used is = is
    both false c used is = is

    go : (j : Result (ContextData × ℕ) Unread) → judge_state all ≡ j → EndsAt (length all) (stated frames (state_scan_of j))
    go (Ok x) got =
        let is = state_takes all x.0 x.1 fits got in
        let size = is.size in
        let total : length all ≡ length (state_bytes x.0) + length (drop x.1 all) =
        ap length is.parts ∙ length-append (state_bytes x.0) (drop x.1 all) in
        let needs = state_needs bytes tail x.0 x.1 m (stated_more frames (judge_state bytes) m e) got in
        both frames x.0 x.1 (omega (arith, within, needs, size, total))
    go (Err (unread.More n)) got = tt
    go (Err (unread.Bad f)) got = tt

-- ---- frames

judged_says : (used m : ℕ) (r : Result OpData Fault) → judged used r ≡ Err (More m) → ⊥
judged_says used m (Ok o) e = cc
judged_says used m (Err f) e = cc

more_is : (bytes : List ℕ) (m : ℕ) → 4 ≤ length bytes → judge Two bytes ≡ Err (More m) → m ≡ 4 + length_of bytes
unfolding judge
more_is bytes m long e =
    let size = length_of bytes in
    let body = judged (4 + size) (body_at Two (left_at 4 (take size (drop 4 bytes)))) in
    let last = cond (ltb (length bytes) (4 + size)) (Err (More (4 + size))) body in
    elim (cond_err (ltb (length bytes) 4) (More 4) (More m) (cond (ltb (longest Two) size) (Err (Bad (fault TooLong 0))) last) e) [
      | inl few ↦ let less = ltb-true _ _ few.0 in absurd (omega (arith, less, long))
      | inr e1 ↦ elim (cond_err (ltb (longest Two) size) (Bad (fault TooLong 0)) (More m) last e1.1) [
        | inl bad ↦ let no = bad.1 in cc
        | inr e2 ↦ elim (cond_err (ltb (length bytes) (4 + size)) (More (4 + size)) (More m) body e2.1) [
          | inl is ↦ let same = is.1 in let out : 4 + size ≡ m = cc in omega (arith, out)
          | inr e3 ↦ absurd (judged_says (4 + size) m (body_at Two (left_at 4 (take size (drop 4 bytes)))) e3.1)
        ]
      ]
    ]

-- bytes that end no later than the frame that they begin with
framed_ends : (all : List ℕ) → IsBytes all → length all ≤ 4 + length_of all → EndsAt (length all) (framed (scan_of (judge Two all)))
framed_ends all fits few = go (judge Two all) refl
  where
    go : (j : Result (OpData × ℕ) Refused) → judge Two all ≡ j → EndsAt (length all) (framed (scan_of j))
    go (Ok x) e =
        let is = judge_takes Two all x.0 x.1 fits e in
        let total : length all ≡ length (frame Two x.0) + length (drop x.1 all) =
        ap length is.parts ∙ length-append (frame Two x.0) (drop x.1 all) in
        omega (arith, few, used_is all x.0 x.1 fits e, is.size, total)
    go (Err (More n)) e = tt
    go (Err (Bad f)) e = tt

framed_more : (j : Result (OpData × ℕ) Refused) (m : ℕ) → framed (scan_of j) ≡ part.More m → j ≡ Err (More m)
framed_more (Ok x) m e = absurd cc
framed_more (Err (More n)) m e = let same : n ≡ m = cc in λ i. Err (More (same i))
framed_more (Err (Bad f)) m e = absurd cc

frames_end : (bytes tail : List ℕ) (m : ℕ) → IsBytes (bytes ++ tail) → frame_piece bytes ≡ part.More m → length (bytes ++ tail) ≤ m
    → EndsAt (length (bytes ++ tail)) (frame_piece (bytes ++ tail))
frames_end bytes tail m fits e within =
    let all = bytes ++ tail in
    elim (cases_Bool (ltb (length bytes) 4)) [
      | inl few ↦
          let four : part.More 4 ≡ part.More m =
          sym (by_true (ltb (length bytes) 4) (part.More 4) (cond (eqb (length_of bytes) 0) (part.Whole 4)
          (framed (scan_of (judge Two bytes)))) few) ∙ e in
          let is : 4 ≡ m = cc in
          front all fits (omega (arith, within, is))
      | inr ready ↦
          let long = ltb-false _ _ ready in
          let second : cond (eqb (length_of bytes) 0) (part.Whole 4) (framed (scan_of (judge Two bytes))) ≡ part.More m =
          sym (by_false (ltb (length bytes) 4) (part.More 4) (cond (eqb (length_of bytes) 0) (part.Whole 4)
          (framed (scan_of (judge Two bytes)))) ready) ∙ e in
          let third =
          first_no (eqb (length_of bytes) 0) (part.Whole 4) (framed (scan_of (judge Two bytes))) (part.More m) second (λ other. cc) in
          let is = more_is bytes m long (framed_more (judge Two bytes) m third.1) in
          let same : length_of all ≡ length_of bytes = ap (λ (t : List ℕ). from_be_bytes w32 t) (take-append-le 4 bytes tail long) in
          let more : ltb (length all) 4 ≡ false = le-ltb _ _ (omega (arith, long, length-append bytes tail)) in
          let not_end : eqb (length_of all) 0 ≡ false = ap (λ (n : ℕ). eqb n 0) same ∙ third.0 in
          rw (more, not_end) (framed_ends all fits (omega (arith, within, is, same)))
    ]
  where
    front : (all : List ℕ) → IsBytes all → length all ≤ 4 → EndsAt (length all) (frame_piece all)
    front all fits few =
        elim (cases_Bool (ltb (length all) 4)) [
          | inl short ↦ rw short tt
          | inr ready ↦
              let long = ltb-false _ _ ready in
              elim (cases_Bool (eqb (length_of all) 0)) [
                | inl ended ↦ rw (ready, ended) (omega (arith, long, few))
                | inr other ↦ rw (ready, other) (framed_ends all fits (omega (arith, few)))
              ]
        ]

ends : (s : Stage) (bytes tail : List ℕ) (m : ℕ) → IsBytes (bytes ++ tail) → piece_of s bytes ≡ part.More m → length (bytes ++ tail) ≤ m
    → EndsAt (length (bytes ++ tail)) (piece_of s (bytes ++ tail))
ends (Head frames) bytes tail m fits e within = head_ends frames bytes tail m e within
ends (State frames) bytes tail m fits e within = state_ends frames bytes tail m fits e within
ends Frames bytes tail m fits e within = frames_end bytes tail m fits e within

-- without bytes nothing is whole
nothing_whole : (n : ℕ) (s : Stage) (at used : ℕ) → pieces n s at [] ≡ whole.Whole used → ⊥
unfolding pieces judge_state
nothing_whole zero s at used e = cc
nothing_whole (suc n) (Head frames) at used e = cc
nothing_whole (suc n) (State frames) at used e = cc
nothing_whole (suc n) Frames at used e = cc

not_past_from : (n : ℕ) (s : Stage) (at : ℕ) (rest tail : List ℕ) (k used : ℕ) → IsBytes rest → IsBytes (rest ++ tail)
    → pieces n s at rest ≡ whole.More k → at + length (rest ++ tail) ≤ k → pieces n s at (rest ++ tail) ≡ whole.Whole used
    → used ≡ at + length (rest ++ tail)
unfolding pieces
not_past_from zero s at rest tail k used fits all_fit more within got = absurd cc
not_past_from (suc n) s at rest tail k used fits all_fit more within got =
    go (λ next place later. not_past_from n next place later tail k used) (piece_of s rest) refl more
  where
    after : Piece → List ℕ → Measure
    after p bytes = after_piece (λ next u. pieces n next (at + u) (drop u bytes)) at p

    last : (q : Piece) → EndsAt (length (rest ++ tail)) q → after q (rest ++ tail) ≡ whole.Whole used → used ≡ at + length (rest ++ tail)
    last (part.Got next u) is e =
        let none : drop u (rest ++ tail) ≡ [] = nil_from_length (drop u (rest ++ tail)) (omega (arith, is, length-drop u (rest ++ tail))) in
        absurd (nothing_whole n next (at + u) used (ap (λ (t : List ℕ). pieces n next (at + u) t) (sym none) ∙ e))
    last (part.Whole u) is e = let same : at + u ≡ used = cc in omega (arith, same, is)
    last (part.More j) is e = absurd cc
    last (part.Bad offset cause) is e = absurd cc

    go : ((next : Stage) (place : ℕ) (later : List ℕ) → IsBytes later → IsBytes (later ++ tail) → pieces n next place later ≡ whole.More k
        → place + length (later ++ tail) ≤ k → pieces n next place (later ++ tail) ≡ whole.Whole used
        → used ≡ place + length (later ++ tail))
        → (p : Piece) → piece_of s rest ≡ p → after p rest ≡ whole.More k → used ≡ at + length (rest ++ tail)
    go again (part.Got next u) e says =
        let there = is_there s rest next u fits e in
        let inside = there.within in
        let split : drop u (rest ++ tail) ≡ drop u rest ++ tail = drop-append-le u rest tail inside in
        let size : length (drop u rest ++ tail) ≡ length (rest ++ tail) - u = ap length (sym split) ∙ length-drop u (rest ++ tail) in
        let long : u ≤ length (rest ++ tail) = omega (arith, inside, length-append rest tail) in
        let got' : pieces n next (at + u) (drop u rest ++ tail) ≡ whole.Whole used =
        ap (pieces n next (at + u)) (sym split) ∙ (ap (λ (q : Piece). after q (rest ++ tail)) (sym (there.stays tail)) ∙ got) in
        let is =
        again next (at + u) (drop u rest) (IsBytes-drop u rest fits) (subst IsBytes split (IsBytes-drop u (rest ++ tail) all_fit)) says
        (omega (arith, within, size, long)) got' in
        omega (arith, is, size, long)
    go again (part.Whole u) e says = absurd cc
    go again (part.More m) e says =
        let asked : at + m ≡ k = cc in
        last (piece_of s (rest ++ tail)) (ends s rest tail m all_fit e (omega (arith, asked, within))) got
    go again (part.Bad offset cause) e says = absurd cc

pub nothing_past : (which : Which) → NotPast which []
nothing_past which used e = absurd (nothing_whole 1 (start which) 0 used e)

-- no more bytes than were asked for leave it so
pub not_past : (which : Which) (bytes piece : List ℕ) (k : ℕ) → IsBytes bytes → IsBytes (bytes ++ piece)
    → measure_of which bytes ≡ whole.More k → length (bytes ++ piece) ≤ k → NotPast which (bytes ++ piece)
not_past which bytes piece k fits all_fit more within used got =
    let n = suc (length (bytes ++ piece)) in
    let is = not_past_from n (start which) 0 bytes piece k used fits all_fit
    (enough n (suc (length bytes)) (start which) 0 bytes fits (omega (arith, length-append bytes piece)) (omega arith) ∙ more)
    (omega (arith, within)) got in
    omega (arith, is)

-- the same of all bytes in two parts
pub not_past_at : (which : Which) (all : List ℕ) (before : ℕ) → IsBytes all → (k : ℕ) → measure_of which (take before all) ≡ whole.More k
    → length all ≤ k → NotPast which all
not_past_at which all before fits k more few =
    let parts : take before all ++ drop before all ≡ all = take-append-drop before all in
    let size : length (take before all ++ drop before all) ≤ k = subst (λ (t : List ℕ). length t ≤ k) (sym parts) few in
    subst (NotPast which) parts (not_past which (take before all) (drop before all) k (IsBytes-take before all fits)
    (subst IsBytes (sym parts) fits) more size)

-- the same of bytes that a piece was appended to
pub fed_past : (which : Which) (old now all piece : List ℕ) (before : ℕ) → all ≡ now → now ≡ old ++ piece → length old ≡ before
    → ((k : ℕ) → measure_of which (take before all) ≡ whole.More k → length all ≤ k → NotPast which all)
    → (k : ℕ) → measure_of which old ≡ whole.More k → length now ≤ k → NotPast which now
fed_past which old now all piece before same grown size law k more few =
    let front : take before all ≡ old = ap (take before) (same ∙ grown) ∙ take_at old piece before size in
    subst (NotPast which) same (law k (ap (measure_of which) front ∙ more) (subst (λ (t : List ℕ). length t ≤ k) (sym same) few))

-- ---- more bytes are asked for than there are

head_asks : (frames : Bool) (bytes : List ℕ) (m : ℕ) → head_piece frames bytes ≡ part.More m → length bytes < m
head_asks frames bytes m e =
    let is_head = starts_with (λ (x : ℕ) (y : ℕ). eqb x y) bytes head in
    let short =
    first_yes (ltb (length bytes) 8) (part.More 8) (cond is_head (part.Got (State frames) 8) (part.Bad 0 causes.Head)) (part.More m) e
    (not_more is_head m) in
    let eight : 8 ≡ m = let is = short.1 in cc in
    omega (arith, eight, ltb-true _ _ short.0)
  where
    not_more : (b : Bool) (k : ℕ) → cond b (part.Got (State frames) 8) (part.Bad 0 causes.Head) ≡ part.More k → ⊥
    not_more true k e' = cc
    not_more false k e' = cc

frame_asks : (bytes : List ℕ) (m : ℕ) → frame_piece bytes ≡ part.More m → length bytes < m
frame_asks bytes m e =
    let last = cond (eqb (length_of bytes) 0) (part.Whole 4) (framed (scan_of (judge Two bytes))) in
    elim (cases_Bool (ltb (length bytes) 4)) [
      | inl few ↦
          let four : part.More 4 ≡ part.More m = sym (by_true (ltb (length bytes) 4) (part.More 4) last few) ∙ e in
          let is : 4 ≡ m = cc in
          omega (arith, is, ltb-true _ _ few)
      | inr ready ↦
          let second : last ≡ part.More m = sym (by_false (ltb (length bytes) 4) (part.More 4) last ready) ∙ e in
          let third =
          first_no (eqb (length_of bytes) 0) (part.Whole 4) (framed (scan_of (judge Two bytes))) (part.More m) second (λ other. cc) in
          judge_more Two bytes m (framed_more (judge Two bytes) m third.1)
    ]

piece_asks : (s : Stage) (bytes : List ℕ) (m : ℕ) → IsBytes bytes → piece_of s bytes ≡ part.More m → length bytes < m
piece_asks (Head frames) bytes m fits e = head_asks frames bytes m e
piece_asks (State frames) bytes m fits e = state_more bytes m fits (stated_more frames (judge_state bytes) m e)
piece_asks Frames bytes m fits e = frame_asks bytes m e

pieces_ask : (n : ℕ) (s : Stage) (at : ℕ) (bytes : List ℕ) (k : ℕ) → IsBytes bytes → length bytes < n → pieces n s at bytes ≡ whole.More k
    → at + length bytes < k
unfolding pieces
pieces_ask zero s at bytes k fits few e = absurd (omega (arith, few))
pieces_ask (suc n) s at bytes k fits few e = go (λ next place later. pieces_ask n next place later k) (piece_of s bytes) refl e
  where
    go : ((next : Stage) (place : ℕ) (later : List ℕ) → IsBytes later → length later < n → pieces n next place later ≡ whole.More k
        → place + length later < k)
        → (p : Piece) → piece_of s bytes ≡ p → after_piece (λ next u. pieces n next (at + u) (drop u bytes)) at p ≡ whole.More k
        → at + length bytes < k
    go again (part.Got next u) is says =
        let there = is_there s bytes next u fits is in
        let some = there.some in
        let inside = there.within in
        let size = length-drop u bytes in
        let on = again next (at + u) (drop u bytes) (IsBytes-drop u bytes fits) (omega (arith, few, some, inside, size)) says in
        omega (arith, on, inside, size)
    go again (part.Whole u) is says = absurd cc
    go again (part.More m) is says =
        let total : at + m ≡ k = cc in
        let more = piece_asks s bytes m fits is in
        omega (arith, total, more)
    go again (part.Bad offset cause) is says = absurd cc

-- a message that isn't whole asks for more bytes than there are
pub asks_more : (which : Which) (bytes : List ℕ) (k : ℕ) → IsBytes bytes → measure_of which bytes ≡ whole.More k → length bytes < k
asks_more which bytes k fits e =
    let more = pieces_ask (suc (length bytes)) (start which) 0 bytes k fits (omega arith) e in omega (arith, more)
