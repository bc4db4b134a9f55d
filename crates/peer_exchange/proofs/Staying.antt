-- A part that is there stays, whatever follows it, and has a byte.
use Rattle.std.proofs.Common.{◌≡◌, ℕ, ◌+◌, ◌≤◌, ltb, eqb, Bool, true, false, cond, List, ◌++◌, length, drop, Result, Ok, Err, refl, sym}
use Rattle.std.proofs.Common.{ap, ◌∙◌, append_assoc, arith}
use Rattle.std.specs.List.{starts_with}
use Rattle.std.proofs.lemmas.Bool.{ltb-false, le-ltb}
use Rattle.std.proofs.lemmas.List.{length-append, take-append-le}
use Rattle.context_vector.specs.Contexts.{ContextData}
use Rattle.context_diff.specs.Operations.{OpData}
use Rattle.wire_codec.specs.declared.version.Version.TheVariants.{Two}
use Rattle.wire_codec.specs.declared.fault.Refused.{Refused}
use Rattle.wire_codec.specs.declared.fault.Refused.TheVariants.{More, Bad}
use Rattle.wire_codec.specs.Spelling.{frame}
use Rattle.wire_codec.specs.Judging.{judge, length_of}
use Rattle.wire_codec.specs.Answers.{scan_of}
use Rattle.wire_codec.specs.declared.fault.Unread.{Unread}
use Rattle.wire_codec.specs.declared.fault.Unread.TheVariants as unread
use Rattle.wire_codec.specs.States.{judge_state, state_bytes, state_scan_of}
use Rattle.wire_codec.proofs.CallerLemmas.{IsBytes, judge_takes, judge_again, state_bound, state_some, state_stays, state_takes}
use Rattle.wire_codec.proofs.CallerLemmas.{state_within}
use Rattle.peer_exchange.specs.declared.stages.Stage.{Stage}
use Rattle.peer_exchange.specs.declared.stages.Stage.TheVariants.{Head, State, Frames}
use Rattle.peer_exchange.specs.declared.stages.Piece.{Piece}
use Rattle.peer_exchange.specs.declared.stages.Piece.TheVariants as part
use Rattle.peer_exchange.specs.Code.Places.{Fits}
use Rattle.peer_exchange.specs.Measuring.{head, head_piece, stated, state_piece, framed, frame_piece, piece_of}

pub record IsThere (s : Stage) (bytes : List ℕ) (next : Stage) (used : ℕ) : Type 0 where
  pub some : 1 ≤ used
  pub within : used ≤ length bytes
  pub stays : (tail : List ℕ) → piece_of s (bytes ++ tail) ≡ part.Got next used

-- the first test of a part
pub first_no : (b : Bool) (x y z : Piece) → cond b x y ≡ z → (x ≡ z → ⊥) → (b ≡ false) × (y ≡ z)
first_no true x y z e other = absurd (other e)
first_no false x y z e other = (refl, e)

pub first_yes : (b : Bool) (x y z : Piece) → cond b x y ≡ z → (y ≡ z → ⊥) → (b ≡ true) × (x ≡ z)
first_yes true x y z e other = (refl, e)
first_yes false x y z e other = absurd (other e)

pub by_false : (b : Bool) (x y : Piece) → b ≡ false → cond b x y ≡ y
by_false b x y e = ap (λ (c : Bool). cond c x y) e

pub by_true : (b : Bool) (x y : Piece) → b ≡ true → cond b x y ≡ x
by_true b x y e = ap (λ (c : Bool). cond c x y) e

head_there : (frames : Bool) (bytes : List ℕ) (next : Stage) (used : ℕ) → head_piece frames bytes ≡ part.Got next used
    → IsThere (Head frames) bytes next used
head_there frames bytes next used e =
    let is_head = starts_with (λ (x : ℕ) (y : ℕ). eqb x y) bytes head in
    let long =
    first_no (ltb (length bytes) 8) (part.More 8) (cond is_head (part.Got (State frames) 8) (part.Bad 0 _)) (part.Got next used) e
    (λ other. cc) in
    let same = first_yes is_head (part.Got (State frames) 8) (part.Bad 0 _) (part.Got next used) long.1 (λ other. cc) in
    let size : 8 ≡ used = let got = same.1 in cc in
    let enough = ltb-false _ _ long.0 in
    record {
      some = omega arith;
      within = omega arith;
      stays = λ tail.
          by_false (ltb (length (bytes ++ tail)) 8) _ _ (le-ltb _ _ (omega (arith, length-append bytes tail)))
          ∙ (by_true (starts_with (λ (x : ℕ) (y : ℕ). eqb x y) (bytes ++ tail) head) _ _ (head_front bytes tail enough ∙ same.0)
          ∙ same.1);
    }
  where
    head_front : (bytes tail : List ℕ) → 8 ≤ length bytes
        → starts_with (λ (x : ℕ) (y : ℕ). eqb x y) (bytes ++ tail) head ≡ starts_with (λ (x : ℕ) (y : ℕ). eqb x y) bytes head
    head_front bytes tail enough = rw (take-append-le 8 bytes tail enough) refl

-- ---- states

-- a state that frames follow
stated_got : (frames : Bool) (j : Result (ContextData × ℕ) Unread) (next : Stage) (used : ℕ)
    → stated frames (state_scan_of j) ≡ part.Got next used
    → (c : ContextData) × (j ≡ Ok (c, used)) × (part.Got next used ≡ stated frames (state_scan_of (Ok (c, used))))
stated_got true (Ok x) next used e =
    let size : x.1 ≡ used = cc in
    let is : next ≡ Frames = cc in
    (x.0, (λ i. Ok (x.0, size i)), λ i. part.Got (is i) used)
stated_got false (Ok x) next used e = absurd cc
stated_got frames (Err (unread.More n)) next used e = absurd cc
stated_got frames (Err (unread.Bad f)) next used e = absurd cc

state_there : (frames : Bool) (bytes : List ℕ) (next : Stage) (used : ℕ) → IsBytes bytes → state_piece frames bytes ≡ part.Got next used
    → IsThere (State frames) bytes next used
state_there frames bytes next used fits e =
    let got = stated_got frames (judge_state bytes) next used e in
    let is = state_takes bytes got.0 used fits got.1 in
    let size = is.size in
    let some = state_some got.0 in
    let total : length bytes ≡ length (state_bytes got.0) + length (drop used bytes) =
    ap length is.parts ∙ length-append (state_bytes got.0) (drop used bytes) in
    record {
      some = omega (arith, size, some);
      within = omega (arith, size, total);
      stays =
          λ tail. ap (λ (j : Result (ContextData × ℕ) Unread). stated frames (state_scan_of j))
          (state_stays bytes tail (Ok (got.0, used)) (λ n no. cc) got.1) ∙ sym got.2;
    }

-- a state lies within its bytes, or asks for no more than the largest has
pub state_fits : (frames : Bool) (bytes : List ℕ) → IsBytes bytes → Fits (length bytes) (state_piece frames bytes)
state_fits frames bytes fits = go frames (judge_state bytes) refl
  where
    within : (c : ContextData) (used : ℕ) → judge_state bytes ≡ Ok (c, used) → used ≤ length bytes
    within c used e =
        let is = state_takes bytes c used fits e in
        let size = is.size in
        let total : length bytes ≡ length (state_bytes c) + length (drop used bytes) =
        ap length is.parts ∙ length-append (state_bytes c) (drop used bytes) in
        omega (arith, size, total)

    go : (b : Bool) (j : Result (ContextData × ℕ) Unread) → judge_state bytes ≡ j → Fits (length bytes) (stated b (state_scan_of j))
    go true (Ok x) e = within x.0 x.1 e
    go false (Ok x) e = within x.0 x.1 e
    go b (Err (unread.More n)) e = state_bound bytes n fits e
    go b (Err (unread.Bad f)) e = state_within bytes f fits e

-- ---- frames

pub framed_got : (j : Result (OpData × ℕ) Refused) (next : Stage) (used : ℕ) → framed (scan_of j) ≡ part.Got next used
    → (o : OpData) × (j ≡ Ok (o, used)) × (next ≡ Frames)
framed_got (Ok x) next used e =
    let size : x.1 ≡ used = cc in
    let is : next ≡ Frames = cc in
    (x.0, (λ i. Ok (x.0, size i)), is)
framed_got (Err (More n)) next used e = absurd cc
framed_got (Err (Bad f)) next used e = absurd cc

pub judge_stays : (bytes : List ℕ) (o : OpData) (used : ℕ) → IsBytes bytes → judge Two bytes ≡ Ok (o, used) → (tail : List ℕ)
    → judge Two (bytes ++ tail) ≡ Ok (o, used)
judge_stays bytes o used fits e tail =
    let is = judge_takes Two bytes o used fits e in
    ap (λ (t : List ℕ). judge Two (t ++ tail)) is.parts
    ∙ (ap (judge Two) (append_assoc (frame Two o) (drop used bytes) tail)
    ∙ (judge_again Two o (drop used bytes ++ tail) is.well is.fits ∙ ap (λ (n : ℕ). Ok (o, n)) (sym is.size)))

frame_there : (bytes : List ℕ) (next : Stage) (used : ℕ) → IsBytes bytes → frame_piece bytes ≡ part.Got next used
    → IsThere Frames bytes next used
frame_there bytes next used fits e =
    let ended = eqb (length_of bytes) 0 in
    let long =
    first_no (ltb (length bytes) 4) (part.More 4) (cond ended (part.Whole 4) (framed (scan_of (judge Two bytes)))) (part.Got next used) e
    (λ other. cc) in
    let more = first_no ended (part.Whole 4) (framed (scan_of (judge Two bytes))) (part.Got next used) long.1 (λ other. cc) in
    let enough = ltb-false _ _ long.0 in
    let got = framed_got (judge Two bytes) next used more.1 in
    let is = judge_takes Two bytes got.0 used fits got.1 in
    let size = is.size in
    let total : length bytes ≡ length (frame Two got.0) + length (drop used bytes) =
    ap length is.parts ∙ length-append (frame Two got.0) (drop used bytes) in
    record {
      some = omega (arith, size);
      within = omega (arith, size, total);
      stays = λ tail.
          by_false (ltb (length (bytes ++ tail)) 4) _ _ (le-ltb _ _ (omega (arith, length-append bytes tail)))
          ∙ (by_false (eqb (length_of (bytes ++ tail)) 0) _ _ (same_length bytes tail enough ∙ more.0)
          ∙ (ap (λ (j : Result (OpData × ℕ) Refused). framed (scan_of j)) (judge_stays bytes got.0 used fits got.1 tail ∙ sym got.1)
          ∙ more.1));
    }
  where
    same_length : (bytes tail : List ℕ) → 4 ≤ length bytes → eqb (length_of (bytes ++ tail)) 0 ≡ eqb (length_of bytes) 0
    same_length bytes tail enough = rw (take-append-le 4 bytes tail enough) refl

pub is_there : (s : Stage) (bytes : List ℕ) (next : Stage) (used : ℕ) → IsBytes bytes → piece_of s bytes ≡ part.Got next used
    → IsThere s bytes next used
is_there (Head frames) bytes next used fits e = head_there frames bytes next used e
is_there (State frames) bytes next used fits e = state_there frames bytes next used fits e
is_there Frames bytes next used fits e = frame_there bytes next used fits e
