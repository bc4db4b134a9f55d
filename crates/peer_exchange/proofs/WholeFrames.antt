-- A whole third message is the frames of some well-formed operations, and an end mark.
use Rattle.std.proofs.Common.{◌≡◌, ℕ, zero, suc, ◌+◌, ltb, eqb, cond, List, [], ◌∷◌, ◌++◌, length, take, drop, Result, Ok, Err, refl}
use Rattle.std.proofs.Common.{ap, sym, subst, ◌∙◌, append_assoc, append-nil, arith, inl, inr}
use Rattle.std.specs.List.{flat_map}
use Rattle.std.specs.Int.{w32, to_be_bytes}
use Rattle.std.proofs.lemmas.Bool.{ltb-false, eqb-true}
use Rattle.std.proofs.lemmas.List.{length-append, length-take, take-append-drop, nil_from_length}
use Rattle.std.proofs.lemmas.List.Concat.{flat_map-cons}
use Rattle.std.proofs.lemmas.Nat.{be_bytes_4}
use Rattle.context_diff.specs.Operations.{OpData, IsWellFormed}
use Rattle.context_diff.proofs.CallerLemmas.{contains_cases, contains_none}
use Rattle.cot_site.specs.Sites.{AllFormed}
use Rattle.wire_codec.specs.declared.version.Version.TheVariants.{Two}
use Rattle.wire_codec.specs.declared.fault.Refused.{Refused}
use Rattle.wire_codec.specs.declared.fault.Refused.TheVariants.{More, Bad}
use Rattle.wire_codec.specs.Spelling.{frame}
use Rattle.wire_codec.specs.Judging.{judge, length_of}
use Rattle.wire_codec.specs.Answers.{scan_of}
use Rattle.wire_codec.proofs.CallerLemmas.{IsBytes, IsBytes-drop, IsBytes-take, judge_takes}
use Rattle.peer_exchange.specs.declared.stages.Stage.{Stage}
use Rattle.peer_exchange.specs.declared.stages.Stage.TheVariants.{Frames}
use Rattle.peer_exchange.specs.declared.stages.Piece.{Piece}
use Rattle.peer_exchange.specs.declared.stages.Piece.TheVariants as part
use Rattle.peer_exchange.specs.declared.messages.Measure.{Measure}
use Rattle.peer_exchange.specs.declared.messages.Measure.TheVariants as message
use Rattle.peer_exchange.specs.declared.messages.Which.TheVariants.{Third}
use Rattle.peer_exchange.specs.Measuring.{framed, frame_piece, after_piece, pieces}
use Rattle.peer_exchange.specs.Messages.{end_mark, IsThird}
use Rattle.peer_exchange.specs.Refusals.{IsWhole}
use Rattle.peer_exchange.proofs.Staying.{first_no, first_yes, framed_got}

-- the frames and the end mark, of so many bytes
record WithRest (bytes : List ℕ) (size : ℕ) : Type 0 where
  os : List OpData
  rest : List ℕ
  formed : AllFormed os
  parts : bytes ≡ flat_map (frame Two) os ++ (end_mark ++ rest)
  long : size ≡ length (flat_map (frame Two) os) + 4

framed_not_whole : (j : Result (OpData × ℕ) Refused) (u : ℕ) → framed (scan_of j) ≡ part.Whole u → ⊥
framed_not_whole (Ok x) u e = cc
framed_not_whole (Err (More n)) u e = cc
framed_not_whole (Err (Bad f)) u e = cc

-- the frame that comes first, and those after it
with_first : (bytes : List ℕ) (next : Stage) (u size : ℕ) → IsBytes bytes → frame_piece bytes ≡ part.Got next u
    → (next ≡ Frames → WithRest (drop u bytes) size) → WithRest bytes (u + size)
with_first bytes next u size fits e later =
    let long =
    first_no (ltb (length bytes) 4) (part.More 4) (cond (eqb (length_of bytes) 0) (part.Whole 4) (framed (scan_of (judge Two bytes))))
    (part.Got next u) e (λ other. cc) in
    let more =
    first_no (eqb (length_of bytes) 0) (part.Whole 4) (framed (scan_of (judge Two bytes))) (part.Got next u) long.1 (λ other. cc) in
    let got = framed_got (judge Two bytes) next u more.1 in
    let o = got.0 in
    let is = judge_takes Two bytes o u fits got.1 in
    let w = later got.2 in
    let size_is = is.size in
    let rest_long = w.long in
    let regrouped : flat_map (frame Two) (o ∷ w.os) ++ (end_mark ++ w.rest) ≡ frame Two o
    ++ (flat_map (frame Two) w.os ++ (end_mark ++ w.rest)) =
    ap (λ (xs : List ℕ). xs ++ (end_mark ++ w.rest)) (flat_map-cons (frame Two) o w.os)
    ∙ append_assoc (frame Two o) (flat_map (frame Two) w.os) (end_mark ++ w.rest) in
    record {
      os = o ∷ w.os;
      rest = w.rest;
      formed = λ q at. elim (contains_cases o w.os q at) [
        | inl here ↦ subst IsWellFormed here is.well
        | inr behind ↦ w.formed q behind
      ];
      parts = is.parts ∙ (ap (λ (xs : List ℕ). frame Two o ++ xs) w.parts ∙ sym regrouped);
      long = omega (
        arith,
        size_is,
        rest_long,
        ap length (flat_map-cons (frame Two) o w.os),
        length-append (frame Two o) (flat_map (frame Two) w.os),
      );
    }

at_end : (bytes : List ℕ) (u : ℕ) → IsBytes bytes → frame_piece bytes ≡ part.Whole u → WithRest bytes u
at_end bytes u fits e =
    let long =
    first_no (ltb (length bytes) 4) (part.More 4) (cond (eqb (length_of bytes) 0) (part.Whole 4) (framed (scan_of (judge Two bytes))))
    (part.Whole u) e (λ other. cc) in
    let ended =
    first_yes (eqb (length_of bytes) 0) (part.Whole 4) (framed (scan_of (judge Two bytes))) (part.Whole u) long.1
    (framed_not_whole (judge Two bytes) u) in
    let size : 4 ≡ u = let is = ended.1 in cc in
    let enough = ltb-false _ _ long.0 in
    let front_len : length (take 4 bytes) ≡ 4 = omega (arith, enough, length-take 4 bytes) in
    let front : to_be_bytes w32 (length_of bytes) ≡ take 4 bytes =
    be_bytes_4 (take 4 bytes) (length_of bytes) front_len (IsBytes-take 4 bytes fits) refl in
    let mark : end_mark ≡ take 4 bytes = ap (to_be_bytes w32) (sym (eqb-true _ _ ended.0)) ∙ front in
    record {
      os = [];
      rest = drop 4 bytes;
      formed = λ q at. absurd (contains_none q at);
      parts = sym (take-append-drop 4 bytes) ∙ ap (λ (xs : List ℕ). xs ++ drop 4 bytes) (sym mark);
      long = omega (arith, size);
    }

whole_from : (n at used : ℕ) (bytes : List ℕ) → IsBytes bytes → pieces n Frames at bytes ≡ message.Whole used
    → (size : ℕ) × (used ≡ at + size) × WithRest bytes size
unfolding pieces
whole_from zero at used bytes fits e = absurd (let never = e in cc)
whole_from (suc n) at used bytes fits e =
    go (λ later place is_bytes says. whole_from n place used later is_bytes says) (frame_piece bytes) refl e
  where
    after : Piece → Measure
    after p = after_piece (λ next u. pieces n next (at + u) (drop u bytes)) at p

    go : ((later : List ℕ) (place : ℕ) → IsBytes later → pieces n Frames place later ≡ message.Whole used
        → (size : ℕ) × (used ≡ place + size) × WithRest later size)
        → (p : Piece) → frame_piece bytes ≡ p → after p ≡ message.Whole used → (size : ℕ) × (used ≡ at + size) × WithRest bytes size
    go again (part.Got next u) is says =
        let long =
        first_no (ltb (length bytes) 4) (part.More 4) (cond (eqb (length_of bytes) 0) (part.Whole 4) (framed (scan_of (judge Two bytes))))
        (part.Got next u) is (λ other. cc) in
        let more =
        first_no (eqb (length_of bytes) 0) (part.Whole 4) (framed (scan_of (judge Two bytes))) (part.Got next u) long.1 (λ other. cc) in
        let frames : next ≡ Frames = (framed_got (judge Two bytes) next u more.1).2 in
        let later =
        again (drop u bytes) (at + u) (IsBytes-drop u bytes fits) (ap (λ (s : Stage). pieces n s (at + u) (drop u bytes)) (sym frames)
        ∙ says) in
        let total = later.1 in
        (u + later.0, omega (arith, total), with_first bytes next u later.0 fits is (λ same. later.2))
    go again (part.Whole u) is says = let same : at + u ≡ used = cc in (u, sym same, at_end bytes u fits is)
    go again (part.More m) is says = absurd (let never = says in cc)
    go again (part.Bad offset cause) is says = absurd (let never = says in cc)

-- frames from an offset on that end where the bytes do
pub frames_end : (n at : ℕ) (bytes : List ℕ) → IsBytes bytes → pieces n Frames at bytes ≡ message.Whole (at + length bytes)
    → (os : List OpData) × IsThird bytes os
frames_end n at bytes fits whole =
    let w = whole_from n at (at + length bytes) bytes fits whole in
    let r = w.2 in
    let size = w.1 in
    let long = r.long in
    let total : length bytes ≡ length (flat_map (frame Two) r.os) + (4 + length r.rest) =
    ap length r.parts ∙ (length-append (flat_map (frame Two) r.os) (end_mark ++ r.rest) ∙ omega (arith, length-append end_mark r.rest)) in
    let none : r.rest ≡ [] = nil_from_length r.rest (omega (arith, size, long, total)) in (
      r.os,
      record {
        formed = r.formed;
        parts = r.parts ∙ ap (λ (xs : List ℕ). flat_map (frame Two) r.os ++ (end_mark ++ xs)) none
            ∙ ap (λ (xs : List ℕ). flat_map (frame Two) r.os ++ xs) (append-nil end_mark);
      },
    )

-- the bytes of a whole third message, all of them
pub whole_third : (bytes : List ℕ) → IsBytes bytes → IsWhole Third bytes → (os : List OpData) × IsThird bytes os
whole_third bytes fits whole = frames_end (suc (length bytes)) 0 bytes fits (whole ∙ ap (λ (k : ℕ). message.Whole k) (omega arith))
