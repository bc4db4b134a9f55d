-- The judgement is the frames: what is judged good begins with a frame of a well-formed operation, and each such frame
-- is judged so.
use Rattle.std.proofs.Common.{◌≡◌, ℕ, ◌+◌, ◌-◌, ◌*◌, ◌<◌, ◌≤◌, ltb, eqb, false, cond, List, [], ◌++◌, length, take, drop, Result, Ok, Err, refl, sym, ap, subst, ◌∙◌, append_assoc, arith, inl, inr}
use Rattle.std.specs.List.{flat_map}
use Rattle.std.specs.Int.{w32, to_be_bytes}
use Rattle.std.proofs.lemmas.Bool.{ltb-true, ltb-false, le-ltb, eqb-true, cond-false}
use Rattle.std.proofs.lemmas.List.{append-nil, nil_from_length, length-append, length-take, length-drop, take-append-drop, take_at, drop_at, append_cancel_left}
use Rattle.std.proofs.lemmas.Nat.{be_bytes_4, from_be_bytes-to_be_bytes_4}
use Rattle.context_diff.specs.Operations.{OpData, context_of, IsWellFormed}
use Rattle.wire_codec.specs.declared.version.Version.{Version}
use Rattle.wire_codec.specs.Versions.{longest, own_at, Fits}
use Rattle.wire_codec.specs.Runs.{names_in, listing_of}
use Rattle.wire_codec.specs.declared.cause.Cause.TheVariants.{TooLong, Length, Own, Target}
use Rattle.wire_codec.specs.declared.fault.Fault.{Fault}
use Rattle.wire_codec.specs.declared.fault.Refused.{Refused}
use Rattle.wire_codec.specs.declared.fault.Refused.TheVariants.{More, Bad}
use Rattle.wire_codec.specs.Spelling.{body_bytes, frame}
use Rattle.wire_codec.specs.Reading.{LeftData, left_at, fault, op_at}
use Rattle.wire_codec.specs.Judging.{is_own, has_target, run_len, stray_from, runs_in, runs_begin, body_at, length_of, judged, judge, IsFrame}
use Rattle.wire_codec.proofs.Steps.{IsBytes, IsBytes-take, IsBytes-drop, bind_ok, bind_err, want_ok, want_err, cond_ok, cond_err}
use Rattle.wire_codec.proofs.TwoWays.{Takes-ends}
use Rattle.wire_codec.proofs.Contexts.{context_in_range, op_reads}
use Rattle.wire_codec.proofs.RunNames.{names_of_runs}
use Rattle.wire_codec.proofs.Strays.{stray_ok, stray_again, stray_faults}
use Rattle.wire_codec.proofs.Sites.{fits_from, fits_to, site_len_most}
use Rattle.wire_codec.proofs.WellFormed.{own_from, own_to, target_from, target_to, AreOriginals, stray_keeps, has_no_stray}
use Rattle.wire_codec.proofs.Sizes.{body_short, body_long, longest_fits}

-- ---- bodies

pub body_takes : (v : Version) (l : LeftData) (o : OpData) → IsBytes l.bytes → body_at v l ≡ Ok o
    → (l.bytes ≡ body_bytes v o) × IsWellFormed o × Fits v o
unfolding body_at
body_takes v l o fits e =
    let k = listing_of v in
    let b = bind_ok (op_at v l) _ o e in
    let x = b.0.0 in
    let m = b.0.1 in
    let begin = runs_begin v x m.at in
    let ended = want_ok (eqb (length m.bytes) 0) Length m.at _ o b.2 in
    let own = want_ok (is_own x) Own (own_at v) _ o ended.1 in
    let target = want_ok (has_target x) Target (own_at v) _ o own.1 in
    let stray = bind_ok (stray_from k (context_of x) begin (runs_in v x)) (λ _. Ok x) o target.1 in
    let same : x ≡ o = let k = stray.2 in cc in
    let took = (op_reads v).takes l m x fits b.1 in
    let none : m.bytes ≡ [] = nil_from_length m.bytes (eqb-true _ _ ended.0) in
    let whole : l.bytes ≡ body_bytes v x = took.0.parts ∙ ap (λ (t : List ℕ). body_bytes v x ++ t) none ∙ append-nil (body_bytes v x) in
    let originals : AreOriginals (context_of x) (context_of x).entries =
    subst (AreOriginals (context_of x)) (names_of_runs k (context_of x).entries)
    (stray_ok k (context_of x) begin (runs_in v x) stray.1) in
    let well : IsWellFormed x = record {
      in_range = took.1.0;
      own = own_from x own.0;
      target = target_from x target.0;
      stray = stray_keeps (context_of x) originals;
    } in
    subst (λ (y : OpData). (l.bytes ≡ body_bytes v y) × IsWellFormed y × Fits v y) same (whole, well, fits_from v x took.1.1)

pub body_again : (v : Version) (o : OpData) (at : ℕ) → IsWellFormed o → Fits v o → body_at v (left_at at (body_bytes v o)) ≡ Ok o
unfolding body_at
body_again v o at well fits =
    let k = listing_of v in
    let body = body_bytes v o in
    let read : op_at v (left_at at body) ≡ Ok (o, left_at (at + length body) []) =
    ap (λ (t : List ℕ). op_at v (left_at at t)) (sym (append-nil body)) ∙ (op_reads v).again o at [] (well.in_range, fits_to v o fits) in
    let entries = (context_in_range o well.in_range).0.entries in
    let originals : AreOriginals (context_of o) (flat_map names_in (runs_in v o)) =
    subst (AreOriginals (context_of o)) (sym (names_of_runs k (context_of o).entries))
    (has_no_stray (context_of o) entries well.stray) in
    rw (
      read,
      own_to o well.own,
      target_to o well.target,
      stray_again k (context_of o) (runs_begin v o (at + length body)) (runs_in v o) originals,
    ) refl

-- the greatest offset of a fault of a run, counted from the end
begins : (at stop runs : ℕ) → runs ≤ stop → at ≤ (stop - runs) + runs → at ≤ stop
begins at stop runs within h = omega (arith, within, h)

body_faults : (v : Version) (l : LeftData) (f : Fault) → IsBytes l.bytes → l.at ≡ 4 → body_at v l ≡ Err f → f.offset ≤ 4 + length l.bytes
unfolding body_at
body_faults v l f fits start e =
    elim (bind_err (op_at v l) _ f e) [
      | inl here ↦ omega (arith, start, (op_reads v).faults l f fits here)
      | inr b ↦
          let k = listing_of v in
          let x = b.0.0 in
          let m = b.0.1 in
          let runs = run_len k * length (runs_in v x) in
          let took = ((op_reads v).takes l m x fits b.1).0 in
          let ends = Takes-ends l m (body_bytes v x) took in
          let long = body_long v x in
          let site = site_len_most v in
          elim (want_err (eqb (length m.bytes) 0) Length m.at _ f b.2) [
            | inl here ↦ omega (arith, start, here, ends)
            | inr after_length ↦ elim (want_err (is_own x) Own (own_at v) _ f after_length) [
              | inl here ↦ omega (arith, start, here, ends, took.place, long, site)
              | inr after_own ↦ elim (want_err (has_target x) Target (own_at v) _ f after_own) [
                | inl here ↦ omega (arith, start, here, ends, took.place, long, site)
                | inr after_target ↦ elim (bind_err (stray_from k (context_of x) (runs_begin v x m.at) (runs_in v x)) (λ _. Ok x) f
                    after_target) [
                      | inl here ↦
                          let bound = stray_faults k (context_of x) (runs_begin v x m.at) (runs_in v x) f here in
                          let inside = begins f.offset m.at runs (omega (arith, start, took.place, long)) bound in
                          omega (arith, start, inside, ends, took.place)
                      | inr on ↦ absurd (let no = on.2 in cc)
                    ]
              ]
            ]
          ]
    ]

-- ---- whole inputs

judged_ok : (used n : ℕ) (r : Result OpData Fault) (o : OpData) → judged used r ≡ Ok (o, n) → (r ≡ Ok o) × (used ≡ n)
judged_ok used n (Ok x) o e =
    let is : ◌≡◌ {A = OpData × ℕ} (x, used) (o, n) = cc in
    (ap (λ (y : OpData × ℕ). Ok y.0) is, ap (λ (y : OpData × ℕ). y.1) is)
judged_ok used n (Err f) o e = absurd (let no = e in cc)

judged_err : (used : ℕ) (r : Result OpData Fault) (q : Refused) → judged used r ≡ Err q → (f : Fault) × (r ≡ Err f) × (Bad f ≡ q)
judged_err used (Ok x) q e = absurd (let no = e in cc)
judged_err used (Err f) q e = let same : Bad f ≡ q = cc in (f, refl, same)

abbrev whole_body : Version → List ℕ → Result OpData Fault
whole_body v bytes = body_at v (left_at 4 (take (length_of bytes) (drop 4 bytes)))

-- the answers of the rules, one after the other
after_longest : Version → List ℕ → Result (OpData × ℕ) Refused
after_longest v bytes =
    cond (ltb (length bytes) (4 + length_of bytes)) (Err (More (4 + length_of bytes))) (judged (4 + length_of bytes) (whole_body v bytes))

pub judge_takes : (v : Version) (bytes : List ℕ) (o : OpData) (used : ℕ) → IsBytes bytes → judge v bytes ≡ Ok (o, used)
    → IsFrame v bytes o used
unfolding judge after_longest
judge_takes v bytes o used fits e =
    let size = length_of bytes in
    let four =
    cond_ok (ltb (length bytes) 4) (More 4) (cond (ltb (longest v) size) (Err (Bad (fault TooLong 0))) (after_longest v bytes)) (o, used)
    e in
    let short = cond_ok (ltb (longest v) size) (Bad (fault TooLong 0)) (after_longest v bytes) (o, used) four.1 in
    let there = cond_ok (ltb (length bytes) (4 + size)) (More (4 + size)) (judged (4 + size) (whole_body v bytes)) (o, used) short.1 in
    let good = judged_ok (4 + size) used (whole_body v bytes) o there.1 in
    let long = ltb-false _ _ four.0 in
    let enough = ltb-false _ _ there.0 in
    let text = take size (drop 4 bytes) in
    let body = body_takes v (left_at 4 text) o (IsBytes-take size (drop 4 bytes) (IsBytes-drop 4 bytes fits)) good.0 in
    let text_len : length text ≡ size = omega (arith, enough, length-take size (drop 4 bytes), length-drop 4 bytes) in
    let body_len : length (body_bytes v o) ≡ size = ap length (sym body.0) ∙ text_len in
    let front_len : length (take 4 bytes) ≡ 4 = omega (arith, long, length-take 4 bytes) in
    let front : to_be_bytes w32 size ≡ take 4 bytes = be_bytes_4 (take 4 bytes) size front_len (IsBytes-take 4 bytes fits) refl in
    let spelled : frame v o ≡ take 4 bytes ++ text =
    ap (λ (n : ℕ). to_be_bytes w32 n ++ body_bytes v o) body_len ∙ ap (λ (t : List ℕ). t ++ body_bytes v o) front
    ∙ ap (λ (t : List ℕ). take 4 bytes ++ t) (sym body.0) in
    let frame_len : length (frame v o) ≡ 4 + size = omega (arith, body_len) in
    let parts : bytes ≡ frame v o ++ drop size (drop 4 bytes) =
    sym (take-append-drop 4 bytes)
    ∙ ap (λ (t : List ℕ). take 4 bytes ++ t) (sym (take-append-drop size (drop 4 bytes)))
    ∙ sym (append_assoc (take 4 bytes) text (drop size (drop 4 bytes)))
    ∙ ap (λ (t : List ℕ). t ++ drop size (drop 4 bytes)) (sym spelled) in
    let used_len : length (frame v o) ≡ used = frame_len ∙ good.1 in
    let rest : drop used bytes ≡ drop size (drop 4 bytes) =
    ap (drop used) parts ∙ drop_at (frame v o) (drop size (drop 4 bytes)) used used_len in
    record { well = body.1; fits = body.2; size = sym used_len; parts = parts ∙ ap (λ (t : List ℕ). frame v o ++ t) (sym rest) }

pub judge_again : (v : Version) (o : OpData) (rest : List ℕ) → IsWellFormed o → Fits v o
    → judge v (frame v o ++ rest) ≡ Ok (o, length (frame v o))
unfolding judge
judge_again v o rest well fits =
    let body = body_bytes v o in
    let n = length body in
    let bytes = frame v o ++ rest in
    let short = body_short v o well.in_range fits in
    let size : length_of bytes ≡ n = from_be_bytes-to_be_bytes_4 n (let fit = longest_fits v in omega (arith, short, fit)) in
    let total : length bytes ≡ 4 + (n + length rest) = omega (arith, length-append body rest) in
    let frame_len : 4 + n ≡ length (frame v o) = omega arith in
    let four : ltb (length bytes) 4 ≡ false = le-ltb _ _ (omega (arith, total)) in
    let not_long : ltb (longest v) (length_of bytes) ≡ false = le-ltb _ _ (omega (arith, size, short)) in
    let there : ltb (length bytes) (4 + length_of bytes) ≡ false = le-ltb _ _ (omega (arith, size, total)) in
    let text : take (length_of bytes) (drop 4 bytes) ≡ body = ap (λ (k : ℕ). take k (body ++ rest)) size ∙ take_at body rest n refl in
    let read : whole_body v bytes ≡ Ok o = ap (λ (t : List ℕ). body_at v (left_at 4 t)) text ∙ body_again v o 4 well fits in
    let good : judged (4 + length_of bytes) (whole_body v bytes) ≡ Ok (o, length (frame v o)) =
    ap (judged (4 + length_of bytes)) read ∙ ap (λ (k : ℕ). Ok (o, 4 + k)) size ∙ ap (λ (k : ℕ). Ok (o, k)) frame_len in
    cond-false _ _ _ four ∙ (cond-false _ _ _ not_long ∙ (cond-false _ _ _ there ∙ good))

-- a fault is in the bytes or at their end
pub judge_within : (v : Version) (bytes : List ℕ) (f : Fault) → IsBytes bytes → judge v bytes ≡ Err (Bad f) → f.offset ≤ length bytes
unfolding judge after_longest
judge_within v bytes f fits e =
    let size = length_of bytes in
    elim (cond_err (ltb (length bytes) 4) (More 4) (Bad f)
    (cond (ltb (longest v) size) (Err (Bad (fault TooLong 0))) (after_longest v bytes)) e) [
      | inl never ↦ absurd (let is = never.1 in cc)
      | inr four ↦ elim (cond_err (ltb (longest v) size) (Bad (fault TooLong 0)) (Bad f) (after_longest v bytes) four.1) [
        | inl here ↦ let same : fault TooLong 0 ≡ f = (let is = here.1 in cc) in omega (arith, ap (λ (x : Fault). x.offset) same)
        | inr short ↦ elim (cond_err (ltb (length bytes) (4 + size)) (More (4 + size)) (Bad f) (judged (4 + size) (whole_body v bytes))
            short.1) [
              | inl never ↦ absurd (let is = never.1 in cc)
              | inr there ↦
                  let bad = judged_err (4 + size) (whole_body v bytes) (Bad f) there.1 in
                  let same : bad.0 ≡ f = (let is = bad.2 in cc) in
                  let inside =
                  body_faults v (left_at 4 (take size (drop 4 bytes))) bad.0 (IsBytes-take size (drop 4 bytes) (IsBytes-drop 4 bytes fits))
                  refl bad.1 in
                  let enough = ltb-false _ _ there.0 in
                  omega (arith, inside, enough, ap (λ (x : Fault). x.offset) same, length-take size (drop 4 bytes), length-drop 4 bytes)
            ]
      ]
    ]

-- more bytes than are there
pub judge_more : (v : Version) (bytes : List ℕ) (n : ℕ) → judge v bytes ≡ Err (More n) → length bytes < n
unfolding judge after_longest
judge_more v bytes n e =
    let size = length_of bytes in
    elim (cond_err (ltb (length bytes) 4) (More 4) (More n)
    (cond (ltb (longest v) size) (Err (Bad (fault TooLong 0))) (after_longest v bytes)) e) [
      | inl here ↦ let same : 4 ≡ n = (let is = here.1 in cc) in omega (arith, same, ltb-true _ _ here.0)
      | inr four ↦ elim (cond_err (ltb (longest v) size) (Bad (fault TooLong 0)) (More n) (after_longest v bytes) four.1) [
        | inl never ↦ absurd (let is = never.1 in cc)
        | inr short ↦ elim (cond_err (ltb (length bytes) (4 + size)) (More (4 + size)) (More n) (judged (4 + size) (whole_body v bytes))
            short.1) [
              | inl here ↦ let same : 4 + size ≡ n = (let is = here.1 in cc) in omega (arith, same, ltb-true _ _ here.0)
              | inr there ↦ let bad = judged_err (4 + size) (whole_body v bytes) (More n) there.1 in absurd (let never = bad.2 in cc)
            ]
      ]
    ]

-- ---- frames among each other

-- bytes that begin with a frame begin with no other, and two operations share no frame
pub frame_once : (v : Version) (a b : OpData) (x y : List ℕ) → IsWellFormed a → Fits v a → IsWellFormed b → Fits v b
    → frame v a ++ x ≡ frame v b ++ y → a ≡ b
frame_once v a b x y well_a fits_a well_b fits_b e =
    let both : ◌≡◌ {A = Result (OpData × ℕ) Refused} (Ok (a, length (frame v a))) (Ok (b, length (frame v b))) =
    sym (judge_again v a x well_a fits_a) ∙ ap (judge v) e ∙ judge_again v b y well_b fits_b in
    let same : ◌≡◌ {A = OpData × ℕ} (a, length (frame v a)) (b, length (frame v b)) = cc in
    ap (λ (p : OpData × ℕ). p.0) same

-- no frame goes on after another
pub frame_no_prefix : (v : Version) (a b : OpData) (x : List ℕ) → IsWellFormed a → Fits v a → IsWellFormed b → Fits v b
    → frame v a ++ x ≡ frame v b → x ≡ []
frame_no_prefix v a b x well_a fits_a well_b fits_b e =
    let same = frame_once v a b x [] well_a fits_a well_b fits_b (e ∙ sym (append-nil (frame v b))) in
    append_cancel_left (frame v a) x [] (e ∙ ap (frame v) (sym same) ∙ sym (append-nil (frame v a)))
