-- What the two calls find among the bytes is what they answer of the characters.
use Rattle.std.proofs.Common.{◌≡◌, ℕ, ◌+◌, ◌-◌, ◌<◌, ◌≤◌, true, List, length, take, drop, get_or, sym, ap, subst, ◌∙◌, arith, length-drop}
use Rattle.std.specs.Prelude.{encode_utf8_all, Some, None, nat_le, not}
use Rattle.std.specs.List.{suffix_len}
use Rattle.std.proofs.Math.Seq.{take-add}
use Rattle.std.proofs.lemmas.Bool.{cond-false, lt-leb}
use Rattle.std.proofs.lemmas.List.{take_all, get_or-drop}
use Rattle.std.proofs.lemmas.List.Sums.{sum_by-append}
use Rattle.std.proofs.Common.{cond}
use Rattle.lane_rank.specs.Texts.{is_newline, newlines_of, starts_of}
use Rattle.past_view.specs.Lines.{line_of, column_of, address_of, place_at}
use Rattle.past_view.specs.Code.Counted.{IsPlaceEnd, IsLineStart, IsLineEnd}
use Rattle.past_view.proofs.Counts.{count_up}
use Rattle.past_view.proofs.Utf8.{starts_all, newlines_all}
use Rattle.past_view.proofs.Addresses.{IsAddress, IsLineFrom, on_line, from_front, address_from, place_found, place_missing}
use Rattle.past_view.proofs.Cuts.{IsCut, IsLineOf, place_cut, line_cut, line_end_cut, cut_front, cut_rest, cut_starts}

-- `line_of_place`: no place after more characters than there are
pub no_address : (cs bs : List ℕ) (v : ℕ) → encode_utf8_all cs ≡ bs → starts_of bs < v → None ≡ address_of cs v
no_address cs bs v text few =
    let past : length cs < v = omega (arith, few, starts_all cs, ap starts_of text) in
    sym (cond-false (nat_le v (length cs)) (Some (line_of cs v, column_of cs v)) None (lt-leb v (length cs) past))

-- the column of the end is what stands behind the front of the last line
last_column : (ds : List ℕ) (start : ℕ) → IsLineStart (encode_utf8_all ds) (newlines_of (encode_utf8_all ds)) start
    → column_of ds (length ds) ≡ starts_of (drop start (encode_utf8_all ds))
last_column ds start from =
    let found = line_cut ds (newlines_of (encode_utf8_all ds)) start from in
    let w = found.0 in
    let cut = found.1 in
    let line = found.2 in
    let whole : line_of ds (length ds) ≡ newlines_of (encode_utf8_all ds) =
    ap newlines_of (take_all (length ds) ds (omega arith)) ∙ sym (newlines_all ds) in
    let on = on_line (length ds - w) (length ds) line (λ lt. absurd (omega (arith, line.within))) (omega arith) whole in
    on.2 ∙ sym (ap starts_of (cut_rest cut) ∙ (starts_all (drop w ds) ∙ length-drop w ds))

address_at : (cs bs : List ℕ) (v start : ℕ) → v ≤ length cs → encode_utf8_all (take v cs) ≡ bs → IsLineStart bs (newlines_of bs) start
    → IsAddress cs (newlines_of bs) (starts_of (drop start bs)) v
address_at cs bs v start le text from =
    let ds = take v cs in
    let start_at = subst (λ xs. IsLineStart xs (newlines_of xs) start) (sym text) from in
    let whole : take (length ds) ds ≡ ds = take_all (length ds) ds (omega arith) in
    record {
      within = le;
      on_line = sym (newlines_all ds) ∙ ap newlines_of text;
      in_column =
          ap (suffix_len (λ c. not (is_newline c))) (sym whole)
          ∙ (last_column ds start start_at ∙ ap (λ xs. starts_of (drop start xs)) text);
    }

-- `line_of_place`, by the bytes of the characters before the place
pub line_answer : (cs bs : List ℕ) (v end start line column : ℕ) → encode_utf8_all cs ≡ bs → IsPlaceEnd bs v end
    → line ≡ newlines_of (take end bs)
    → IsLineStart (take end bs) line start → column ≡ starts_of (drop start (take end bs)) → Some (line, column) ≡ address_of cs v
line_answer cs bs v end start line column text place lines from columns =
    let cut = place_cut cs v end (subst (λ xs. IsPlaceEnd xs v end) (sym text) place) in
    let front : encode_utf8_all (take v cs) ≡ take end bs = sym (cut_front cut) ∙ ap (take end) text in
    let at = address_at cs (take end bs) v start cut.within front (subst (λ l. IsLineStart (take end bs) l start) lines from) in
    (λ i. Some (lines i, columns i)) ∙ sym (address_from at)

-- `place_of_line`: no place on a line after more line feeds than there are
pub no_line : (cs bs : List ℕ) (line column : ℕ) → encode_utf8_all cs ≡ bs → newlines_of bs < line → None ≡ place_at cs line column
no_line cs bs line column text few =
    sym (place_missing cs line column (λ v a.
    let whole = ap newlines_of (take_all (length cs) cs (omega arith)) in
    omega (arith, count_up is_newline cs v (length cs) a.within, whole, a.on_line, few, newlines_all cs, ap newlines_of text)))

-- a line of the text, by the bytes of its front and of its end
module _ (cs : List ℕ) (line start end : ℕ) (from : IsLineStart (encode_utf8_all cs) line start)
    (to : IsLineEnd (drop start (encode_utf8_all cs)) end) where
  front : (w : ℕ) × IsCut cs w start × IsLineFrom cs line w
  front = line_cut cs line start from

  abbrev w : ℕ
  w = front.0

  behind : (m : ℕ) × IsLineOf (drop w cs) end m
  behind = line_end_cut (drop w cs) end (subst (λ l. IsLineEnd l end) (cut_rest front.1) to)

  abbrev m : ℕ
  m = behind.0

  size : starts_of (take end (drop start (encode_utf8_all cs))) ≡ m
  size = ap (λ l. starts_of (take end l)) (cut_rest front.1) ∙ cut_starts behind.1.cut

  fits : w + m ≤ length cs
  fits = omega (arith, behind.1.cut.within, length-drop w cs, front.1.within)

  next : w + m < length cs → is_newline (get_or cs (w + m) 0) ≡ true
  next lt = ap is_newline (sym (get_or-drop w cs m 0)) ∙ behind.1.next (omega (arith, length-drop w cs))

  along : (d : ℕ) → d ≤ m → line_of cs (w + d) ≡ line
  along d le =
      let whole = ap newlines_of (take-add w d cs) ∙ sum_by-append (λ b. cond (is_newline b) 1 0) (take w cs) (take d (drop w cs)) in
      omega (arith, whole, count_up is_newline (drop w cs) d m le, behind.1.plain, front.2.counted)

  found_at : (column before : ℕ) → column ≤ starts_of (take end (drop start (encode_utf8_all cs)))
      → before ≡ starts_of (take start (encode_utf8_all cs))
      → Some (before + column) ≡ place_at cs line column
  found_at column before le counted =
      let short : column ≤ m = omega (arith, size) in
      let at = from_front column front.2 (omega (arith, fits)) (along column short) in
      ap (λ n. Some (n + column)) (counted ∙ cut_starts front.1) ∙ sym (place_found cs line column (w + column) at)

  none_at : (column : ℕ) → starts_of (take end (drop start (encode_utf8_all cs))) < column → None ≡ place_at cs line column
  none_at column lt =
      sym (place_missing cs line column (λ v a.
      let on = on_line m v front.2 next a.within a.on_line in
      omega (arith, size, lt, on.0, on.1, on.2, a.in_column)))

pub place_answer : (cs bs : List ℕ) (line column start end before : ℕ) → encode_utf8_all cs ≡ bs → IsLineStart bs line start
    → IsLineEnd (drop start bs) end
    → column ≤ starts_of (take end (drop start bs)) → before ≡ starts_of (take start bs) → Some (before + column) ≡ place_at cs line column
place_answer cs bs line column start end before text =
    subst
    (λ xs. IsLineStart xs line start → IsLineEnd (drop start xs) end → column ≤ starts_of (take end (drop start xs))
    → before ≡ starts_of (take start xs)
    → Some (before + column) ≡ place_at cs line column)
    text (λ from to. found_at cs line start end from to column before)

pub no_column : (cs bs : List ℕ) (line column start end : ℕ) → encode_utf8_all cs ≡ bs → IsLineStart bs line start
    → IsLineEnd (drop start bs) end
    → starts_of (take end (drop start bs)) < column → None ≡ place_at cs line column
no_column cs bs line column start end text =
    subst
    (λ xs. IsLineStart xs line start → IsLineEnd (drop start xs) end → starts_of (take end (drop start xs)) < column
    → None ≡ place_at cs line column)
    text (λ from to. none_at cs line start end from to column)
