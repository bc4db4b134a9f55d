-- Where the bytes of a text are cut between its characters.
use Rattle.std.proofs.Common.{◌≡◌, ℕ, zero, suc, ◌+◌, ◌<◌, ◌≤◌, true, List, [], ◌∷◌, ◌++◌, length, take, drop, get_or, cond, refl, sym, ap, subst, ◌∙◌, arith, length-append, length-drop, length-take-le}
use Rattle.std.specs.Prelude.{encode_utf8, encode_utf8_all}
use Rattle.std.proofs.lemmas.Bool.{cases_lt, cases_order, eqb-true}
use Rattle.std.proofs.lemmas.List.{take-append-drop, take_at, drop_at, take_all, get_or-drop, take_more, drop_more}
use Rattle.std.proofs.lemmas.List.Sums.{sum_by-take-le}
use Rattle.std.proofs.lemmas.Str.{encodes-append, encode_ascii, char_from_byte}
use Rattle.lane_rank.specs.Texts.{is_newline, starts_char, newlines_of, starts_of}
use Rattle.past_view.specs.Lines.{line_of}
use Rattle.past_view.specs.Code.Counted.{IsPlaceEnd, IsLineStart, IsLineEnd}
use Rattle.past_view.proofs.Counts.{count_past}
use Rattle.past_view.proofs.Utf8.{first_starts, starts_all, newlines_all}
use Rattle.past_view.proofs.Addresses.{IsLineFrom}
use mathlib.Core.Logic.{⊎_elim}

first_of_rest : (xs : List ℕ) (i : ℕ) → get_or (drop i xs) 0 0 ≡ get_or xs i 0
first_of_rest xs i = let same : i + 0 ≡ i = omega arith in get_or-drop i xs 0 0 ∙ ap (λ k. get_or xs k 0) same

-- v characters take i bytes
pub record IsCut (cs : List ℕ) (v i : ℕ) : Type 0 where
  pub within : v ≤ length cs
  pub size : i ≡ length (encode_utf8_all (take v cs))

module _ {cs : List ℕ} {v i : ℕ} (cut : IsCut cs v i) where
  parts : encode_utf8_all cs ≡ encode_utf8_all (take v cs) ++ encode_utf8_all (drop v cs)
  parts = ap encode_utf8_all (sym (take-append-drop v cs)) ∙ encodes-append (take v cs) (drop v cs)

  pub cut_front : take i (encode_utf8_all cs) ≡ encode_utf8_all (take v cs)
  cut_front = ap (take i) parts ∙ take_at (encode_utf8_all (take v cs)) (encode_utf8_all (drop v cs)) i (sym cut.size)

  pub cut_rest : drop i (encode_utf8_all cs) ≡ encode_utf8_all (drop v cs)
  cut_rest = ap (drop i) parts ∙ drop_at (encode_utf8_all (take v cs)) (encode_utf8_all (drop v cs)) i (sym cut.size)

  pub cut_within : i ≤ length (encode_utf8_all cs)
  cut_within = omega (arith, cut.size, ap length parts, length-append (encode_utf8_all (take v cs)) (encode_utf8_all (drop v cs)))

  pub cut_starts : starts_of (take i (encode_utf8_all cs)) ≡ v
  cut_starts = ap starts_of cut_front ∙ (starts_all (take v cs) ∙ length-take-le v cs cut.within)

  pub cut_newlines : newlines_of (take i (encode_utf8_all cs)) ≡ line_of cs v
  cut_newlines = ap newlines_of cut_front ∙ newlines_all (take v cs)

  pub cut_next : i < length (encode_utf8_all cs) → starts_char (get_or (encode_utf8_all cs) i 0) ≡ true
  cut_next lt =
      let some : 0 < length (encode_utf8_all (drop v cs)) = omega (arith, ap length cut_rest, length-drop i (encode_utf8_all cs)) in
      let here : get_or (encode_utf8_all (drop v cs)) 0 0 ≡ get_or (encode_utf8_all cs) i 0 =
      ap (λ l. get_or l 0 0) (sym cut_rest) ∙ first_of_rest (encode_utf8_all cs) i in
      ap starts_char (sym here) ∙ first_starts (drop v cs) some

-- where v characters end, the bytes are cut
pub place_cut : (cs : List ℕ) (v i : ℕ) → IsPlaceEnd (encode_utf8_all cs) v i → IsCut cs v i
place_cut cs v i end = record { within = few; size = ⊎_elim (λ e. e) (λ r. absurd (⊎_elim early late r)) (cases_order i j) }
  where
    few : v ≤ length cs
    few = omega (arith, end.before, starts_all cs, sum_by-take-le (λ b. cond (starts_char b) 1 0) (encode_utf8_all cs) i)

    j : ℕ
    j = length (encode_utf8_all (take v cs))

    cut : IsCut cs v j
    cut = record { within = few; size = refl }

    early : i < j → ⊥
    early lt =
        let in_it : i < length (encode_utf8_all cs) = omega (arith, cut_within cut) in
        omega (arith, count_past starts_char (encode_utf8_all cs) i j in_it (end.next in_it) lt, end.before, cut_starts cut)

    late : j < i → ⊥
    late lt =
        let in_it : j < length (encode_utf8_all cs) = omega (arith, end.within) in
        omega (arith, count_past starts_char (encode_utf8_all cs) j i in_it (cut_next cut in_it) lt, end.before, cut_starts cut)

pub end_cut : (cs : List ℕ) → IsCut cs (length cs) (length (encode_utf8_all cs))
end_cut cs = record { within = omega arith; size = ap (λ l. length (encode_utf8_all l)) (sym (take_all (length cs) cs (omega arith))) }

-- one character further
next_cut : (cs : List ℕ) (v i : ℕ) → IsCut cs v i → v < length cs → get_or cs v 0 ≡ 10 → IsCut cs (v + 1) (i + 1)
next_cut cs v i cut lt e =
    let ten : encode_utf8_all (10 ∷ []) ≡ 10 ∷ [] = ap (λ l. l ++ []) (encode_ascii 10 (omega arith)) in
    let more = ap encode_utf8_all (take_more cs v 0 lt ∙ ap (λ c. take v cs ++ c ∷ []) e) ∙ encodes-append (take v cs) (10 ∷ []) in
    let size = ap length more ∙ length-append (encode_utf8_all (take v cs)) (encode_utf8_all (10 ∷ [])) in
    record { within = omega arith; size = omega (arith, size, ap length ten, cut.size) }

-- the byte of a line feed is one character
record IsFeed (cs : List ℕ) (k v : ℕ) : Type 0 where
  within : v < length cs
  here : is_newline (get_or cs v 0) ≡ true
  before : IsCut cs v k
  past : IsCut cs (v + 1) (k + 1)

feed_cut : (cs : List ℕ) (k : ℕ) → k < length (encode_utf8_all cs) → is_newline (get_or (encode_utf8_all cs) k 0) ≡ true
    → (v : ℕ) × IsFeed cs k v
feed_cut cs k lt feed = (v, record { within = short; here = ap is_newline char; before = cut; past = next_cut cs v k cut short char })
  where
    bs : List ℕ
    bs = encode_utf8_all cs

    v : ℕ
    v = starts_of (take k bs)

    ten : get_or bs k 0 ≡ 10
    ten = eqb-true (get_or bs k 0) 10 feed

    starts : starts_char (get_or bs k 0) ≡ true
    starts = ap starts_char ten

    cut : IsCut cs v k
    cut = place_cut cs v k (record { within = omega arith; before = refl; next = λ _. starts })

    short : v < length cs
    short = omega (
      arith,
      count_past starts_char bs k (length bs) lt starts lt,
      ap starts_of (take_all (length bs) bs (omega arith)),
      starts_all cs,
    )

    rest : drop k bs ≡ encode_utf8 (get_or cs v 0) ++ encode_utf8_all (drop (v + 1) cs)
    rest = cut_rest cut ∙ ap encode_utf8_all (drop_more cs v 0 short)

    first : get_or (drop k bs) 0 0 ≡ 10
    first = first_of_rest bs k ∙ ten

    char : get_or cs v 0 ≡ 10
    char = char_from_byte (drop k bs) (encode_utf8_all (drop (v + 1) cs)) (get_or cs v 0) rest (omega (arith, first))
        (omega (arith, length-drop k bs)) ∙ first

-- where a line begins, the bytes are cut in front of its characters
pub line_cut : (cs : List ℕ) (line i : ℕ) → IsLineStart (encode_utf8_all cs) line i → (w : ℕ) × IsCut cs w i × IsLineFrom cs line w
line_cut cs line zero start = (
  0,
  record { within = omega arith; size = refl },
  record { within = omega arith; counted = start.before; after = λ k e. absurd (omega arith) },
)
line_cut cs line (suc k) start =
    let feed = feed_cut cs k (omega (arith, start.within)) (start.after k (omega arith)) in
    let v = feed.0 in
    let same : k + 1 ≡ suc k = omega arith in
    let cut = subst (IsCut cs (v + 1)) same feed.1.past in
    let last : (m : ℕ) → m + 1 ≡ v + 1 → is_newline (get_or cs m 0) ≡ true =
    λ m e. let same : m ≡ v = omega arith in ap (λ n. is_newline (get_or cs n 0)) same ∙ feed.1.here in
    (v + 1, cut, record { within = cut.within; counted = sym (cut_newlines cut) ∙ start.before; after = last })

-- where the first line ends, the bytes are cut behind its characters
pub record IsLineOf (es : List ℕ) (i m : ℕ) : Type 0 where
  pub cut : IsCut es m i
  pub plain : newlines_of (take m es) ≡ 0
  pub next : m < length es → is_newline (get_or es m 0) ≡ true

pub line_end_cut : (es : List ℕ) (i : ℕ) → IsLineEnd (encode_utf8_all es) i → (m : ℕ) × IsLineOf es i m
line_end_cut es i end = ⊎_elim at_feed at_end (cases_lt i (length (encode_utf8_all es)))
  where
    at_feed : i < length (encode_utf8_all es) → (m : ℕ) × IsLineOf es i m
    at_feed lt =
        let feed = feed_cut es i lt (end.next lt) in
        (feed.0, record { cut = feed.1.before; plain = sym (cut_newlines feed.1.before) ∙ end.before; next = λ _. feed.1.here })

    at_end : length (encode_utf8_all es) ≤ i → (m : ℕ) × IsLineOf es i m
    at_end le =
        let same : length (encode_utf8_all es) ≡ i = omega (arith, end.within) in
        let cut = subst (IsCut es (length es)) same (end_cut es) in
        (length es, record { cut = cut; plain = sym (cut_newlines cut) ∙ end.before; next = λ lt. absurd (omega arith) })
