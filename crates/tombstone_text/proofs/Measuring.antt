-- What characters weigh, of texts that are put together, cut, marked and kept in chunks.
use Rattle.std.proofs.Common.{◌≡◌, ◌≢◌, ℕ, zero, suc, ◌+◌, ◌*◌, ◌<◌, ◌≤◌, Bool, true, false, cond, nat_lt, ◌==◌, if◌then◌else◌, List, [], ◌∷◌, ◌++◌, map, length, take, drop, get_or, refl, sym, ap, ◌∙◌, arith}
use Rattle.std.specs.List.{sum}
use Rattle.std.proofs.lemmas.Bool.Decides.{nat_tests}
use Rattle.std.proofs.lemmas.List.{take-append-drop, length-take}
use Rattle.std.proofs.lemmas.List.Sums.{sum_by-cons}
use Rattle.op_name.specs.NameData.{NameData}
use Rattle.ttf_form.specs.Cells.{CellData, bare_from, cell_shown, change_at, chars_where, put_in}
use Rattle.tombstone_text.specs.Chunks.{flag_of, flat, joined}
use Rattle.tombstone_text.specs.Measures.{weight, weight_of, weight_shown, chunk_weights}
use Rattle.tombstone_text.specs.Code.Chunks.{ChunkData, bodies, texts_of}
use Rattle.tombstone_text.specs.Code.Weights.{by_measure, chunk_weight, counted, weight_flagged}
use Rattle.tombstone_text.specs.declared.measure.Measure.{Measure}
use Rattle.tombstone_text.specs.declared.measure.Measure.TheVariants.{Bytes, Units, Lines}

-- what is so of each of the three is so of all
pub by_three : {A : Type 0} (f : Measure → A) (b u l : A) → b ≡ f Bytes → u ≡ f Units → l ≡ f Lines → (m : Measure)
    → by_measure b u l m ≡ f m
by_three f b u l is_b is_u is_l Bytes = is_b
by_three f b u l is_b is_u is_l Units = is_u
by_three f b u l is_b is_u is_l Lines = is_l

-- a character counts where its flag is 1
is_one : (n : ℕ) → n ≡ 1 → (n == 1) ≡ true
is_one n e = grind (arith, nat_tests)

not_one : (n : ℕ) → n ≢ 1 → (n == 1) ≡ false
not_one n e = grind (arith, nat_tests)

pub counted_one : (f w : ℕ) → f ≡ 1 → counted f w ≡ w
counted_one f w e = ap (λ (t : Bool). if t then w else 0) (is_one f e)

pub counted_none : (f w : ℕ) → f ≢ 1 → counted f w ≡ 0
counted_none f w e = ap (λ (t : Bool). if t then w else 0) (not_one f e)

-- a character weighs at most 4
pub weight-le : (m : Measure) (c : ℕ) → weight m c ≤ 4
weight-le Bytes c = by (nat_lt c 0x80) (nat_lt c 0x800) (nat_lt c 0x1_0000)
  where
    by : (p q r : Bool) → cond p 1 (cond q 2 (cond r 3 4)) ≤ 4
    by true q r = omega arith
    by false true r = omega arith
    by false false true = omega arith
    by false false false = omega arith
weight-le Units c = by (nat_lt c 0x1_0000)
  where
    by : (p : Bool) → (if p then 1 else 2) ≤ 4
    by true = omega arith
    by false = omega arith
weight-le Lines c = by (c == 10)
  where
    by : (p : Bool) → (if p then 1 else 0) ≤ 4
    by true = omega arith
    by false = omega arith

pub weight_of-le : (m : Measure) (cs : List ℕ) → weight_of m cs ≤ 4 * length cs
weight_of-le m [] = omega arith
weight_of-le m (c ∷ cs) = omega (arith, weight-le m c, weight_of-le m cs)

-- one character more
pub weight_of_more : (m : Measure) (cs : List ℕ) (k d : ℕ) → k < length cs
    → weight_of m (take (k + 1) cs) ≡ weight_of m (take k cs) + weight m (get_or cs k d)
weight_of_more m [] k d lt = absurd (omega (arith, lt))
weight_of_more m (c ∷ cs) zero d lt = omega arith
weight_of_more m (c ∷ cs) (suc k) d lt =
    let next : suc k + 1 ≡ suc (k + 1) = omega arith in
    ap (λ n. weight_of m (take n (c ∷ cs))) next
    ∙ omega (arith, weight_of_more m cs k d (omega (arith, lt)))

nothing_more : (n : ℕ) → n ≡ 0 + n
nothing_more n = omega arith

-- the first cell beside the others
one_shown : (m : Measure) (b : Bool) (t : ℕ) (ts : List ℕ)
    → weight_of m (if b then t ∷ ts else ts) ≡ counted (if b then 1 else 0) (weight m t) + weight_of m ts
one_shown m true t ts = refl
one_shown m false t ts = nothing_more (weight_of m ts)

pub shown_cons : (m : Measure) (c : CellData) (cs : List CellData) (t : ℕ) (ts : List ℕ)
    → weight_shown m (c ∷ cs) (t ∷ ts) ≡ counted (flag_of c) (weight m t) + weight_shown m cs ts
shown_cons m c cs t ts = one_shown m (cell_shown c) t (chars_where cell_shown cs ts)

pub counted-le : (f w : ℕ) → counted f w ≤ w
counted-le f w = by (f == 1)
  where
    by : (p : Bool) → (if p then w else 0) ≤ w
    by true = omega arith
    by false = omega arith

pub shown-le : (m : Measure) (cs : List CellData) (ts : List ℕ) → weight_shown m cs ts ≤ 4 * length cs
shown-le m [] ts = omega arith
shown-le m (c ∷ cs) [] = omega arith
shown-le m (c ∷ cs) (t ∷ ts) =
    omega (arith, shown_cons m c cs t ts, counted-le (flag_of c) (weight m t), weight-le m t, shown-le m cs ts)

-- the flags of cells count their characters
pub flagged_shown : (m : Measure) (cs : List CellData) (ts : List ℕ) → weight_flagged m (map flag_of cs) ts ≡ weight_shown m cs ts
flagged_shown m [] ts = refl
flagged_shown m (c ∷ cs) [] = refl
flagged_shown m (c ∷ cs) (t ∷ ts) =
    ap (λ n. counted (flag_of c) (weight m t) + n) (flagged_shown m cs ts) ∙ sym (shown_cons m c cs t ts)

pub flagged_more : (m : Measure) (fs ts : List ℕ) (k d e : ℕ) → k < length fs → k < length ts
    → weight_flagged m (take (k + 1) fs) (take (k + 1) ts)
    ≡ weight_flagged m (take k fs) (take k ts) + counted (get_or fs k d) (weight m (get_or ts k e))
flagged_more m [] ts k d e lt l = absurd (omega (arith, lt))
flagged_more m (f ∷ fs) [] k d e lt l = absurd (omega (arith, l))
flagged_more m (f ∷ fs) (t ∷ ts) zero d e lt l = omega arith
flagged_more m (f ∷ fs) (t ∷ ts) (suc k) d e lt l =
    let next : suc k + 1 ≡ suc (k + 1) = omega arith in
    ap (λ n. weight_flagged m (take n (f ∷ fs)) (take n (t ∷ ts))) next
    ∙ omega (arith, flagged_more m fs ts k d e (omega (arith, lt)) (omega (arith, l)))

pub flagged-le : (m : Measure) (fs ts : List ℕ) → weight_flagged m fs ts ≤ 4 * length ts
flagged-le m [] ts = omega arith
flagged-le m (f ∷ fs) [] = omega arith
flagged-le m (f ∷ fs) (t ∷ ts) = omega (arith, counted-le f (weight m t), weight-le m t, flagged-le m fs ts)

-- texts side by side
pub shown-append : (m : Measure) (cs ds : List CellData) (ts us : List ℕ) → length ts ≡ length cs
    → weight_shown m (cs ++ ds) (ts ++ us) ≡ weight_shown m cs ts + weight_shown m ds us
shown-append m [] ds [] us e = nothing_more (weight_shown m ds us)
shown-append m [] ds (t ∷ ts) us e = absurd (omega (arith, e))
shown-append m (c ∷ cs) ds [] us e = absurd (omega (arith, e))
shown-append m (c ∷ cs) ds (t ∷ ts) us e =
    omega (
      arith,
      shown_cons m c (cs ++ ds) t (ts ++ us),
      shown_cons m c cs t ts,
      shown-append m cs ds ts us (omega (arith, e)),
    )

-- new characters that are all shown
pub shown_bare : (m : Measure) (n : NameData) (t f k : ℕ) (ts : List ℕ) → length ts ≡ k
    → weight_shown m (bare_from n t f k) ts ≡ weight_of m ts
shown_bare m n t f zero [] e = refl
shown_bare m n t f zero (c ∷ cs) e = absurd (omega (arith, e))
shown_bare m n t f (suc k) [] e = absurd (omega (arith, e))
shown_bare m n t f (suc k) (c ∷ cs) e = ap (λ w. weight m c + w) (shown_bare m n t (suc f) k cs (omega (arith, e)))

pub shown-put : (m : Measure) (o : ℕ) (new cs : List CellData) (us ts : List ℕ) → length ts ≡ length cs → length us ≡ length new
    → weight_shown m (put_in o new cs) (put_in o us ts) ≡ weight_shown m cs ts + weight_shown m new us
shown-put m o new cs us ts e f =
    let low = take o cs in
    let high = drop o cs in
    let low_text = take o ts in
    let high_text = drop o ts in
    let beside : length low_text ≡ length low = omega (arith, length-take o cs, length-take o ts, e) in
    let whole =
    ap (λ (xs : List CellData). weight_shown m xs ts) (sym (take-append-drop o cs))
    ∙ ap (λ (us : List ℕ). weight_shown m (low ++ high) us) (sym (take-append-drop o ts)) in
    omega (
      arith,
      whole,
      shown-append m low (new ++ high) low_text (us ++ high_text) beside,
      shown-append m new high us high_text f,
      shown-append m low high low_text high_text beside,
    )

-- a cell that changes
pub shown-change : (m : Measure) (g : CellData → CellData) (cs : List CellData) (ts : List ℕ) (k : ℕ) (x : CellData) (d : ℕ)
    → k < length cs → length ts ≡ length cs
    → weight_shown m (change_at k g cs) ts + counted (flag_of (get_or cs k x)) (weight m (get_or ts k d))
    ≡ weight_shown m cs ts + counted (flag_of (get_or (change_at k g cs) k x)) (weight m (get_or ts k d))
shown-change m g [] ts k x d lt e = absurd (omega (arith, lt))
shown-change m g (c ∷ cs) [] k x d lt e = absurd (omega (arith, e))
shown-change m g (c ∷ cs) (t ∷ ts) zero x d lt e = omega (arith, shown_cons m c cs t ts, shown_cons m (g c) cs t ts)
shown-change m g (c ∷ cs) (t ∷ ts) (suc k) x d lt e =
    omega (
      arith,
      shown_cons m c cs t ts,
      shown_cons m c (change_at k g cs) t ts,
      shown-change m g cs ts k x d (omega (arith, lt)) (omega (arith, e)),
    )

-- what is counted of a cell is no more than all
pub counted-part : (m : Measure) (cs : List CellData) (ts : List ℕ) (k : ℕ) (x : CellData) (d : ℕ)
    → k < length cs → length ts ≡ length cs → counted (flag_of (get_or cs k x)) (weight m (get_or ts k d)) ≤ weight_shown m cs ts
counted-part m [] ts k x d lt e = absurd (omega (arith, lt))
counted-part m (c ∷ cs) [] k x d lt e = absurd (omega (arith, e))
counted-part m (c ∷ cs) (t ∷ ts) zero x d lt e = omega (arith, shown_cons m c cs t ts)
counted-part m (c ∷ cs) (t ∷ ts) (suc k) x d lt e =
    omega (arith, shown_cons m c cs t ts, counted-part m cs ts k x d (omega (arith, lt)) (omega (arith, e)))

-- the column of a text
pub column_is : (m : Measure) (cs : List ChunkData) → map (chunk_weight m) cs ≡ chunk_weights m (bodies cs) (texts_of cs)
column_is m [] = refl
column_is m (c ∷ cs) = ap (λ ns. chunk_weight m c ∷ ns) (column_is m cs)

pub sum-weights : (m : Measure) (cs : List (List CellData)) (ts : List (List ℕ)) → map (λ t. length t) ts ≡ map (λ c. length c) cs
    → sum (chunk_weights m cs ts) ≡ weight_shown m (flat cs) (joined ts)
sum-weights m [] [] e = refl
sum-weights m [] (t ∷ ts) e = refl
sum-weights m (c ∷ cs) [] e = absurd (omega (arith, ap (λ (ns : List ℕ). length ns) e))
sum-weights m (c ∷ cs) (t ∷ ts) e =
    let one = ap (λ (ns : List ℕ). get_or ns 0 0) e in
    let rest = sum-weights m cs ts (ap (λ (ns : List ℕ). drop 1 ns) e) in
    sum_by-cons (λ (n : ℕ). n) (weight_shown m c t) (chunk_weights m cs ts)
    ∙ ap (λ n. weight_shown m c t + n) rest
    ∙ sym (shown-append m c (flat cs) t (joined ts) one)

pub take-weights : (m : Measure) (i : ℕ) (cs : List (List CellData)) (ts : List (List ℕ))
    → take i (chunk_weights m cs ts) ≡ chunk_weights m (take i cs) (take i ts)
take-weights m zero cs ts = refl
take-weights m (suc i) [] ts = refl
take-weights m (suc i) (c ∷ cs) [] = refl
take-weights m (suc i) (c ∷ cs) (t ∷ ts) = ap (λ ns. weight_shown m c t ∷ ns) (take-weights m i cs ts)
