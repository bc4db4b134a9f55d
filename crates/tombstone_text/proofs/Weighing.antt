-- The columns of weights, where a chunk changes or comes in.
use Rattle.std.proofs.Common.{◌≡◌, ℕ, zero, suc, ◌+◌, ◌*◌, ◌<◌, ◌≤◌, Option, List, [], ◌∷◌, map, length, take, insert, set, get_or, sym, ap, ◌∙◌, arith}
use Rattle.std.specs.List.{sum}
use Rattle.std.proofs.lemmas.List.{map-set, get_or-map, set-get_or, length-map, length-append, take-map}
use Rattle.std.proofs.lemmas.List.Sums.{sum_by-cons}
use Rattle.ttf_form.specs.declared.ins.Ins.{Ins}
use Rattle.ttf_form.specs.Cells.{CellData, bare_cells, change_at, put_in}
use Rattle.ttf_form.specs.Laws.Cells.{length-bare}
use Rattle.tombstone_text.specs.Chunks.{flat, flag_of, joined}
use Rattle.tombstone_text.specs.Measures.{weight, weight_of, weight_shown}
use Rattle.tombstone_text.specs.Code.Chunks.{ChunkData, bodies, texts_of}
use Rattle.tombstone_text.specs.Code.Weights.{AreWeights, chunk_weight, counted}
use Rattle.tombstone_text.specs.declared.measure.Measure.{Measure}
use Rattle.tombstone_text.specs.Code.Cells.{AreBeside, IsText}
use Rattle.tombstone_text.proofs.Beside.{beside_at, beside_same}
use Rattle.tombstone_text.proofs.Bodies.{bodies_within, bodies_long, body_read, text_read}
use Rattle.tombstone_text.proofs.Flags.{map-insert}
use Rattle.tombstone_text.proofs.Texts.{set-sum, part-le}
use Rattle.tombstone_text.proofs.Measuring.{shown-le, counted-part, shown-put, shown_bare, shown-change, column_is, sum-weights, take-weights}

-- all weights are small
weights-le : (m : Measure) (cs : List ChunkData) → sum (map (chunk_weight m) cs) ≤ 4 * length (flat (bodies cs))
weights-le m [] = omega arith
weights-le m (c ∷ cs) =
    omega (
      arith,
      sum_by-cons (λ (n : ℕ). n) (chunk_weight m c) (map (chunk_weight m) cs),
      weights-le m cs,
      shown-le m c.cells c.text,
      length-append c.cells (flat (bodies cs)),
    )

pub sum-low : (ps : Measure → List ℕ) (cs : List ChunkData) → AreWeights ps cs → (m : Measure) → sum (ps m) ≤ 4 * length (flat (bodies cs))
sum-low ps cs w m = omega (arith, ap sum (w m), weights-le m cs)

pub weights_long : (ps : Measure → List ℕ) (cs : List ChunkData) → AreWeights ps cs → (m : Measure) → length (ps m) ≡ length (bodies cs)
weights_long ps cs w m =
    ap (λ (ns : List ℕ). length ns) (w m) ∙ length-map cs (chunk_weight m) ∙ sym (bodies_long cs)

-- a chunk that was read
pub weight_read : (ps : Measure → List ℕ) (cs : List ChunkData) (i : ℕ) (x : ChunkData) → AreWeights ps cs → i < length (bodies cs)
    → x ≡ get_or cs i x → (m : Measure) → get_or (ps m) i 0 ≡ chunk_weight m x
weight_read ps cs i x w lt read m =
    ap (λ (ns : List ℕ). get_or ns i 0) (w m) ∙ get_or-map (chunk_weight m) cs i x 0 (bodies_within cs i lt)
    ∙ ap (chunk_weight m) (sym read)

pub weight-low : (ps : Measure → List ℕ) (cs : List ChunkData) (i : ℕ) → AreWeights ps cs → i < length (bodies cs)
    → (m : Measure) → get_or (ps m) i 0 ≤ 4 * length (flat (bodies cs))
weight-low ps cs i w lt m =
    omega (arith, part-le (ps m) i (omega (arith, weights_long ps cs w m, lt)), sum-low ps cs w m)

-- a chunk has a character for each cell
pub text_beside : (cs : List ChunkData) (ls ss : List ℕ) (f : Option ChunkData) (i : ℕ) (x : ChunkData) → IsText (bodies cs) ls ss f
    → AreBeside (texts_of cs) ls → i < length (bodies cs) → x ≡ get_or cs i x → length x.text ≡ length x.cells
text_beside cs ls ss f i x t b lt read =
    ap (λ (ts : List ℕ). length ts) (text_read cs i x lt read)
    ∙ beside_at (texts_of cs) (bodies cs) i (beside_same (texts_of cs) (bodies cs) ls ss f t b) lt
    ∙ sym (ap (λ (ds : List CellData). length ds) (body_read cs i x lt read))

-- a weight that changes
pub set-low : (ps : Measure → List ℕ) (cs : List ChunkData) (i v : ℕ) → AreWeights ps cs → i < length (bodies cs)
    → (m : Measure) → sum (set (ps m) i v) ≤ 4 * length (flat (bodies cs)) + v
set-low ps cs i v w lt m =
    omega (arith, set-sum (ps m) i v (omega (arith, weights_long ps cs w m, lt)), sum-low ps cs w m)

pub weights_set : (ps qs : Measure → List ℕ) (cs : List ChunkData) (i : ℕ) (y : ChunkData) (v : Measure → ℕ) → AreWeights ps cs
    → ((m : Measure) → qs m ≡ set (ps m) i (v m)) → ((m : Measure) → v m ≡ chunk_weight m y) → AreWeights qs (set cs i y)
weights_set ps qs cs i y v w now is m =
    now m ∙ ap (λ ns. set ns i (v m)) (w m) ∙ ap (λ n. set (map (chunk_weight m) cs) i n) (is m) ∙ sym (map-set (chunk_weight m) cs i y)

-- a chunk whose cells and characters stayed
pub weights_kept : (ps : Measure → List ℕ) (cs : List ChunkData) (i : ℕ) (x y : ChunkData) → i < length (bodies cs) → x ≡ get_or cs i x
    → y.cells ≡ x.cells → y.text ≡ x.text → AreWeights ps cs → AreWeights ps (set cs i y)
weights_kept ps cs i x y lt read cells text w m =
    w m ∙ sym (map-set (chunk_weight m) cs i y ∙ ap (λ n. set (map (chunk_weight m) cs) i n) same
    ∙ set-get_or (map (chunk_weight m) cs) i 0)
  where
    same : chunk_weight m y ≡ get_or (map (chunk_weight m) cs) i 0
    same =
        ap (λ (ds : List CellData). weight_shown m ds y.text) cells ∙ ap (λ (ts : List ℕ). weight_shown m x.cells ts) text
        ∙ ap (chunk_weight m) read ∙ sym (get_or-map (chunk_weight m) cs i x 0 (bodies_within cs i lt))

-- a chunk that comes in behind one that changes
pub weights_two : (ps qs rs : Measure → List ℕ) (cs : List ChunkData) (i n : ℕ) (x y : ChunkData) (v u : Measure → ℕ) → AreWeights ps cs
    → ((m : Measure) → qs m ≡ set (ps m) i (v m)) → ((m : Measure) → rs m ≡ insert (qs m) n (u m))
    → ((m : Measure) → v m ≡ chunk_weight m x) → ((m : Measure) → u m ≡ chunk_weight m y) → AreWeights rs (insert (set cs i x) n y)
weights_two ps qs rs cs i n x y v u w first then is also m =
    then m ∙ ap (λ ns. insert ns n (u m)) (weights_set ps qs cs i x v w first is m)
    ∙ ap (λ k. insert (map (chunk_weight m) (set cs i x)) n k) (also m) ∙ sym (map-insert (chunk_weight m) (set cs i x) n y)

-- the characters of an insert come in
pub weight_put : (a : Ins) (o : ℕ) (x y : ChunkData) (us : List ℕ) → length x.text ≡ length x.cells → length us ≡ a.len
    → y.cells ≡ put_in o (bare_cells a) x.cells → y.text ≡ put_in o us x.text
    → (m : Measure) → chunk_weight m x + weight_of m us ≡ chunk_weight m y
weight_put a o x y us beside long cells text m =
    let whole =
    ap (λ (ds : List CellData). weight_shown m ds y.text) cells
    ∙ ap (λ (ts : List ℕ). weight_shown m (put_in o (bare_cells a) x.cells) ts) text in
    omega (
      arith,
      whole,
      shown-put m o (bare_cells a) x.cells us x.text beside (omega (arith, long, length-bare a)),
      shown_bare m a.name a.len 0 a.len us long,
    )

-- the first chunk of a text
pub weights_first : (ps qs : Measure → List ℕ) (cs : List ChunkData) (a : Ins) (x y : ChunkData) (us : List ℕ) (v : Measure → ℕ)
    → AreWeights ps cs → cs ≡ [] → x.cells ≡ [] → x.text ≡ [] → length us ≡ a.len
    → y.cells ≡ put_in 0 (bare_cells a) x.cells → y.text ≡ put_in 0 us x.text → ((m : Measure) → qs m ≡ insert (ps m) 0 (v m))
    → ((m : Measure) → v m ≡ weight_of m us) → AreWeights qs (y ∷ [])
weights_first ps qs cs a x y us v w none empty bare long cells text now is m =
    let before : ps m ≡ [] = w m ∙ ap (λ ds. map (chunk_weight m) ds) none in
    let beside = ap (λ (ts : List ℕ). length ts) bare ∙ sym (ap (λ (ds : List CellData). length ds) empty) in
    let nothing : chunk_weight m x ≡ 0 =
    ap (λ (ds : List CellData). weight_shown m ds x.text) empty in
    now m ∙ ap (λ ns. insert ns 0 (v m)) before
    ∙ ap (λ n. n ∷ []) (omega (arith, is m, nothing, weight_put a 0 x y us beside long cells text m))

-- a cell is marked
pub weight_marked : (g : CellData → CellData) (o before after : ℕ) (x y : ChunkData) (d : CellData) (one was now : Measure → ℕ)
    → o < length x.cells → length x.text ≡ length x.cells → y.cells ≡ change_at o g x.cells → y.text ≡ x.text
    → before ≡ flag_of (get_or x.cells o d) → after ≡ flag_of (get_or y.cells o d) → ((m : Measure) → one m ≡ weight m (get_or y.text o 0))
    → ((m : Measure) → was m ≡ chunk_weight m x) → ((m : Measure) → now m + counted before (one m) ≡ was m + counted after (one m))
    → (m : Measure) → now m ≡ chunk_weight m y
weight_marked g o before after x y d one was now lt long cells text is_before is_after is_one is_was turned m =
    let char : one m ≡ weight m (get_or x.text o 0) = is_one m ∙ ap (λ (ts : List ℕ). weight m (get_or ts o 0)) text in
    let whole : chunk_weight m y ≡ weight_shown m (change_at o g x.cells) x.text =
    ap (λ (ds : List CellData). weight_shown m ds y.text) cells
    ∙ ap (λ (ts : List ℕ). weight_shown m (change_at o g x.cells) ts) text in
    let b : counted before (one m) ≡ counted (flag_of (get_or x.cells o d)) (weight m (get_or x.text o 0)) =
    ap (λ f. counted f (one m)) is_before ∙ ap (λ w. counted (flag_of (get_or x.cells o d)) w) char in
    let a : counted after (one m) ≡ counted (flag_of (get_or (change_at o g x.cells) o d)) (weight m (get_or x.text o 0)) =
    ap (λ f. counted f (one m)) (is_after ∙ ap (λ (ds : List CellData). flag_of (get_or ds o d)) cells)
    ∙ ap (λ w. counted (flag_of (get_or (change_at o g x.cells) o d)) w) char in
    omega (arith, whole, b, a, turned m, is_was m, shown-change m g x.cells x.text o d 0 lt long)

-- what the columns of a text sum up to
pub sum_column : (ps : Measure → List ℕ) (cs : List ChunkData) (m : Measure) → AreWeights ps cs
    → map (λ t. length t) (texts_of cs) ≡ map (λ c. length c) (bodies cs)
    → sum (ps m) ≡ weight_shown m (flat (bodies cs)) (joined (texts_of cs))
sum_column ps cs m w beside = ap sum (w m) ∙ ap sum (column_is m cs) ∙ sum-weights m (bodies cs) (texts_of cs) beside

pub sum_taken : (ps : Measure → List ℕ) (cs : List ChunkData) (m : Measure) (i : ℕ) → AreWeights ps cs
    → map (λ t. length t) (texts_of cs) ≡ map (λ c. length c) (bodies cs)
    → sum (take i (ps m)) ≡ weight_shown m (flat (take i (bodies cs))) (joined (take i (texts_of cs)))
sum_taken ps cs m i w beside =
    let ds = bodies cs in
    let ts = texts_of cs in
    ap (λ ns. sum (take i ns)) (w m ∙ column_is m cs) ∙ ap sum (take-weights m i ds ts)
    ∙ sum-weights m (take i ds) (take i ts)
    (sym (take-map (λ (t : List ℕ). length t) i ts) ∙ ap (λ ns. take i ns) beside ∙ take-map (λ (c : List CellData). length c) i ds)

-- what is counted of a cell that is to be marked is no more than its chunk weighs
pub weight_part : (o before : ℕ) (x y : ChunkData) (d : CellData) (one was : Measure → ℕ) → o < length x.cells
    → length x.text ≡ length x.cells → y.text ≡ x.text → before ≡ flag_of (get_or x.cells o d)
    → ((m : Measure) → one m ≡ weight m (get_or y.text o 0)) → ((m : Measure) → was m ≡ chunk_weight m x)
    → (m : Measure) → counted before (one m) ≤ was m
weight_part o before x y d one was lt long text is_before is_one is_was m =
    let char : one m ≡ weight m (get_or x.text o 0) = is_one m ∙ ap (λ (ts : List ℕ). weight m (get_or ts o 0)) text in
    let b : counted before (one m) ≡ counted (flag_of (get_or x.cells o d)) (weight m (get_or x.text o 0)) =
    ap (λ f. counted f (one m)) is_before ∙ ap (λ w. counted (flag_of (get_or x.cells o d)) w) char in
    omega (arith, b, is_was m, counted-part m x.cells x.text o d 0 lt long)

-- a chunk has no more cells than the text
pub chunk-le : (cs : List ChunkData) (i : ℕ) (x : ChunkData) → i < length (bodies cs) → x ≡ get_or cs i x
    → length x.cells ≤ length (flat (bodies cs))
chunk-le cs i x lt read = omega (arith, ap (λ (ds : List CellData). length ds) (body_read cs i x lt read), one (bodies cs) i lt)
  where
    one : (ds : List (List CellData)) (k : ℕ) → k < length ds → length (get_or ds k []) ≤ length (flat ds)
    one [] k l = absurd (omega (arith, l))
    one (d ∷ ds) zero l = omega (arith, length-append d (flat ds))
    one (d ∷ ds) (suc k) l = omega (arith, length-append d (flat ds), one ds k (omega (arith, l)))
