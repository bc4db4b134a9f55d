-- The texts of chunks beside their cells: as long as these, where a chunk changes or is cut in two.
use Rattle.std.proofs.Common.{◌≡◌, ℕ, suc, ◌+◌, ◌-◌, ◌<◌, ◌≤◌, Option, List, [], length, map, take, drop, insert, set, get_or, sym, ap, ◌∙◌, arith}
use Rattle.std.specs.List.{sum}
use Rattle.std.proofs.lemmas.List.{map-set, get_or-map, length-map, length-take, length-drop}
use Rattle.ttf_form.specs.Cells.{CellData, put_in}
use Rattle.ttf_form.specs.Laws.Lists.{length-put}
use Rattle.tombstone_text.specs.Chunks.{flat, joined}
use Rattle.tombstone_text.specs.Code.Cells.{AreBeside, IsSeat, IsText}
use Rattle.tombstone_text.specs.Code.Chunks.{ChunkData}
use Rattle.tombstone_text.proofs.Flags.{map-insert}
use Rattle.tombstone_text.proofs.Chunked.{all_put, all_cut, cut_is, sum-lens, sum-lens-take, text-len}
use Rattle.tombstone_text.proofs.Texts.{set_both, insert_both, len_at}

-- where each text is as long as its chunk: there are as many texts as chunks, one is as long as its chunk, and so are the first ones
pub beside_count : (ts : List (List ℕ)) (cs : List (List CellData)) → map (λ t. length t) ts ≡ map (λ c. length c) cs
    → length ts ≡ length cs
beside_count ts cs e =
    sym (length-map ts (λ (t : List ℕ). length t)) ∙ ap (λ (l : List ℕ). length l) e ∙ length-map cs (λ (c : List CellData). length c)

pub beside_at : (ts : List (List ℕ)) (cs : List (List CellData)) (i : ℕ) → map (λ t. length t) ts ≡ map (λ c. length c) cs
    → i < length cs → length (get_or ts i []) ≡ length (get_or cs i [])
beside_at ts cs i e lt =
    let count = beside_count ts cs e in
    sym (get_or-map (λ (t : List ℕ). length t) ts i [] 0 (omega (arith, count, lt))) ∙ ap (λ (l : List ℕ). get_or l i 0) e
    ∙ get_or-map (λ (c : List CellData). length c) cs i [] 0 lt

pub beside_taken : (ts : List (List ℕ)) (cs : List (List CellData)) (i : ℕ) → map (λ t. length t) ts ≡ map (λ c. length c) cs
    → length (joined (take i ts)) ≡ length (flat (take i cs))
beside_taken ts cs i e = sym (sum-lens-take ts i) ∙ ap (λ (l : List ℕ). sum (take i l)) e ∙ sum-lens-take cs i

-- so it is in a text
pub beside_same : (ts : List (List ℕ)) (cs : List (List CellData)) (ls ss : List ℕ) (f : Option ChunkData) → IsText cs ls ss f
    → AreBeside ts ls → map (λ t. length t) ts ≡ map (λ c. length c) cs
beside_same ts cs ls ss f t b = sym b ∙ t.lens_are

pub beside_all : (ts : List (List ℕ)) (cs : List (List CellData)) (ls ss : List ℕ) (f : Option ChunkData) → IsText cs ls ss f
    → AreBeside ts ls → length (joined ts) ≡ length (flat cs)
beside_all ts cs ls ss f t b = sym (sum-lens ts) ∙ ap sum (sym b) ∙ text-len cs ls ss f t

-- characters that come in where their cells do
pub joined_put : (ts : List (List ℕ)) (cs : List (List CellData)) (ls ss : List ℕ) (f : Option ChunkData) (i o p : ℕ) (new : List ℕ)
    → IsText cs ls ss f → AreBeside ts ls → IsSeat cs i o p → joined (set ts i (put_in o new (get_or ts i []))) ≡ put_in p new (joined ts)
joined_put ts cs ls ss f i o p new t b s =
    let lt = s.chunk in
    let within = s.within in
    let place = s.place_is in
    let same = beside_same ts cs ls ss f t b in
    let count = beside_count ts cs same in
    let long = beside_at ts cs i same lt in
    let front = beside_taken ts cs i same in
    all_put ts i o p new (omega (arith, lt, count)) (omega (arith, within, long)) (omega (arith, place, front))

-- a chunk with more cells has as many more characters
pub beside_put : (ts : List (List ℕ)) (cs : List (List CellData)) (ls ss : List ℕ) (f : Option ChunkData) (i o n m : ℕ)
    (new d : List CellData) (t : List ℕ)
    → IsText cs ls ss f → AreBeside ts ls → i < length cs → o ≤ length (get_or cs i []) → d ≡ put_in o new (get_or cs i [])
    → length new ≡ m → n ≡ get_or ls i 0 → length t ≡ length d → AreBeside (set ts i t) (set ls i (n + m))
beside_put ts cs ls ss f i o n m new d t text b lt within is many n_is long =
    let more = ap (λ (c : List CellData). length c) is ∙ length-put o new (get_or cs i []) within in
    let had = len_at cs ls ss f i text lt in
    set_both ls (map (λ (c : List ℕ). length c) ts) i (n + m) (length t) b (omega (arith, more, had, n_is, many, long))
    ∙ sym (map-set (λ (c : List ℕ). length c) ts i t)

-- a chunk that is cut in two is cut with its characters
pub beside_cut : (ts : List (List ℕ)) (ls : List ℕ) (i n k u : ℕ) (lower upper : List ℕ) → AreBeside ts ls → k ≡ length lower
    → u ≡ length upper → AreBeside (insert (set ts i lower) n upper) (insert (set ls i k) n u)
beside_cut ts ls i n k u lower upper b is_lower is_upper =
    insert_both (set ls i k) (map (λ (c : List ℕ). length c) (set ts i lower)) n u (length upper)
    (set_both ls (map (λ (c : List ℕ). length c) ts) i k (length lower) b is_lower ∙ sym (map-set (λ (c : List ℕ). length c) ts i lower))
    is_upper
    ∙ sym (map-insert (λ (c : List ℕ). length c) (set ts i lower) n upper)

-- and no character changes
pub joined_cut : (ts : List (List ℕ)) (cs : List (List CellData)) (ls ss : List ℕ) (f : Option ChunkData) (i n k : ℕ)
    (was lower upper : List ℕ)
    → IsText cs ls ss f → AreBeside ts ls → i < length cs → n ≡ suc i → was ≡ get_or ts i [] → lower ≡ take k was → upper ≡ drop k was
    → joined (insert (set ts i lower) n upper) ≡ joined ts
joined_cut ts cs ls ss f i n k was lower upper t b lt next read low high =
    let count = beside_count ts cs (beside_same ts cs ls ss f t b) in
    let there : i < length ts = omega (arith, lt, count) in
    let l : lower ≡ take k (get_or ts i []) = low ∙ ap (λ (s : List ℕ). take k s) read in
    let u : upper ≡ drop k (get_or ts i []) = high ∙ ap (λ (s : List ℕ). drop k s) read in
    ap (λ d. joined (insert (set ts i d) n upper)) l ∙ ap (λ d. joined (insert (set ts i (take k (get_or ts i []))) n d)) u
    ∙ ap (λ ds. joined ds) (cut_is ts i k n there next) ∙ all_cut ts i k

-- how long both parts of a chunk that is cut in two are
pub parts_long : (cs : List (List CellData)) (ls ss : List ℕ) (f : Option ChunkData) (i k n : ℕ)
    (was lower upper : List CellData) (low high : List ℕ)
    → IsText cs ls ss f → i < length cs → was ≡ get_or cs i [] → k < length was → lower ≡ take k was → upper ≡ drop k was
    → n ≡ get_or ls i 0 → length low ≡ length lower → length high ≡ length upper → (k ≡ length low) × (n - k ≡ length high)
parts_long cs ls ss f i k n was lower upper low high t lt read less l u is ll hl =
    let had = len_at cs ls ss f i t lt in
    let long = ap (λ (s : List CellData). length s) read in
    let first = ap (λ (s : List CellData). length s) l in
    let second = ap (λ (s : List CellData). length s) u in (
      omega (arith, first, length-take k was, ll, less),
      omega (arith, second, length-drop k was, hl, less, had, long, is),
    )
