-- Cells in chunks: where the cell at a place stands, and how many shown ones stand in front of it.
use Rattle.std.proofs.Common.{◌≡◌, ℕ, zero, suc, ◌+◌, ◌-◌, ◌<◌, ◌≤◌, List, [], ◌∷◌, ◌++◌, cond, map, filter, take, drop, length, get_or, slice_get, sym, ap, ◌∙◌, arith, refl, append_assoc, append-nil}
use Rattle.std.specs.List.{sum}
use Rattle.std.proofs.Math.Seq.{take-append-add}
use Rattle.std.proofs.lemmas.List.{length-append, length-drop, length-map, length-take, get_or-map, take-append-le, take-map, take_all}
use Rattle.std.proofs.lemmas.List.Concat.{length-flat_map}
use Rattle.std.proofs.lemmas.List.Elements.{filter-append}
use Rattle.std.proofs.lemmas.List.Sums.{count_by-le-length, length-filter, sum-map, sum_by-take-drop}
use Rattle.lane_rank.specs.Ones.{is_one, ones_of}
use Rattle.ttf_form.specs.Cells.{CellData, cell_shown}
use Rattle.tombstone_text.specs.Chunks.{flat, flag_of, shown_in}
use Rattle.tombstone_text.specs.Sums.{IsPart}
use Rattle.tombstone_text.proofs.CallerLemmas.{ones-flags}

-- ---- the cell at a place of a chunk

get_left : (xs ys : List CellData) (k : ℕ) → k < length xs → slice_get (xs ++ ys) k ≡ slice_get xs k
get_left [] ys k lt = absurd (omega (arith, lt))
get_left (x ∷ xs) ys zero lt = refl
get_left (x ∷ xs) ys (suc k) lt = get_left xs ys k (omega (arith, lt))

get_right : (xs ys : List CellData) (k n : ℕ) → length xs + k ≡ n → slice_get (xs ++ ys) n ≡ slice_get ys k
get_right [] ys k n e = let z : 0 + k ≡ n = e in let same : n ≡ k = omega arith in ap (λ m. slice_get ys m) same
get_right (x ∷ xs) ys k zero e = absurd (omega (arith, e))
get_right (x ∷ xs) ys k (suc n) e = get_right xs ys k n (omega (arith, e))

flat_get : (cs : List (List CellData)) (i o p : ℕ) → i < length cs → o < length (get_or cs i []) → length (flat (take i cs)) + o ≡ p
    → slice_get (flat cs) p ≡ slice_get (get_or cs i []) o
flat_get [] i o p lt le e = absurd (omega (arith, lt))
flat_get (c ∷ cs) zero o p lt le e =
    let z : 0 + o ≡ p = e in
    let at : p ≡ o = omega arith in
    ap (λ k. slice_get (c ++ flat cs) k) at ∙ get_left c (flat cs) o le
flat_get (c ∷ cs) (suc i) o p lt le e =
    let here : length c + (length (flat (take i cs)) + o) ≡ p = omega (arith, e, length-append c (flat (take i cs))) in
    get_right c (flat cs) (length (flat (take i cs)) + o) p here
    ∙ flat_get cs i o (length (flat (take i cs)) + o) (omega (arith, lt)) le refl

-- the cells of the chunks in front of one
front_long : (cs : List (List CellData)) (i : ℕ) → sum (take i (map (λ c. length c) cs)) ≡ length (flat (take i cs))
front_long cs i =
    ap sum (take-map (λ (c : List CellData). length c) i cs) ∙ sum-map (λ (c : List CellData). length c) (take i cs)
    ∙ sym (length-flat_map (λ (c : List CellData). c) (take i cs))

-- the chunk of a place is there, and long enough, and its cell is the one at the place
pub part_there : (cs : List (List CellData)) (i o p : ℕ) → IsPart (map (λ c. length c) cs) i o p
    → (i < length cs) × (o < length (get_or cs i []))
part_there cs i o p part =
    let lt : i < length cs = omega (arith, part.part, length-map cs (λ (c : List CellData). length c)) in
    (lt, omega (arith, part.within, get_or-map (λ (c : List CellData). length c) cs i [] 0 lt))

place_is : (cs : List (List CellData)) (i o p : ℕ) → IsPart (map (λ c. length c) cs) i o p → length (flat (take i cs)) + o ≡ p
place_is cs i o p part = omega (arith, front_long cs i, part.place)

pub part_get : (cs : List (List CellData)) (i o p : ℕ) → IsPart (map (λ c. length c) cs) i o p
    → slice_get (flat cs) p ≡ slice_get (get_or cs i []) o
part_get cs i o p part =
    let there = part_there cs i o p part in flat_get cs i o p there.0 there.1 (place_is cs i o p part)

-- ---- the shown cells in front of it

flat_take : (cs : List (List CellData)) (i o p : ℕ) → i < length cs → o ≤ length (get_or cs i []) → length (flat (take i cs)) + o ≡ p
    → take p (flat cs) ≡ flat (take i cs) ++ take o (get_or cs i [])
flat_take [] i o p lt le e = absurd (omega (arith, lt))
flat_take (c ∷ cs) zero o p lt le e =
    let z : 0 + o ≡ p = e in
    let same : p ≡ o = omega arith in
    ap (λ k. take k (c ++ flat cs)) same ∙ take-append-le o c (flat cs) le
flat_take (c ∷ cs) (suc i) o p lt le e =
    let long = length-append c (flat (take i cs)) in
    let here : p ≡ length c + (length (flat (take i cs)) + o) = omega (arith, e, long) in
    ap (λ k. take k (c ++ flat cs)) here
    ∙ take-append-add c (flat cs) (length (flat (take i cs)) + o)
    ∙ ap (λ (zs : List CellData). c ++ zs) (flat_take cs i o (length (flat (take i cs)) + o) (omega (arith, lt)) le refl)
    ∙ sym (append_assoc c (flat (take i cs)) (take o (get_or cs i [])))

shown-append : (xs ys : List CellData) → shown_in (xs ++ ys) ≡ shown_in xs + shown_in ys
shown-append xs ys =
    ap (λ (l : List CellData). length l) (filter-append cell_shown xs ys) ∙ length-append (filter cell_shown xs) (filter cell_shown ys)

-- those of the chunks in front of it, and those that the flags of its own tell
spot_shown : (cs : List (List CellData)) (i o p : ℕ) → i < length cs → o < length (get_or cs i []) → length (flat (take i cs)) + o ≡ p
    → shown_in (flat (take i cs)) + ones_of (take o (map flag_of (get_or cs i []))) ≡ shown_in (take p (flat cs))
spot_shown cs i o p lt le e =
    let mine = take o (get_or cs i []) in
    ap (λ n. shown_in (flat (take i cs)) + n) (ap ones_of (take-map flag_of o (get_or cs i [])) ∙ ones-flags mine)
    ∙ sym (shown-append (flat (take i cs)) mine)
    ∙ ap (λ (l : List CellData). shown_in l) (sym (flat_take cs i o p lt (omega (arith, le)) e))

pub part_shown : (cs : List (List CellData)) (i o p : ℕ) → IsPart (map (λ c. length c) cs) i o p
    → shown_in (flat (take i cs)) + ones_of (take o (map flag_of (get_or cs i []))) ≡ shown_in (take p (flat cs))
part_shown cs i o p part =
    let there = part_there cs i o p part in spot_shown cs i o p there.0 there.1 (place_is cs i o p part)

-- they are no more than all cells
pub spot_few : (cs : List (List CellData)) (i o : ℕ) → i < length cs → o < length (get_or cs i [])
    → shown_in (flat (take i cs)) + ones_of (take o (map flag_of (get_or cs i []))) ≤ length (flat cs)
spot_few cs i o lt le =
    let p = length (flat (take i cs)) + o in
    let some = take p (flat cs) in
    omega (
      arith,
      spot_shown cs i o p lt le refl,
      length-filter cell_shown some,
      count_by-le-length cell_shown some,
      length-take p (flat cs),
    )

-- the flags in front of a place and those behind it are all
pub ones_parts : (fs : List ℕ) (k : ℕ) → ones_of (take k fs) + ones_of (take (length fs - k) (drop k fs)) ≡ ones_of fs
ones_parts fs k =
    ap (λ (gs : List ℕ). ones_of (take k fs) + ones_of gs) (take_all (length fs - k) (drop k fs) (omega (arith, length-drop k fs)))
    ∙ sum_by-take-drop (λ x. cond (is_one x) 1 0) fs k

-- ---- the last chunk

-- all cells are those of the chunks in front of the last one, and its own
flat_last : (cs : List (List CellData)) (k : ℕ) → k + 1 ≡ length cs → flat cs ≡ flat (take k cs) ++ get_or cs k []
flat_last [] k e = absurd (omega (arith, e))
flat_last (c ∷ []) zero e = append-nil c
flat_last (c ∷ d ∷ ds) zero e = absurd (omega (arith, e))
flat_last (c ∷ cs) (suc k) e =
    ap (λ (l : List CellData). c ++ l) (flat_last cs k (omega (arith, e))) ∙ sym (append_assoc c (flat (take k cs)) (get_or cs k []))

pub last_long : (cs : List (List CellData)) (k : ℕ) → k + 1 ≡ length cs
    → length (flat (take k cs)) + length (get_or cs k []) ≡ length (flat cs)
last_long cs k e =
    sym (ap (λ (l : List CellData). length l) (flat_last cs k e) ∙ length-append (flat (take k cs)) (get_or cs k []))

-- a place from the start of the last chunk on is in it
pub last_part : (cs : List (List CellData)) (k o p : ℕ) → k + 1 ≡ length cs → length (flat (take k cs)) + o ≡ p → p < length (flat cs)
    → IsPart (map (λ c. length c) cs) k o p
last_part cs k o p e at lt =
    let there : k < length cs = omega (arith, e) in
    record {
      part = omega (arith, there, length-map cs (λ (c : List CellData). length c));
      within = omega (arith, get_or-map (λ (c : List CellData). length c) cs k [] 0 there, at, lt, last_long cs k e);
      place = omega (arith, front_long cs k, at);
    }

-- where there is a cell there is a chunk
pub some_chunk : (cs : List (List CellData)) (p : ℕ) → p < length (flat cs) → 1 ≤ length cs
some_chunk [] p lt = absurd (omega (arith, lt))
some_chunk (c ∷ cs) p lt = omega arith
