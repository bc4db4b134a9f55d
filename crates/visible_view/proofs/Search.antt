-- The v-th shown cell is the one that has v shown ones before it; by chunks, and by the flags of one chunk.
use Rattle.std.proofs.Common.{◌≡◌, ℕ, zero, suc, ◌+◌, ◌<◌, ◌≤◌, Bool, true, false, Some, None, List, [], ◌∷◌, filter, take, length, slice_get, get_or, refl, sym, ap, ◌∙◌, arith}
use Rattle.std.proofs.lemmas.List.{take_all, length-map, length-append, length-take, get_or-map, get_or_default, take-map, take-append-le}
use Rattle.std.proofs.Math.Seq.{take-append-add}
use Rattle.std.proofs.Common.{◌++◌, append_assoc, map, if◌then◌else◌}
use Rattle.std.specs.List.{sum}
use Rattle.std.proofs.lemmas.List.Concat.{get_or-flat_map, length-flat_map}
use Rattle.std.proofs.lemmas.List.Sums.{sum-map, count_by-le-length, length-filter}
use Rattle.std.proofs.lemmas.List.Elements.{filter-append}
use Rattle.lane_rank.specs.Ones.{ones_of, IsSelected}
use Rattle.tombstone_text.specs.Chunks.{flat, flag_of, shown_in}
use Rattle.tombstone_text.specs.Sums.{IsPart}
use Rattle.tombstone_text.specs.Code.Chunks.{blank}
use Rattle.tombstone_text.proofs.CallerLemmas.{ones-flags, sum-shown}
use Rattle.std.proofs.lemmas.Option.{slice_get_past}
use Rattle.ttf_form.specs.Cells.{CellData, cell_shown}
use Rattle.visible_view.specs.View.{shown_cells, shown_places}
use Rattle.visible_view.proofs.ShownPlaces.{shown_at, length-places}

-- so many shown cells stand in front of the place
abbrev pub shown_before : List CellData → ℕ → ℕ
shown_before cs place = length (shown_cells (take place cs))

-- whether the cell at the place is shown
abbrev pub TellsShown : List CellData → ℕ → Bool → Type 0
TellsShown cs place b = (c : CellData) → place < length cs → cell_shown (get_or cs place c) ≡ b

-- no more than the cells there
pub before_few : (cs : List CellData) (place : ℕ) → shown_before cs place ≤ place
before_few cs place =
    omega (arith, length-filter cell_shown (take place cs), count_by-le-length cell_shown (take place cs), length-take place cs)

pub found_at : (cs : List CellData) (place v : ℕ) → place < length cs → TellsShown cs place true → shown_before cs place ≡ v
    → slice_get (shown_places cs) v ≡ Some place
found_at cs place v lt tells e =
    ap (λ k. slice_get (shown_places cs) k) (sym e) ∙ shown_at 0 cs place blank lt (tells blank lt) ∙ ap (λ k. Some k) (omega arith)

pub before_end : (cs : List CellData) (n : ℕ) → n ≡ length cs → shown_before cs n ≡ length (shown_cells cs)
before_end cs n e = ap (λ xs. length (shown_cells xs)) (take_all n cs (omega arith))

pub none_at : (cs : List CellData) (v : ℕ) → length (shown_cells cs) ≤ v → slice_get (shown_places cs) v ≡ None
none_at cs v le = slice_get_past (shown_places cs) v (let e = length-places 0 cs in omega arith)

-- the cells in front of a place in a chunk
pub flat_take : (cs : List (List CellData)) (i o p : ℕ) → i < length cs → o ≤ length (get_or cs i []) → length (flat (take i cs)) + o ≡ p
    → take p (flat cs) ≡ flat (take i cs) ++ take o (get_or cs i [])
flat_take [] i o p lt le e = absurd (omega arith)
flat_take (c ∷ cs) zero o p lt le e =
    let z : 0 + o ≡ p = e in
    let same : p ≡ o = omega arith in
    ap (λ k. take k (c ++ flat cs)) same ∙ take-append-le o c (flat cs) le
flat_take (c ∷ cs) (suc i) o p lt le e =
    let long = length-append c (flat (take i cs)) in
    let here : p ≡ length c + (length (flat (take i cs)) + o) = omega arith in
    ap (λ k. take k (c ++ flat cs)) here
    ∙ take-append-add c (flat cs) (length (flat (take i cs)) + o)
    ∙ ap (λ (zs : List CellData). c ++ zs) (flat_take cs i o (length (flat (take i cs)) + o) (omega arith) le refl)
    ∙ sym (append_assoc c (flat (take i cs)) (take o (get_or cs i [])))

-- the cells of the chunks in front of one
front_long : (cs : List (List CellData)) (i : ℕ) → sum (take i (map (λ c. length c) cs)) ≡ length (flat (take i cs))
front_long cs i =
    ap sum (take-map (λ (c : List CellData). length c) i cs) ∙ sum-map (λ (c : List CellData). length c) (take i cs)
    ∙ sym (length-flat_map (λ (c : List CellData). c) (take i cs))

-- the chunk of a place is there, and long enough
pub part_there : (cs : List (List CellData)) (i o p : ℕ) → IsPart (map (λ c. length c) cs) i o p
    → (i < length cs) × (o < length (get_or cs i []))
part_there cs i o p part =
    let lt : i < length cs = omega (arith, part.part, length-map cs (λ (c : List CellData). length c)) in
    (lt, omega (arith, part.within, get_or-map (λ (c : List CellData). length c) cs i [] 0 lt))

-- the shown cells in front of a place in a chunk: those of the chunks in front of it, and those that its flags tell
pub front_count : (cs : List (List CellData)) (i o p : ℕ) → i < length cs → o ≤ length (get_or cs i []) → length (flat (take i cs)) + o ≡ p
    → shown_before (flat cs) p ≡ shown_in (flat (take i cs)) + ones_of (take o (map flag_of (get_or cs i [])))
front_count cs i o p lt le e =
    ap (λ (s : List CellData). length (filter cell_shown s)) (flat_take cs i o p lt le e)
    ∙ ap (λ (s : List CellData). length s) (filter-append cell_shown (flat (take i cs)) (take o (get_or cs i [])))
    ∙ length-append (filter cell_shown (flat (take i cs))) (filter cell_shown (take o (get_or cs i [])))
    ∙ ap (λ n. shown_in (flat (take i cs)) + n)
    (sym (ones-flags (take o (get_or cs i []))) ∙ ap ones_of (sym (take-map flag_of o (get_or cs i []))))

-- the same of the cell at a place of the text
pub part_count : (cs : List (List CellData)) (i o p : ℕ) → IsPart (map (λ c. length c) cs) i o p
    → shown_before (flat cs) p ≡ shown_in (flat (take i cs)) + ones_of (take o (map flag_of (get_or cs i [])))
part_count cs i o p part =
    let there = part_there cs i o p part in
    front_count cs i o p there.0 (omega (arith, there.1)) (omega (arith, front_long cs i, part.place))

flag_shown : (c : CellData) (b : Bool) → flag_of c ≡ 1 → cell_shown c ≡ b → b ≡ true
flag_shown c true e s = refl
flag_shown c false e s = let no : flag_of c ≡ 0 = ap (λ t. if t then 1 else 0) s in absurd (omega arith)

pub length-flat-spot : (ds : List (List CellData)) (j o : ℕ) → j < length ds → o < length (get_or ds j [])
    → length (flat (take j ds)) + o < length (flat ds)
length-flat-spot [] j o l w = absurd (omega arith)
length-flat-spot (d ∷ ds) zero o l w = omega (arith, length-append d (flat ds))
length-flat-spot (d ∷ ds) (suc j) o l w =
    let rest = length-flat-spot ds j o (omega arith) w in
    omega (arith, length-append d (flat ds), length-append d (flat (take j ds)))

-- the one after so many in the flags of its chunk is the v-th shown cell
pub found_in_chunk : (cs : List (List CellData)) (i before at start v : ℕ) → IsPart (map shown_in cs) i before v
    → IsSelected (map flag_of (get_or cs i [])) before at → start ≡ length (flat (take i cs))
    → slice_get (shown_places (flat cs)) v ≡ Some (start + at)
found_in_chunk cs i before at start v part one from =
    let lt : i < length cs = let l = part.part in omega (arith, length-map cs shown_in) in
    let within : at < length (get_or cs i []) = let w = one.within in omega (arith, length-map (get_or cs i []) flag_of) in
    let place : start + at ≡ length (flat (take i cs)) + at = omega arith in
    let long = length-flat-spot cs i at lt within in
    let there : start + at < length (flat cs) = omega arith in
    let shown : cell_shown (get_or (get_or cs i []) at blank) ≡ true =
    flag_shown (get_or (get_or cs i []) at blank) (cell_shown (get_or (get_or cs i []) at blank))
    (sym (get_or-map flag_of (get_or cs i []) at blank 0 within) ∙ one.one) refl in
    let tells : TellsShown (flat cs) (start + at) true =
    λ c l. ap (λ k. cell_shown (get_or (flat cs) k c)) place
    ∙ ap (λ (d : CellData). cell_shown d)
    (get_or-flat_map (λ (d : List CellData). d) cs i at [] c lt within ∙ get_or_default (get_or cs i []) at c blank within)
    ∙ shown in
    let front = front_count cs i at (start + at) lt (omega arith) (sym place) in
    let sums : sum (take i (map shown_in cs)) ≡ shown_in (flat (take i cs)) = ap sum (take-map shown_in i cs) ∙ sum-shown (take i cs) in
    let sought = part.place in
    let count = one.before in
    found_at (flat cs) (start + at) v there tells (omega arith)

-- there is one
pub one_there : (cs : List (List CellData)) (i before v : ℕ) → IsPart (map shown_in cs) i before v
    → ones_of (map flag_of (get_or cs i [])) ≤ before → ⊥
one_there cs i before v part le =
    let lt : i < length cs = let l = part.part in omega (arith, length-map cs shown_in) in
    let w = part.within in
    let n = get_or-map shown_in cs i [] 0 lt in
    let m = ones-flags (get_or cs i []) in
    omega arith
