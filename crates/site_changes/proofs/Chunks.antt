-- Cells in chunks: those in front of a cell, with the cell, and how many of them are shown.
use Rattle.std.proofs.Common.{◌≡◌, ℕ, zero, suc, ◌+◌, ◌<◌, ◌≤◌, List, [], ◌∷◌, ◌++◌, Some, None, length, map, filter, take, drop, get_or, slice_get, inl, inr, sym, ap, ◌∙◌, arith, append_assoc, length-append}
use Rattle.std.proofs.lemmas.Bool.{cases_Bool}
use Rattle.std.proofs.lemmas.List.{drop-drop, length-take-le, take_more, get_or-map}
use Rattle.std.proofs.lemmas.List.Sums.{count_by-le-length, length-filter}
use Rattle.std.proofs.lemmas.List.Elements.{filter-append}
use Rattle.std.proofs.lemmas.Option.{get_or_from_slice_get}
use Rattle.ttf_form.specs.Cells.{CellData, cell_shown}
use Rattle.tombstone_text.specs.Chunks.{flat, flag_of, shown_in}
use Rattle.visible_view.proofs.CallerLemmas.{flat_more}

pub shown_few : (ds : List CellData) → shown_in ds ≤ length ds
shown_few ds = omega (arith, length-filter cell_shown ds, count_by-le-length cell_shown ds)

pub flag_small : (d : CellData) → flag_of d ≤ 1
flag_small d = elim (cases_Bool (cell_shown d)) [ inl e ↦ rw e (omega arith) | inr e ↦ rw e (omega arith) ]

pub front_few : (cs : List (List CellData)) (k : ℕ) → length (flat (take k cs)) ≤ length (flat cs)
front_few [] zero = omega arith
front_few [] (suc k) = omega arith
front_few (c ∷ cs) zero = omega arith
front_few (c ∷ cs) (suc k) =
    omega (arith, front_few cs k, length-append c (flat (take k cs)), length-append c (flat cs))

-- no more cells are shown in the first chunks than there are cells
pub chunks_few : (cs : List (List CellData)) (cells : List CellData) (k : ℕ) → flat cs ≡ cells → shown_in (flat (take k cs)) ≤ length cells
chunks_few cs cells k whole = omega (arith, shown_few (flat (take k cs)), front_few cs k, ap (λ (l : List CellData). length l) whole)

pub shown-append : (xs ys : List CellData) → shown_in (xs ++ ys) ≡ shown_in xs + shown_in ys
shown-append xs ys =
    ap (λ (l : List CellData). length l) (filter-append cell_shown xs ys) ∙ length-append (filter cell_shown xs) (filter cell_shown ys)

-- the shown cells of one chunk more
pub chunk_more : (cs : List (List CellData)) (k : ℕ) → k < length cs
    → shown_in (flat (take (k + 1) cs)) ≡ shown_in (flat (take k cs)) + shown_in (get_or cs k [])
chunk_more cs k lt = ap (λ (l : List CellData). shown_in l) (flat_more cs k lt) ∙ shown-append (flat (take k cs)) (get_or cs k [])

-- where so many cells of a chunk were read, the first that is left stands at that place, and those behind it are left next
pub first_at : (xs left : List CellData) (k : ℕ) (x : CellData) → left ≡ drop k xs → slice_get left 0 ≡ Some x → slice_get xs k ≡ Some x
first_at xs left k x e at = there xs k (ap (λ (l : List CellData). slice_get l 0) (sym e) ∙ at)
  where
    there : (ys : List CellData) (j : ℕ) → slice_get (drop j ys) 0 ≡ Some x → slice_get ys j ≡ Some x
    there [] zero f = f
    there [] (suc j) f = f
    there (y ∷ ys) zero f = f
    there (y ∷ ys) (suc j) f = there ys j f

pub left_rest : (xs left new : List CellData) (k : ℕ) → left ≡ drop k xs → new ≡ drop 1 left → new ≡ drop (k + 1) xs
left_rest xs left new k e less = less ∙ ap (λ (l : List CellData). drop 1 l) e ∙ drop-drop 1 k xs

-- the cell at a place of a chunk, behind the cells in front of it
module _ (cs : List (List CellData)) (k i : ℕ) (x : CellData) (lt : k < length cs) (at : slice_get (get_or cs k []) i ≡ Some x) where
  abbrev xs : List CellData
  xs = get_or cs k []

  within : i < length xs
  within = within_if xs i at
    where
      within_if : (ys : List CellData) (j : ℕ) → slice_get ys j ≡ Some x → j < length ys
      within_if [] j e = let none : None ≡ Some x = e in cc
      within_if (y ∷ ys) zero e = omega arith
      within_if (y ∷ ys) (suc j) e = omega (arith, within_if ys j e)

  is : get_or xs i x ≡ x
  is = get_or_from_slice_get xs i x x at

  pub front_more : flat (take k cs) ++ take (i + 1) xs ≡ (flat (take k cs) ++ take i xs) ++ x ∷ []
  front_more =
      ap (λ (l : List CellData). flat (take k cs) ++ l) (take_more xs i x within ∙ ap (λ (y : CellData). take i xs ++ y ∷ []) is)
      ∙ sym (append_assoc (flat (take k cs)) (take i xs) (x ∷ []))

  pub front_short : (cells : List CellData) → flat cs ≡ cells → length (flat (take k cs) ++ take i xs) < length cells
  front_short cells whole = omega (
    arith,
    within,
    length-take-le i xs (omega (arith, within)),
    length-append (flat (take k cs)) (take i xs),
    ap (λ (l : List CellData). length l) (flat_more cs k lt),
    length-append (flat (take k cs)) xs,
    front_few cs (k + 1),
    ap (λ (l : List CellData). length l) whole,
  )

  pub flag_there : (flags : List ℕ) → flags ≡ map flag_of xs → get_or flags i 0 ≡ flag_of x
  flag_there flags are =
      ap (λ (l : List ℕ). get_or l i 0) are ∙ get_or-map flag_of xs i x 0 within ∙ ap (λ (y : CellData). flag_of y) is
