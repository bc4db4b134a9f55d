-- The n-th cell that a context has, chunk by chunk and cell by cell.
use Rattle.std.proofs.Common.{◌≡◌, ℕ, zero, suc, ◌+◌, ◌-◌, ◌<◌, ◌≤◌, true, false, if◌then◌else◌, List, [], ◌∷◌, ◌++◌, Option, Some, None, length, drop, get_or, slice_get, refl, ap, sym, ◌∙◌, arith}
use Rattle.std.proofs.lemmas.List.{at_drop_more, at_drop_all, map-append}
use Rattle.op_name.specs.declared.member.Member.TheVariants.{Original}
use Rattle.context_vector.specs.Contexts.{ContextData, has}
use Rattle.context_diff.specs.Replays.{Cell}
use Rattle.ttf_form.specs.Cells.{CellData, cell_key, cells_of}
use Rattle.tombstone_text.specs.Chunks.{flat}
use Rattle.transform_rec.proofs.CallerLemmas.{filter-append}
use Rattle.char_marks.specs.Code.Cells.{seen_among}

-- what the context has of these cells
abbrev pub seen_of : ContextData → List CellData → List Cell
seen_of c cs = seen_among c (cells_of cs)

-- ---- cell by cell

read_one : (left new : List CellData) (x : CellData) → Some x ≡ slice_get left 0 → new ≡ drop 1 left → left ≡ x ∷ new
read_one [] new x at less = let none : Some x ≡ None = at in absurd (cc)
read_one (y ∷ ys) new x at less =
    let is : y ≡ x = (let same : Some x ≡ Some y = at in cc) in
    ap (λ (z : CellData). z ∷ ys) is ∙ ap (λ (l : List CellData). x ∷ l) (sym less)

seen_first : (c : ContextData) (x : CellData) (new : List CellData) → has c (Original x.name) ≡ true
    → seen_of c (x ∷ new) ≡ cell_key x ∷ seen_of c new
seen_first c x new e = ap (λ b. if b then cell_key x ∷ seen_of c new else seen_of c new) e

seen_skip : (c : ContextData) (x : CellData) (new : List CellData) → has c (Original x.name) ≡ false
    → seen_of c (x ∷ new) ≡ seen_of c new
seen_skip c x new e = ap (λ b. if b then cell_key x ∷ seen_of c new else seen_of c new) e

-- so many are still to be passed of what is left
pub record IsLeft (c : ContextData) (all : List CellData) (n : ℕ) (left : List CellData) (more : ℕ) : Type 0 where
  pub at : slice_get (seen_of c all) n ≡ slice_get (seen_of c left) more
  pub count : n + length (seen_of c left) ≡ more + length (seen_of c all)

none_first : (left : List CellData) → None ≡ slice_get left 0 → left ≡ []
none_first [] at = refl
none_first (y ∷ ys) at = let some : None ≡ Some y = at in absurd (cc)

pub left_none : (c : ContextData) (all left : List CellData) (n more : ℕ) → IsLeft c all n left more → None ≡ slice_get left 0
    → n ≡ length (seen_of c all) + more
left_none c all left n more is at =
    let long = ap (λ (l : List CellData). length (seen_of c l)) (none_first left at) in
    omega (arith, is.count, long)

-- ---- chunk by chunk

seen-append : (c : ContextData) (xs ys : List CellData) → seen_of c (xs ++ ys) ≡ seen_of c xs ++ seen_of c ys
seen-append c xs ys =
    ap (seen_among c) (map-append cell_key xs ys) ∙ filter-append (λ (d : Cell). has c (Original d.0)) (cells_of xs) (cells_of ys)

-- what the context has of a chunk, and of those behind it
pub chunks_seen : (c : ContextData) (chunks : List (List CellData)) (i : ℕ) → i < length chunks
    → seen_of c (flat (drop i chunks)) ≡ seen_of c (get_or chunks i []) ++ seen_of c (flat (drop (i + 1) chunks))
chunks_seen c chunks i lt =
    at_drop_more (λ (l : List (List CellData)). seen_of c (flat l)) chunks i [] lt
    ∙ seen-append c (get_or chunks i []) (flat (drop (i + 1) chunks))

get_behind : (xs ys : List Cell) (n : ℕ) → slice_get (xs ++ ys) (length xs + n) ≡ slice_get ys n
get_behind [] ys n = let same : length {A = Cell} [] + n ≡ n = omega arith in ap (slice_get ys) same
get_behind (x ∷ xs) ys n =
    let same : length (x ∷ xs) + n ≡ suc (length xs + n) = omega arith in
    ap (slice_get (x ∷ (xs ++ ys))) same ∙ get_behind xs ys n

get_within : (xs ys : List Cell) (n : ℕ) (x : Cell) → slice_get xs n ≡ Some x → slice_get (xs ++ ys) n ≡ Some x
get_within [] ys n x e = let none : ◌≡◌ {A = Option Cell} None (Some x) = e in absurd (cc)
get_within (y ∷ xs) ys zero x e = e
get_within (y ∷ xs) ys (suc n) x e = get_within xs ys n x e

pub chunk_passed : (c : ContextData) (chunks : List (List CellData)) (i left more : ℕ) → i < length chunks
    → left ≡ length (seen_of c (get_or chunks i [])) + more
    → slice_get (seen_of c (flat (drop i chunks))) left ≡ slice_get (seen_of c (flat (drop (i + 1) chunks))) more
chunk_passed c chunks i left more lt e =
    ap (λ (l : List Cell). slice_get l left) (chunks_seen c chunks i lt)
    ∙ (ap (λ (k : ℕ). slice_get (seen_of c (get_or chunks i []) ++ seen_of c (flat (drop (i + 1) chunks))) k) e
    ∙ get_behind (seen_of c (get_or chunks i [])) (seen_of c (flat (drop (i + 1) chunks))) more)

pub chunk_found : (c : ContextData) (chunks : List (List CellData)) (i left : ℕ) (x : Cell) → i < length chunks
    → slice_get (seen_of c (get_or chunks i [])) left ≡ Some x
    → slice_get (seen_of c (flat (drop i chunks))) left ≡ Some x
chunk_found c chunks i left x lt e =
    ap (λ (l : List Cell). slice_get l left) (chunks_seen c chunks i lt)
    ∙ get_within (seen_of c (get_or chunks i [])) (seen_of c (flat (drop (i + 1) chunks))) left x e
