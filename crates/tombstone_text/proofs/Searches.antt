-- The first cell that passes a test, found chunk by chunk; and what no place says of names and cells.
use Rattle.std.proofs.Common.{◌≡◌, ◌≢◌, ℕ, zero, suc, ◌+◌, ◌-◌, ◌<◌, ◌≤◌, ◌^◌, ◌==◌, ◌&&◌, Bool, true, false, not, cond, nat_lt, List, [], ◌∷◌, length, take, get_or, position, Option, Some, None, refl, sym, ap, ◌∙◌, subst, arith}
use Rattle.std.specs.Prelude.{Contains}
use Rattle.std.proofs.lemmas.Bool.Decides.{nat_tests}
use Rattle.std.specs.List.{sum, position_or_len}
use Rattle.std.proofs.lemmas.List.{length-append, get_or_read, get_or-map}
use Rattle.std.proofs.lemmas.List.Sums.{fails_before_first, position_or_len_is, passes_at_first}
use Rattle.std.proofs.lemmas.List.Concat.{get_or-flat_map}
use Rattle.op_name.specs.NameData.{NameData, name_eq}
use Rattle.ttf_form.specs.Names.{LacksName}
use Rattle.ttf_form.specs.Cells.{CellData, cell_key, cells_of}
use Rattle.ttf_form.specs.Laws.Deleters.{name_self, name_same}
use Rattle.ttf_form.specs.Laws.Cells.{length-cells}
use Rattle.tombstone_text.specs.declared.cell.CellId.{CellId}
use Rattle.tombstone_text.specs.Cells.{is_cell}
use Rattle.tombstone_text.specs.Chunks.{flat}
use Rattle.tombstone_text.specs.Code.Cells.{IsText}
use Rattle.tombstone_text.specs.Code.Chunks.{ChunkData, blank}
use Rattle.tombstone_text.proofs.Chunked.{text-len}
use Rattle.tombstone_text.proofs.Positions.{unplaced_behind, unplaced_at, placed_at}

lacks_behind : (n : NameData) (cs : List CellData) → length cs ≤ position_or_len (λ c. name_eq c.name n) cs → LacksName (cells_of cs) n
lacks_behind n [] h = tt
lacks_behind n (c ∷ cs) h = by (λ k. lacks_behind n cs k) (name_eq c.name n) refl h
  where
    by : (length cs ≤ position_or_len (λ (x : CellData). name_eq x.name n) cs → LacksName (cells_of cs) n)
        → (b : Bool) → name_eq c.name n ≡ b → suc (length cs) ≤ cond (not b) (1 + position_or_len (λ (x : CellData). name_eq x.name n) cs) 0
        → LacksName (cells_of (c ∷ cs)) n
    by rest true e le = absurd (omega arith)
    by rest false e le =
        let other : c.name ≢ n = λ same. let yes = ap (λ x. name_eq x n) same ∙ name_self n in cc in
        (other, rest (omega arith))

-- no cell has a name that stands at no place
pub lacks_unplaced : (n : NameData) (cs : List CellData) → position (λ c. name_eq c.name n) cs ≡ None → LacksName (cells_of cs) n
lacks_unplaced n cs e = lacks_behind n cs (unplaced_behind (λ (c : CellData). name_eq c.name n) cs e)

placed : (p : CellData → Bool) (cs : List CellData) (k : ℕ) → position_or_len p cs ≡ k → k < length cs → position p cs ≡ Some k
placed p cs k e lt = by (nat_lt (position_or_len p cs) (length cs)) refl
  where
    by : (b : Bool) → nat_lt (position_or_len p cs) (length cs) ≡ b → cond b (Some (position_or_len p cs)) None ≡ Some k
    by true h = ap (λ i. Some i) e
    by false h = absurd (grind (arith, nat_tests))

unplaced : (p : CellData → Bool) (cs : List CellData) → position_or_len p cs ≡ length cs → position p cs ≡ None
unplaced p cs e = by (nat_lt (position_or_len p cs) (length cs)) refl
  where
    by : (b : Bool) → nat_lt (position_or_len p cs) (length cs) ≡ b → cond b (Some (position_or_len p cs)) None ≡ None
    by true h = absurd (grind (arith, nat_tests))
    by false h = refl

-- a name that a cell has stands at a place
lacked_behind : (n : NameData) (cs : List CellData) → LacksName (cells_of cs) n → position_or_len (λ c. name_eq c.name n) cs ≡ length cs
lacked_behind n [] h = refl
lacked_behind n (c ∷ cs) h = by (name_eq c.name n) refl (lacked_behind n cs h.1)
  where
    by : (b : Bool) → name_eq c.name n ≡ b → position_or_len (λ (x : CellData). name_eq x.name n) cs ≡ length cs
        → cond (not b) (1 + position_or_len (λ (x : CellData). name_eq x.name n) cs) 0 ≡ suc (length cs)
    by true e rest = absurd (h.0 (name_same c.name n e))
    by false e rest = omega arith

pub lacked_unplaced : (n : NameData) (cs : List CellData) → LacksName (cells_of cs) n → position (λ c. name_eq c.name n) cs ≡ None
lacked_unplaced n cs h = unplaced (λ (c : CellData). name_eq c.name n) cs (lacked_behind n cs h)

itself : (n : NameData) (o : ℕ) → (name_eq n n && (o == o)) ≡ true
itself n o = ap (λ b. b && (o == o)) (name_self n) ∙ grind (arith, nat_tests)

-- a cell that stands at no place isn't there
pub cell_unplaced : (id : CellId) (cs : List CellData) → position (is_cell id) cs ≡ None → ¬ Contains (cells_of cs) (id.name, id.offset)
cell_unplaced id cs e there =
    let k = there.0 in
    let within : k < length cs = subst (λ m. k < m) (length-cells cs) there.1 in
    let len = unplaced_at (is_cell id) cs e in
    let out : is_cell id (get_or cs k blank) ≡ false = fails_before_first (is_cell id) cs k blank (omega arith) in
    let key : cell_key (get_or cs k blank) ≡ (id.name, id.offset) =
    sym (get_or-map cell_key cs k blank (id.name, id.offset) within) ∙ there.2 in
    let yes : is_cell id (get_or cs k blank) ≡ true =
    ap (λ (q : NameData × ℕ). name_eq q.0 id.name && (q.1 == id.offset)) key ∙ itself id.name id.offset in
    cc

-- no cell before the place passes
pub record NoneBefore (p : CellData → Bool) (cs : List CellData) (k : ℕ) : Type 0 where
  pub none : (j : ℕ) (d : CellData) → j < k → p (get_or cs j d) ≡ false

pub none_first : (p : CellData → Bool) (cs : List CellData) (k : ℕ) → k ≡ 0 → NoneBefore p cs k
none_first p cs k e = record { none = λ j d lt. absurd (omega arith) }

pub none_next : (p : CellData → Bool) (cs : List CellData) (k n : ℕ) → n ≡ k + 1 → NoneBefore p cs k
    → ((d : CellData) → p (get_or cs k d) ≡ false) → NoneBefore p cs n
none_next p cs k n e before out = record { none = λ j d lt. by j d lt (nat_lt j k) refl }
  where
    by : (j : ℕ) (d : CellData) → j < n → (t : Bool) → nat_lt j k ≡ t → p (get_or cs j d) ≡ false
    by j d lt true h = before.none j d (grind (arith, nat_tests))
    by j d lt false h = let same : j ≡ k = grind (arith, nat_tests) in ap (λ m. p (get_or cs m d)) same ∙ out d

-- the first cell that passes
pub found_at : (p : CellData → Bool) (cs : List CellData) (k : ℕ) → NoneBefore p cs k → k < length cs → p (get_or cs k blank) ≡ true
    → position p cs ≡ Some k
found_at p cs k before lt passes =
    placed p cs k (position_or_len_is p cs k blank (omega arith) (λ j l. before.none j blank l) (λ l. passes)) lt

pub length-more : (cs : List (List CellData)) (i : ℕ) → i < length cs
    → length (flat (take (i + 1) cs)) ≡ length (flat (take i cs)) + length (get_or cs i [])
length-more [] i lt = absurd (omega arith)
length-more (c ∷ cs) zero lt = omega (arith, length-append c [])
length-more (c ∷ cs) (suc i) lt =
    let rest = length-more cs i (omega arith) in
    let next : suc i + 1 ≡ suc (i + 1) = omega arith in
    ap (λ k. length (flat (take k (c ∷ cs)))) next
    ∙ omega (arith, length-append c (flat (take (i + 1) cs)), length-append c (flat (take i cs)))

pub none_more : (p : CellData → Bool) (cs : List (List CellData)) (i start : ℕ) → i < length cs → start ≡ length (flat (take i cs))
    → NoneBefore p (flat cs) start
    → position p (get_or cs i []) ≡ None → NoneBefore p (flat cs) (start + length (get_or cs i []))
none_more p cs i start lt at before e =
    record { none = λ j d l. by j d l (nat_lt j start) refl }
  where
    by : (j : ℕ) (d : CellData) → j < start + length (get_or cs i []) → (b : Bool) → nat_lt j start ≡ b
        → p (get_or (flat cs) j d) ≡ false
    by j d l true h = before.none j d (grind (arith, nat_tests))
    by j d l false h =
        let low : start ≤ j = grind (arith, nat_tests) in
        let len = unplaced_at p (get_or cs i []) e in
        let here : j ≡ length (flat (take i cs)) + (j - start) = omega arith in
        ap (λ k. p (get_or (flat cs) k d)) here
        ∙ ap p (get_or-flat_map (λ (c : List CellData). c) cs i (j - start) [] d lt (omega arith))
        ∙ fails_before_first p (get_or cs i []) (j - start) d (omega arith)

pub placed_in : (p : CellData → Bool) (cs : List (List CellData)) (i start at : ℕ) → i < length cs → start ≡ length (flat (take i cs))
    → NoneBefore p (flat cs) start
    → position p (get_or cs i []) ≡ Some at → at < length (get_or cs i [])
    → start + at < length (flat cs)
    → position p (flat cs) ≡ Some (start + at)
placed_in p cs i start at lt is before e within all =
    placed p (flat cs) (start + at)
    (position_or_len_is p (flat cs) (start + at) blank (omega arith) none (λ l. there)) all
  where
    first : at ≡ position_or_len p (get_or cs i [])
    first = placed_at p (get_or cs i []) at e

    there : p (get_or (flat cs) (start + at) blank) ≡ true
    there =
        let here : start + at ≡ length (flat (take i cs)) + at = omega arith in
        ap (λ k. p (get_or (flat cs) k blank)) here
        ∙ ap p (get_or-flat_map (λ (c : List CellData). c) cs i at [] blank lt within)
        ∙ ap (λ k. p (get_or (get_or cs i []) k blank)) first
        ∙ passes_at_first p (get_or cs i []) blank
        (subst (λ k. k < length (get_or cs i [])) first within)

    none : (k : ℕ) → k < start + at → p (get_or (flat cs) k blank) ≡ false
    none k l = by (nat_lt k start) refl
      where
        by : (b : Bool) → nat_lt k start ≡ b → p (get_or (flat cs) k blank) ≡ false
        by true h = before.none k blank (grind (arith, nat_tests))
        by false h =
            let low : start ≤ k = grind (arith, nat_tests) in
            let here : k ≡ length (flat (take i cs)) + (k - start) = omega arith in
            ap (λ m. p (get_or (flat cs) m blank)) here
            ∙ ap p
            (get_or-flat_map (λ (c : List CellData). c) cs i (k - start) [] blank lt (omega arith))
            ∙ fails_before_first p (get_or cs i []) (k - start) blank
            (subst (λ m. k - start < m) first (omega arith))

pub none_at_all : (p : CellData → Bool) (cs : List CellData) (k : ℕ) → k ≡ length cs → NoneBefore p cs k
    → position p cs ≡ None
none_at_all p cs k e before =
    unplaced p cs
    (position_or_len_is p cs (length cs) blank (omega arith) (λ j l. before.none j blank (omega arith))
    (λ l. absurd (omega arith)))

pub taken-le : (cs : List (List CellData)) (i : ℕ) → length (flat (take i cs)) ≤ length (flat cs)
taken-le cs zero = omega arith
taken-le [] (suc i) = omega arith
taken-le (c ∷ cs) (suc i) = let rest = taken-le cs i in omega (arith, length-append c (flat (take i cs)), length-append c (flat cs))

pub placed_within : (p : CellData → Bool) (xs : List CellData) (i : ℕ) → position p xs ≡ Some i → i < length xs
placed_within p xs i e = by (nat_lt (position_or_len p xs) (length xs)) refl e
  where
    by : (b : Bool) → nat_lt (position_or_len p xs) (length xs) ≡ b
        → cond b (Some (position_or_len p xs)) None ≡ Some i → i < length xs
    by true h f =
        let at : position_or_len p xs ≡ i = cc in
        subst (λ k. k < length xs) at (grind (arith, nat_tests))
    by false h f = cc

-- a chunk that is searched, with those before it
pub record IsSearched (cs : List (List CellData)) (i start : ℕ) (chunk : List CellData) : Type 0 where
  pub chunk_is : chunk ≡ get_or cs i []
  pub behind : start + length chunk ≡ length (flat (take (i + 1) cs))
  pub all : start + length chunk ≤ length (flat cs)
  pub low : start + length chunk < 2 ^ 32

pub searched : (cs : List (List CellData)) (ls ss : List ℕ) (f : Option ChunkData) (i start : ℕ) (was chunk : List CellData)
    → IsText cs ls ss f → sum ls < 2 ^ 32 → i < length cs
    → start ≡ length (flat (take i cs)) → was ≡ get_or cs i was → chunk ≡ was → IsSearched cs i start chunk
searched cs ls ss f i start was chunk t low lt at read is =
    let same : chunk ≡ get_or cs i [] = is ∙ get_or_read cs i was lt read [] in
    let long = ap (λ (s : List CellData). length s) same in
    let more = length-more cs i lt in
    let most = taken-le cs (i + 1) in
    let all = text-len cs ls ss f t in
    record { chunk_is = same; behind = omega arith; all = omega arith; low = omega arith }

-- where the search of a chunk finds a cell
pub found_in : (p : CellData → Bool) (cs : List (List CellData)) (i at : ℕ) (chunk : List CellData) → chunk ≡ get_or cs i []
    → position p chunk ≡ Some at
    → (position p (get_or cs i []) ≡ Some at) × (at < length chunk)
found_in p cs i at chunk is e =
    (ap (λ (s : List CellData). position p s) (sym is) ∙ e, placed_within p chunk at e)
