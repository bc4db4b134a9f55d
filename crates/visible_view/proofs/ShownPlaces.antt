-- The places of the shown cells: how many, where each is, and which cell stands there.
use Rattle.std.proofs.Common.{◌≡◌, ℕ, zero, suc, ◌+◌, ◌-◌, ◌<◌, Bool, true, false, cond, if◌then◌else◌, Option, Some, None, is_some, IsSome, IfSome, option_map, List, [], ◌∷◌, map, take, length, slice_get, get_or, refl, sym, ap, ◌∙◌, arith}
use Rattle.ttf_form.specs.Cells.{CellData, cell_shown}
use Rattle.op_name.specs.Lists.{places_from}
use Rattle.visible_view.specs.View.{shown_cells, shown_places, places_after}

either : (b : Bool) (n : ℕ) (c : CellData) (ps : List ℕ) (cs : List CellData) → length ps ≡ length cs
    → length (if b then n ∷ ps else ps) ≡ length (cond b (c ∷ cs) cs)
either true n c ps cs e = ap suc e
either false n c ps cs e = e

pub length-places : (n : ℕ) (cs : List CellData) → length (places_from cell_shown n cs) ≡ length (shown_cells cs)
length-places n [] = refl
length-places n (c ∷ cs) = either (cell_shown c) n c (places_from cell_shown (suc n) cs) (shown_cells cs) (length-places (suc n) cs)

further : (b : Bool) (n : ℕ) (c : CellData) (ps : List ℕ) (cs : List CellData) (o : Option ℕ) → slice_get ps (length cs) ≡ o
    → slice_get (if b then n ∷ ps else ps) (length (cond b (c ∷ cs) cs)) ≡ o
further true n c ps cs o e = e
further false n c ps cs o e = e

-- a shown cell stands at the place that has as many shown ones in front
pub shown_at : (n : ℕ) (cs : List CellData) (i : ℕ) (d : CellData) → i < length cs → cell_shown (get_or cs i d) ≡ true
    → slice_get (places_from cell_shown n cs) (length (shown_cells (take i cs))) ≡ Some (n + i)
shown_at n [] i d lt e = absurd (omega arith)
shown_at n (c ∷ cs) zero d lt e =
    ap (λ b. slice_get (if b then n ∷ places_from cell_shown (suc n) cs else places_from cell_shown (suc n) cs) 0) e
    ∙ ap (λ k. Some k) (omega arith)
shown_at n (c ∷ cs) (suc i) d lt e =
    further (cell_shown c) n c (places_from cell_shown (suc n) cs) (shown_cells (take i cs)) (Some (n + suc i))
    (shown_at (suc n) cs i d (omega arith) e ∙ ap (λ k. Some k) (omega arith))

-- the place p, counted from n, of the cell that is the v-th of the shown ones
record IsCellOf (n : ℕ) (cs : List CellData) (v p : ℕ) : Type 0 where
  at : ℕ
  place : p ≡ n + at
  cell : slice_get cs at ≡ slice_get (shown_cells cs) v

cell_at : (n : ℕ) (cs : List CellData) (v p : ℕ) → slice_get (places_from cell_shown n cs) v ≡ Some p → IsCellOf n cs v p
cell_at n [] v p e = cc
cell_at n (c ∷ cs) v p e = by (λ w f. cell_at (suc n) cs w p f) (cell_shown c) refl v e
  where
    by : ((w : ℕ) → slice_get (places_from cell_shown (suc n) cs) w ≡ Some p → IsCellOf (suc n) cs w p) → (b : Bool) → cell_shown c ≡ b
        → (w : ℕ)
        → slice_get (if b then n ∷ places_from cell_shown (suc n) cs else places_from cell_shown (suc n) cs) w ≡ Some p
        → IsCellOf n (c ∷ cs) w p
    by rest true is zero f =
        let front : n ≡ p = cc in
        record { at = 0; place = omega arith; cell = sym (ap (λ b. slice_get (cond b (c ∷ shown_cells cs) (shown_cells cs)) 0) is) }
    by rest true is (suc w) f =
        let i = rest w f in
        record {
          at = suc i.at;
          place = i.place ∙ omega arith;
          cell = i.cell ∙ sym (ap (λ b. slice_get (cond b (c ∷ shown_cells cs) (shown_cells cs)) (suc w)) is);
        }
    by rest false is w f =
        let i = rest w f in
        record {
          at = suc i.at;
          place = i.place ∙ omega arith;
          cell = i.cell ∙ sym (ap (λ b. slice_get (cond b (c ∷ shown_cells cs) (shown_cells cs)) w) is);
        }

-- the cell at the v-th place is the v-th shown cell
pub cell_at_place : (cs : List CellData) (v p : ℕ) → slice_get (shown_places cs) v ≡ Some p → slice_get cs p ≡ slice_get (shown_cells cs) v
cell_at_place cs v p e =
    let i = cell_at 0 cs v p e in
    ap (λ k. slice_get cs k) (i.place ∙ omega arith) ∙ i.cell

-- where a character goes after at least one
pub after_some : (ps : List ℕ) (v : ℕ) → 0 < v → slice_get (0 ∷ map suc ps) v ≡ option_map suc (slice_get ps (v - 1))
after_some ps zero h = absurd (omega arith)
after_some ps (suc v) h = mapped ps v ∙ ap (λ k. option_map suc (slice_get ps k)) (omega arith)
  where
    mapped : (qs : List ℕ) (w : ℕ) → slice_get (map suc qs) w ≡ option_map suc (slice_get qs w)
    mapped [] w = refl
    mapped (q ∷ qs) zero = refl
    mapped (q ∷ qs) (suc w) = mapped qs w

is_some_within : {A : Type 0} (xs : List A) (v : ℕ) → (IsSome (slice_get xs v) → v < length xs) × (v < length xs → IsSome (slice_get xs v))
is_some_within [] v = (λ h. cc, λ h. absurd (omega arith))
is_some_within (x ∷ xs) zero = (λ h. omega arith, λ h. refl)
is_some_within (x ∷ xs) (suc v) = let rest = is_some_within xs v in (λ h. let l = rest.0 h in omega arith, λ h. rest.1 (omega arith))

-- there is a v-th shown cell exactly where so many are shown
pub found_within : (cs : List CellData) (v : ℕ)
    → (IsSome (slice_get (shown_places cs) v) → v < length (shown_cells cs))
    × (v < length (shown_cells cs) → IsSome (slice_get (shown_places cs) v))
found_within cs v =
    let e = length-places 0 cs in
    let i = is_some_within (shown_places cs) v in
    (λ h. let l = i.0 h in omega arith, λ h. i.1 (omega arith))

-- its place is one of the list
pub place_within : (cs : List CellData) (v p : ℕ) → slice_get (shown_places cs) v ≡ Some p → p < length cs
place_within cs v p e =
    let lt : v < length (shown_cells cs) = (found_within cs v).0 (ap (λ o. is_some o) e) in
    let there : IsSome (slice_get (shown_cells cs) v) = (is_some_within (shown_cells cs) v).1 lt in
    (is_some_within cs p).0 (ap (λ o. is_some o) (cell_at_place cs v p e) ∙ there)

-- the same of an answer that may be none
pub cell_if_placed : (cs : List CellData) (v : ℕ) (o : Option ℕ) → o ≡ slice_get (shown_places cs) v
    → IfSome o (λ p. slice_get cs p ≡ slice_get (shown_cells cs) v)
cell_if_placed cs v None e = tt
cell_if_placed cs v (Some p) e = cell_at_place cs v p (sym e)

pub found_if_placed : (cs : List CellData) (v : ℕ) (o : Option ℕ) → o ≡ slice_get (shown_places cs) v
    → (IsSome o → v < length (shown_cells cs)) × (v < length (shown_cells cs) → IsSome o)
found_if_placed cs v o e =
    let found = found_within cs v in
    (λ h. found.0 (ap (λ x. is_some x) (sym e) ∙ h), λ h. ap (λ x. is_some x) e ∙ found.1 h)

pub after_placed : (cs : List CellData) (v p : ℕ) → (v ≡ 0 → ⊥) → Some p ≡ slice_get (shown_places cs) (v - 1)
    → Some (p + 1) ≡ slice_get (places_after (shown_places cs)) v
after_placed cs v p some e =
    let low : 0 < v = omega arith in
    ap (λ k. Some k) (omega arith) ∙ ap (λ o. option_map suc o) e ∙ sym (after_some (shown_places cs) v low)

pub after_none : (cs : List CellData) (v : ℕ) → (v ≡ 0 → ⊥) → None ≡ slice_get (shown_places cs) (v - 1)
    → None ≡ slice_get (places_after (shown_places cs)) v
after_none cs v some e =
    let low : 0 < v = omega arith in
    ap (λ o. option_map suc o) e ∙ sym (after_some (shown_places cs) v low)
