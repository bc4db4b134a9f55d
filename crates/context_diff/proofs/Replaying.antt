-- The replay by places: where an insert goes in the fixed order, and where its cell goes among the cells.
use Rattle.std.proofs.Common.{◌≡◌, ℕ, zero, suc, ◌+◌, ◌-◌, ◌≤◌, Bool, inl, inr, List, [], ◌∷◌, ◌++◌, refl, ap, sym, ◌∙◌, arith, map, take, drop, append_assoc}
use Rattle.std.proofs.lemmas.Bool.{cases_Bool}
use Rattle.context_diff.specs.Gaps.{Gap}
use Rattle.context_diff.specs.Replays.{Insertion, Cell, put_by, cells_from, put, gap_of}
use Rattle.context_diff.specs.Code.GapEnds.{before_first, gap_between}
use Rattle.context_diff.proofs.GapEnds.{take_more}

-- an element put by an order stands before the first that it is less than
pub put_is_insert : {A : Type 0} (less : A → A → Bool) (x : A) (ys : List A)
    → put_by less x ys ≡ take (before_first (less x) ys) ys ++ x ∷ drop (before_first (less x) ys) ys
unfolding put_by
put_is_insert less x [] = refl
put_is_insert less x (y ∷ ys) = elim (cases_Bool (less x y)) [
  | inl e ↦ rw e refl
  | inr e ↦ rw e (ap (λ zs. y ∷ zs) (put_is_insert less x ys))
]

pub map_insert : {A B : Type 0} (f : A → B) (k : ℕ) (ys : List A) (x : A)
    → map f (take k ys ++ x ∷ drop k ys) ≡ take k (map f ys) ++ f x ∷ drop k (map f ys)
map_insert f zero ys x = refl
map_insert f (suc k) [] x = refl
map_insert f (suc k) (y ∷ ys) x = ap (λ zs. f y ∷ zs) (map_insert f k ys x)

take_drop_put : {K : Type 0} (l r : ℕ) (cs new : List K) → l ≤ r
    → take l cs ++ (take (r - l) (drop l cs) ++ (new ++ drop r cs)) ≡ take r cs ++ (new ++ drop r cs)
take_drop_put {K} l r cs new le =
    let k = r - l in
    let e : l + k ≡ r = omega arith in
    let t : take r cs ≡ take l cs ++ take k (drop l cs) = ap (λ n. take n cs) (sym e) ∙ take_more l k cs in
    sym (append_assoc (take l cs) (take k (drop l cs)) (new ++ drop r cs)) ∙ ap (λ xs. xs ++ (new ++ drop r cs)) (sym t)

-- a cell is put at the right end of the gap
pub put_at_end : (o : Insertion) (earlier : List Insertion) (cells : List Cell) (l r : ℕ) → gap_of o earlier cells ≡ gap_between cells l r
    → l ≤ r → put o earlier cells ≡ take r cells ++ (cells_from o ++ drop r cells)
put_at_end o earlier cells l r is le =
    ap (λ (g : Gap Cell). g.before ++ (g.between ++ (cells_from o ++ g.behind))) is ∙ take_drop_put l r cells (cells_from o) le
