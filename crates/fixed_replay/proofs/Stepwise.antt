-- The fixed order and the replay, one insert at a time.
use Rattle.std.proofs.Common.{◌≡◌, ℕ, zero, suc, ◌+◌, ◌-◌, ◌<◌, ◌≤◌, true, false, refl, List, [], ◌∷◌, ◌++◌, ap, sym, subst, ◌∙◌, arith, length, map, take, drop, get_or, length-take, length-drop}
use Rattle.std.specs.Prelude.{nat_lt}
use Rattle.std.specs.List.{list_any}
use Rattle.std.proofs.lemmas.List.{map_more, take_rest, at_drop_all}
use Rattle.op_name.specs.NameData.{NameData}
use Rattle.context_vector.specs.Contexts.{ContextData}
use Rattle.context_diff.specs.Operations.{OpData, inserting}
use Rattle.context_diff.specs.Ops.{data_of}
use Rattle.context_diff.specs.declared.op.Op.{Op}
use Rattle.context_diff.specs.Gaps.{Gap}
use Rattle.context_diff.specs.Code.GapEnds.{up_to_nth, before_first, up_to_last, gap_between}
use Rattle.context_diff.specs.Replays.{Insertion, Cell, is_earlier, put_by, sort_by, fixed_order, run_of, cells_from, first_of, last_of, narrowed_by, narrowed, gap_of, put, replay}
use Rattle.context_diff.proofs.CallerLemmas.{gap_ends, narrow_left, narrow_right, map_insert, put_is_insert, put_at_end}
use Rattle.ttf_form.specs.Cells.{put_in}
use Rattle.fixed_replay.specs.Code.PlainCells.{InsertData, insertion_of, comes_before, sees}
use Rattle.fixed_replay.proofs.Searches.{at_place, before_first_map}

-- the fixed order of no operations
pub order_none : (ops : List Op) → [] ≡ fixed_order (map data_of (drop (length ops) ops))
unfolding sort_by
order_none ops = sym (at_drop_all (λ xs. fixed_order (map data_of xs)) ops (length ops) (omega arith))

-- the fixed order of operations, with an insert in front
pub order_with : (h : List OpData) (n : NameData) (p k : ℕ) (text : List ℕ) (c : ContextData) (was now : List Insertion) → k ≡ length text
    → was ≡ fixed_order h → now ≡ put_by is_earlier (insertion_of (record { name = n; place = p; len = k; context = c })) was
    → now ≡ fixed_order (inserting n p text c ∷ h)
unfolding sort_by
order_with h n p k text c was now long sorted puts =
    puts ∙ (λ j. put_by is_earlier (insertion_of (record { name = n; place = p; len = long j; context = c })) (sorted j))

-- an insert put into the order at its place
pub put_at : (x : InsertData) (order : List InsertData) (k : ℕ) → k ≡ before_first (comes_before x) order
    → map insertion_of (take k order ++ x ∷ drop k order) ≡ put_by is_earlier (insertion_of x) (map insertion_of order)
put_at x order k is =
    let p = is_earlier (insertion_of x) in
    let place : k ≡ before_first p (map insertion_of order) = is ∙ sym (before_first_map insertion_of p order) in
    map_insert insertion_of k order x
    ∙ (ap (λ n. take n (map insertion_of order) ++ insertion_of x ∷ drop n (map insertion_of order)) place
    ∙ sym (put_is_insert is_earlier (insertion_of x) (map insertion_of order)))

-- the replay from a place of the order on, once the insert there has put its cells
pub replay_more : (order : List InsertData) (i : ℕ) (o : InsertData) (cells after : List Cell) → i < length order → o ≡ get_or order i o
    → after ≡ put (insertion_of o) (map insertion_of (take i order)) cells
    → replay (map insertion_of (take i order)) cells (map insertion_of (drop i order))
    ≡ replay (map insertion_of (take (i + 1) order)) after (map insertion_of (drop (i + 1) order))
unfolding replay
replay_more order i o cells after within is puts =
    let rest = map insertion_of (drop (i + 1) order) in
    let early : map insertion_of (take i order) ++ insertion_of o ∷ [] ≡ map insertion_of (take (i + 1) order) =
    ap (λ (x : InsertData). map insertion_of (take i order) ++ insertion_of x ∷ []) is ∙ sym (map_more insertion_of order i o within) in
    at_place (λ xs. replay (map insertion_of (take i order)) cells (map insertion_of xs)) order i o within is
    ∙ (λ j. replay (early j) (sym puts j) rest)

pub replay_end : (order : List InsertData) (i : ℕ) (cells : List Cell) → length order ≤ i
    → replay (map insertion_of (take i order)) cells (map insertion_of (drop i order)) ≡ cells
unfolding replay
replay_end order i cells past = at_drop_all (λ xs. replay (map insertion_of (take i order)) cells (map insertion_of xs)) order i past

-- an element put before those that were put at a place
put_before : {K : Type 0} (p : ℕ) (x : K) (new xs : List K) → p ≤ length xs
    → take p (put_in p new xs) ++ x ∷ drop p (put_in p new xs) ≡ put_in p (x ∷ new) xs
put_before zero x new xs within = refl
put_before (suc p) x new [] within = absurd (omega (arith, within))
put_before (suc p) x new (y ∷ ys) within = ap (λ zs. y ∷ zs) (put_before p x new ys (omega (arith, within)))

-- the cells of an insert from an offset on, with the one before them
run_before : (n : NameData) (i len : ℕ) → 0 < i → i ≤ len → (n, i - 1) ∷ run_of n i (len - i) ≡ run_of n (i - 1) (len - (i - 1))
run_before n i len some within =
    let here : i ≡ suc (i - 1) = omega arith in
    let more : suc (len - i) ≡ len - (i - 1) = omega arith in
    ap (λ k. (n, i - 1) ∷ run_of n k (len - i)) here ∙ ap (run_of n (i - 1)) more

pub put_one : (n : NameData) (i len place : ℕ) (old cells after : List Cell) (c : Cell) → 0 < i → i ≤ len → place ≤ length old
    → cells ≡ put_in place (run_of n i (len - i)) old → c ≡ (n, i - 1) → after ≡ take place cells ++ c ∷ drop place cells
    → after ≡ put_in place (run_of n (i - 1) (len - (i - 1))) old
put_one n i len place old cells after c some within room was is added =
    added
    ∙ ((λ j. take place (was j) ++ is j ∷ drop place (was j))
    ∙ (put_before place (n, i - 1) (run_of n i (len - i)) old room
    ∙ ap (λ run. put_in place run old) (run_before n i len some within)))

-- one insert of the replay
pub replay_step : (order : List InsertData) (i : ℕ) (o : InsertData) (cells after slice : List Cell) (early : List InsertData) (l r : ℕ)
    → i < length order → o ≡ get_or order i o → early ≡ take i order → slice ≡ cells
    → gap_of (insertion_of o) (map insertion_of early) slice ≡ gap_between slice l r → l ≤ r
    → after ≡ put_in r (cells_from (insertion_of o)) cells
    → replay (map insertion_of (take i order)) cells (map insertion_of (drop i order))
    ≡ replay (map insertion_of (take (i + 1) order)) after (map insertion_of (drop (i + 1) order))
replay_step order i o cells after slice early l r within is early_is slice_is found le added =
    let whole : gap_of (insertion_of o) (map insertion_of (take i order)) cells ≡ gap_between cells l r =
    subst (λ xs. gap_of (insertion_of o) (map insertion_of xs) cells ≡ gap_between cells l r) early_is
    (subst (λ cs. gap_of (insertion_of o) (map insertion_of early) cs ≡ gap_between cs l r) slice_is found) in
    replay_more order i o cells after within is
    (added ∙ sym (put_at_end (insertion_of o) (map insertion_of (take i order)) cells l r whole le))

-- the gap between the two neighbours, which the earlier inserts narrow
pub gap_of_starts : (o : InsertData) (earlier : List Insertion) (cells : List Cell) (l f : ℕ) → l ≡ up_to_nth (sees o) o.place cells
    → f ≡ before_first (sees o) (take (length cells - l) (drop l cells))
    → gap_of (insertion_of o) earlier cells ≡ narrowed (insertion_of o) earlier (gap_between cells l (l + f))
gap_of_starts o earlier cells l f left first =
    let rest : f ≡ before_first (sees o) (drop l cells) = first ∙ ap (before_first (sees o)) (take_rest cells l) in
    ap (narrowed (insertion_of o) earlier)
    (gap_ends (sees o) o.place cells
    ∙ (ap (λ n. gap_between cells n (n + before_first (sees o) (drop n cells))) (sym left)
    ∙ ap (λ n. gap_between cells l (l + n)) (sym rest)))

pub start_within : (cells : List Cell) (l f : ℕ) → l ≤ length cells → f ≤ length (take (length cells - l) (drop l cells))
    → l + f ≤ length cells
start_within cells l f le first =
    let long : length (take (length cells - l) (drop l cells)) ≡ length cells - l = simp (length-take, length-drop) (omega arith) in
    omega arith

-- an earlier insert narrows the gap in which its first cell lies
pub narrowed_left : (o x : Insertion) (cells : List Cell) (l r : ℕ) → l ≤ r → r ≤ length cells → o.sees x.name ≡ false
    → list_any (first_of x.name) (take (r - l) (drop l cells)) ≡ true → nat_lt x.name.site o.name.site ≡ true
    → narrowed_by o x (gap_between cells l r) ≡ gap_between cells (l + up_to_last (last_of x) (take (r - l) (drop l cells))) r
narrowed_left o x cells l r le within unseen there less = rw (unseen, there, less) (narrow_left (last_of x) cells l r le within)

pub narrowed_right : (o x : Insertion) (cells : List Cell) (l r : ℕ) → l ≤ r → r ≤ length cells → o.sees x.name ≡ false
    → list_any (first_of x.name) (take (r - l) (drop l cells)) ≡ true → nat_lt x.name.site o.name.site ≡ false
    → narrowed_by o x (gap_between cells l r) ≡ gap_between cells l (l + before_first (first_of x.name) (take (r - l) (drop l cells)))
narrowed_right o x cells l r le within unseen there more = rw (unseen, there, more) (narrow_right (first_of x.name) cells l r le within)

-- and no other
pub not_narrowed : (o x : Insertion) (cells : List Cell) (l r : ℕ) → o.sees x.name ≡ false
    → list_any (first_of x.name) (take (r - l) (drop l cells)) ≡ false → narrowed_by o x (gap_between cells l r) ≡ gap_between cells l r
not_narrowed o x cells l r unseen none = rw (unseen, none) refl

-- the narrowing by the earlier inserts from a place on
pub narrowed_more : (o : Insertion) (earlier : List InsertData) (i : ℕ) (x : InsertData) (g : Gap Cell) → i < length earlier
    → x ≡ get_or earlier i x
    → narrowed o (map insertion_of (drop i earlier)) g
    ≡ narrowed o (map insertion_of (drop (i + 1) earlier)) (narrowed_by o (insertion_of x) g)
unfolding narrowed
narrowed_more o earlier i x g within is = at_place (λ xs. narrowed o (map insertion_of xs) g) earlier i x within is

pub narrowed_end : (o : Insertion) (earlier : List InsertData) (i : ℕ) (g : Gap Cell) → length earlier ≤ i
    → narrowed o (map insertion_of (drop i earlier)) g ≡ g
unfolding narrowed
narrowed_end o earlier i g past = at_drop_all (λ xs. narrowed o (map insertion_of xs) g) earlier i past
