-- A list of cells cut into chunks: what a change of one chunk does to the whole.
use Rattle.std.proofs.Common.{◌≡◌, ℕ, zero, suc, ◌+◌, ◌-◌, ◌<◌, ◌≤◌, Bool, true, false, cond, if◌then◌else◌, List, [], ◌∷◌, ◌++◌, length, map, filter, take, drop, insert, set, get_or, slice_get, Option, Some, refl, sym, ap, ◌∙◌, subst, append_assoc, arith}
use Rattle.std.specs.List.{sum, flat_map}
use Rattle.std.proofs.lemmas.List.{length-append, take-append-drop, length-take, length-drop, take-map, get_or-map, length-map}
use Rattle.std.proofs.lemmas.List.Elements.{filter-append}
use Rattle.std.proofs.lemmas.List.Sums.{sum-map, sum_by-cons}
use Rattle.std.proofs.lemmas.List.Concat.{length-flat_map}
use Rattle.ttf_form.specs.Cells.{CellData, cell_shown, change_at, put_in}
use Rattle.ttf_form.specs.Laws.Lists.{put_behind}
use Rattle.tombstone_text.specs.Chunks.{flat, flag_of, shown_in}
use Rattle.tombstone_text.specs.Sums.{IsPart}
use Rattle.tombstone_text.specs.Code.Cells.{cut, IsSeat, IsText}
use Rattle.tombstone_text.specs.Code.Chunks.{ChunkData}
use Rattle.tombstone_text.specs.Code.Spans.{AreFilled, IsSpot}

-- the elements of all lists, one after the other
abbrev pub all : {A : Type 0} → List (List A) → List A
all cs = flat_map (λ c. c) cs

-- the columns count the cells
pub sum-lens : {A : Type 0} (cs : List (List A)) → sum (map (λ c. length c) cs) ≡ length (all cs)
sum-lens {A} cs = sum-map (λ (c : List A). length c) cs ∙ sym (length-flat_map (λ (c : List A). c) cs)

pub sum-shown : (cs : List (List CellData)) → sum (map shown_in cs) ≡ shown_in (flat cs)
sum-shown [] = refl
sum-shown (c ∷ cs) =
    sum_by-cons (λ (n : ℕ). n) (shown_in c) (map shown_in cs)
    ∙ ap (λ n. shown_in c + n) (sum-shown cs)
    ∙ sym (length-append (filter cell_shown c) (filter cell_shown (flat cs)))
    ∙ ap (λ (s : List CellData). length s) (sym (filter-append cell_shown c (flat cs)))

pub sum-lens-take : {A : Type 0} (cs : List (List A)) (i : ℕ) → sum (take i (map (λ c. length c) cs)) ≡ length (all (take i cs))
sum-lens-take {A} cs i = ap sum (take-map (λ (c : List A). length c) i cs) ∙ sum-lens (take i cs)

-- there are no more chunks than cells
pub chunks-le : (cs : List (List CellData)) → AreFilled cs → length cs ≤ length (flat cs)
chunks-le [] f = omega arith
chunks-le (c ∷ cs) f = let rest = chunks-le cs f.1 in let one = f.0 in omega (arith, length-append c (flat cs))

pub filled_at : (cs : List (List CellData)) (i : ℕ) → AreFilled cs → i < length cs → 1 ≤ length (get_or cs i [])
filled_at [] i f lt = absurd (omega arith)
filled_at (c ∷ cs) zero f lt = f.0
filled_at (c ∷ cs) (suc i) f lt = filled_at cs i f.1 (omega arith)

pub filled_set : (cs : List (List CellData)) (i : ℕ) (d : List CellData) → AreFilled cs → 1 ≤ length d → AreFilled (set cs i d)
filled_set [] i d f l = tt
filled_set (c ∷ cs) zero d f l = (l, f.1)
filled_set (c ∷ cs) (suc i) d f l = (f.0, filled_set cs i d f.1 l)

-- the number within which a place lies is that of its chunk
tail_place : {A : Type 0} (c : List A) (cs : List (List A)) (i o p : ℕ) → length (all (take (suc i) (c ∷ cs))) + o ≡ p
    → (length (all (take i cs)) + o ≡ p - length c) × (length c ≤ p)
tail_place c cs i o p e = let l = length-append c (all (take i cs)) in (omega arith, omega arith)

-- new elements in front of the end of what stands in front
put_left : {A : Type 0} (k : ℕ) (new xs ys : List A) → k ≤ length xs → put_in k new xs ++ ys ≡ put_in k new (xs ++ ys)
put_left zero new xs ys le = append_assoc new xs ys
put_left (suc k) new [] ys le = absurd (omega (arith, le))
put_left (suc k) new (x ∷ xs) ys le = ap (λ zs. x ∷ zs) (put_left k new xs ys (omega (arith, le)))

-- new elements in one of the lists
pub all_put : {A : Type 0} (cs : List (List A)) (i o p : ℕ) (new : List A) → i < length cs → o ≤ length (get_or cs i [])
    → length (all (take i cs)) + o ≡ p → all (set cs i (put_in o new (get_or cs i []))) ≡ put_in p new (all cs)
all_put [] i o p new lt le e = absurd (omega (arith, lt))
all_put (c ∷ cs) zero o p new lt le e =
    let place : 0 + o ≡ p = e in
    let at : o ≡ p = omega (arith, place) in
    put_left o new c (all cs) le ∙ ap (λ n. put_in n new (c ++ all cs)) at
all_put (c ∷ cs) (suc i) o p new lt le e =
    let t = tail_place c cs i o p e in
    ap (λ zs. c ++ zs) (all_put cs i o (p - length c) new (omega (arith, lt)) le t.0)
    ∙ sym (put_behind (p - length c) p c new (all cs) (omega (arith, t.1)))

pub flat_put : (cs : List (List CellData)) (i o p : ℕ) (new : List CellData) → IsSeat cs i o p
    → flat (set cs i (put_in o new (get_or cs i []))) ≡ put_in p new (flat cs)
flat_put cs i o p new s = all_put cs i o p new s.chunk s.within s.place_is

-- a chunk cut in two
pub all_cut : {A : Type 0} (cs : List (List A)) (i k : ℕ) → all (cut cs i k) ≡ all cs
all_cut [] i k = refl
all_cut (c ∷ cs) zero k = sym (append_assoc (take k c) (drop k c) (all cs)) ∙ ap (λ zs. zs ++ all cs) (take-append-drop k c)
all_cut (c ∷ cs) (suc i) k = ap (λ zs. c ++ zs) (all_cut cs i k)

pub cut_is : {A : Type 0} (cs : List (List A)) (i k n : ℕ) → i < length cs → n ≡ suc i
    → insert (set cs i (take k (get_or cs i []))) n (drop k (get_or cs i [])) ≡ cut cs i k
cut_is [] i k n lt e = absurd (omega arith)
cut_is (c ∷ cs) zero k n lt e = ap (λ m. insert (take k c ∷ cs) m (drop k c)) e
cut_is (c ∷ cs) (suc i) k n lt e =
    ap (λ m. insert (c ∷ set cs i (take k (get_or cs i []))) m (drop k (get_or cs i []))) e
    ∙ ap (λ zs. c ∷ zs) (cut_is cs i k (suc i) (omega arith) refl)

pub filled_cut : (cs : List (List CellData)) (i k : ℕ) → AreFilled cs → i < length cs → 1 ≤ k → k < length (get_or cs i [])
    → AreFilled (cut cs i k)
filled_cut [] i k f lt l h = absurd (omega arith)
filled_cut (c ∷ cs) zero k f lt l h = (omega (arith, length-take k c), (omega (arith, length-drop k c), f.1))
filled_cut (c ∷ cs) (suc i) k f lt l h = (f.0, filled_cut cs i k f.1 (omega arith) l h)

pub length-cut : (cs : List (List CellData)) (i k : ℕ) → i < length cs → length (cut cs i k) ≡ suc (length cs)
length-cut [] i k lt = absurd (omega arith)
length-cut (c ∷ cs) zero k lt = refl
length-cut (c ∷ cs) (suc i) k lt = ap suc (length-cut cs i k (omega arith))

pub low_part : (cs : List (List CellData)) (i k : ℕ) → i < length cs → get_or (cut cs i k) i [] ≡ take k (get_or cs i [])
low_part [] i k lt = absurd (omega arith)
low_part (c ∷ cs) zero k lt = refl
low_part (c ∷ cs) (suc i) k lt = low_part cs i k (omega arith)

high_part : (cs : List (List CellData)) (i k : ℕ) → i < length cs → get_or (cut cs i k) (suc i) [] ≡ drop k (get_or cs i [])
high_part [] i k lt = absurd (omega arith)
high_part (c ∷ cs) zero k lt = refl
high_part (c ∷ cs) (suc i) k lt = high_part cs i k (omega arith)

pub before_low : (cs : List (List CellData)) (i k : ℕ) → i < length cs → flat (take i (cut cs i k)) ≡ flat (take i cs)
before_low [] i k lt = absurd (omega arith)
before_low (c ∷ cs) zero k lt = refl
before_low (c ∷ cs) (suc i) k lt = ap (λ zs. c ++ zs) (before_low cs i k (omega arith))

pub before_high : (cs : List (List CellData)) (i k : ℕ) → i < length cs → k ≤ length (get_or cs i [])
    → length (flat (take (suc i) (cut cs i k))) ≡ length (flat (take i cs)) + k
before_high [] i k lt e = absurd (omega arith)
before_high (c ∷ cs) zero k lt e = omega (arith, length-append (take k c) (flat (take 0 (drop k c ∷ cs))), length-take k c)
before_high (c ∷ cs) (suc i) k lt e =
    let rest = before_high cs i k (omega arith) e in
    omega (arith, length-append c (flat (take (suc i) (cut cs i k))), length-append c (flat (take i cs)))

pub seat_low : (cs : List (List CellData)) (i o p k : ℕ) → IsSeat cs i o p → k ≤ length (get_or cs i []) → o ≤ k → IsSeat (cut cs i k) i o p
seat_low cs i o p k s most le =
    let lt = s.chunk in
    let long = length-cut cs i k lt in
    let part = ap (λ (c : List CellData). length c) (low_part cs i k lt) in
    let before = ap (λ (c : List CellData). length c) (before_low cs i k lt) in
    let place = s.place_is in
    record { chunk = omega arith; within = omega (arith, length-take k (get_or cs i [])); place_is = omega arith }

pub seat_high : (cs : List (List CellData)) (i n o q p k : ℕ) → IsSeat cs i o p → k ≤ length (get_or cs i []) → k < o → n ≡ suc i
    → q + k ≡ o → IsSeat (cut cs i k) n q p
seat_high cs i n o q p k s most gt next less =
    let lt = s.chunk in
    let long = length-cut cs i k lt in
    let part = ap (λ (c : List CellData). length c) (high_part cs i k lt) in
    let before = before_high cs i k lt most in
    let place = s.place_is in
    let within = s.within in
    subst (λ m. IsSeat (cut cs i k) m q p) (sym next)
    (record { chunk = omega arith; within = omega (arith, length-drop k (get_or cs i [])); place_is = omega arith })

-- how long both parts are
pub parts_long : (cs : List (List CellData)) (i k : ℕ) → i < length cs → k ≤ length (get_or cs i [])
    → (length (get_or (cut cs i k) i []) ≡ k) × (length (get_or (cut cs i k) (suc i) []) + k ≡ length (get_or cs i []))
parts_long cs i k lt most =
    let low = ap (λ (c : List CellData). length c) (low_part cs i k lt) in
    let high = ap (λ (c : List CellData). length c) (high_part cs i k lt) in
    (omega (arith, length-take k (get_or cs i [])), omega (arith, length-drop k (get_or cs i [])))

-- the seat at the end of a text is at the end of its chunk
pub seat_last : (cs : List (List CellData)) (i o : ℕ) → i < length cs → length (flat (take i cs)) + o ≡ length (flat cs)
    → length (get_or cs i []) ≤ o
seat_last [] i o lt e = absurd (omega (arith, lt))
seat_last (c ∷ cs) zero o lt e =
    let place : 0 + o ≡ length (flat (c ∷ cs)) = e in
    omega (arith, place, length-append c (flat cs))
seat_last (c ∷ cs) (suc i) o lt e =
    seat_last cs i o (omega (arith, lt)) (omega (arith, e, length-append c (flat (take i cs)), length-append c (flat cs)))

-- a cell changed in its chunk
change-left : (f : CellData → CellData) (xs ys : List CellData) (k : ℕ) → k < length xs → change_at k f (xs ++ ys) ≡ change_at k f xs ++ ys
change-left f [] ys k lt = absurd (omega arith)
change-left f (x ∷ xs) ys zero lt = refl
change-left f (x ∷ xs) ys (suc k) lt = ap (λ zs. x ∷ zs) (change-left f xs ys k (omega arith))

change-right : (f : CellData → CellData) (xs ys : List CellData) (k n : ℕ) → length xs + k ≡ n
    → change_at n f (xs ++ ys) ≡ xs ++ change_at k f ys
change-right f [] ys k n e = let z : 0 + k ≡ n = e in let same : n ≡ k = omega arith in ap (λ m. change_at m f ys) same
change-right f (x ∷ xs) ys k zero e = absurd (omega arith)
change-right f (x ∷ xs) ys k (suc n) e = ap (λ zs. x ∷ zs) (change-right f xs ys k n (omega arith))

-- a cell that is there stands in its chunk
tail_spot : (c : List CellData) (cs : List (List CellData)) (i o p : ℕ) → IsSpot (c ∷ cs) (suc i) o p
    → IsSpot cs i o (p - length c) × (length c + (p - length c) ≡ p)
tail_spot c cs i o p s =
    let t = tail_place c cs i o p s.place_is in
    let lt = s.chunk in
    (record { chunk = omega arith; within = s.within; place_is = t.0 }, let le = t.1 in omega arith)

-- a place has one spot, within the cells
pub spot_unique : (cs : List (List CellData)) (i o j q p : ℕ) → IsSpot cs i o p → IsSpot cs j q p → i ≡ j
spot_unique [] i o j q p s t = absurd (omega (arith, s.chunk))
spot_unique (c ∷ cs) zero o zero q p s t = refl
spot_unique (c ∷ cs) zero o (suc j) q p s t =
    let here : 0 + o ≡ p = s.place_is in
    absurd (omega (arith, here, s.within, t.place_is, length-append c (flat (take j cs))))
spot_unique (c ∷ cs) (suc i) o zero q p s t =
    let here : 0 + q ≡ p = t.place_is in
    absurd (omega (arith, here, t.within, s.place_is, length-append c (flat (take i cs))))
spot_unique (c ∷ cs) (suc i) o (suc j) q p s t =
    ap suc (spot_unique cs i o j q (p - length c) (tail_spot c cs i o p s).0 (tail_spot c cs j q p t).0)

pub spot_inside : (cs : List (List CellData)) (i o p : ℕ) → IsSpot cs i o p → p < length (flat cs)
spot_inside [] i o p s = absurd (omega (arith, s.chunk))
spot_inside (c ∷ cs) zero o p s =
    let here : 0 + o ≡ p = s.place_is in omega (arith, here, s.within, length-append c (flat cs))
spot_inside (c ∷ cs) (suc i) o p s =
    let t = tail_spot c cs i o p s in
    omega (arith, spot_inside cs i o (p - length c) t.0, t.1, length-append c (flat cs))

pub flat_change : (f : CellData → CellData) (cs : List (List CellData)) (i o p : ℕ) → IsSpot cs i o p
    → flat (set cs i (change_at o f (get_or cs i []))) ≡ change_at p f (flat cs)
flat_change f [] i o p s = let lt = s.chunk in absurd (omega arith)
flat_change f (c ∷ cs) zero o p s =
    let place : 0 + o ≡ p = s.place_is in
    let at : o ≡ p = omega arith in
    sym (change-left f c (flat cs) o s.within) ∙ ap (λ n. change_at n f (c ++ flat cs)) at
flat_change f (c ∷ cs) (suc i) o p s =
    let t = tail_spot c cs i o p s in
    ap (λ zs. c ++ zs) (flat_change f cs i o (p - length c) t.0) ∙ sym (change-right f c (flat cs) (p - length c) p t.1)

get-left : (xs ys : List CellData) (k : ℕ) → k < length xs → slice_get (xs ++ ys) k ≡ slice_get xs k
get-left [] ys k lt = absurd (omega arith)
get-left (x ∷ xs) ys zero lt = refl
get-left (x ∷ xs) ys (suc k) lt = get-left xs ys k (omega arith)

get-right : (xs ys : List CellData) (k n : ℕ) → length xs + k ≡ n → slice_get (xs ++ ys) n ≡ slice_get ys k
get-right [] ys k n e = let z : 0 + k ≡ n = e in let same : n ≡ k = omega arith in ap (λ m. slice_get ys m) same
get-right (x ∷ xs) ys k zero e = absurd (omega arith)
get-right (x ∷ xs) ys k (suc n) e = get-right xs ys k n (omega arith)

pub flat_get : (cs : List (List CellData)) (i o p : ℕ) → IsSpot cs i o p → slice_get (flat cs) p ≡ slice_get (get_or cs i []) o
flat_get [] i o p s = let lt = s.chunk in absurd (omega arith)
flat_get (c ∷ cs) zero o p s =
    let place : 0 + o ≡ p = s.place_is in
    let at : p ≡ o = omega arith in
    ap (λ n. slice_get (c ++ flat cs) n) at ∙ get-left c (flat cs) o s.within
flat_get (c ∷ cs) (suc i) o p s =
    let t = tail_spot c cs i o p s in
    get-right c (flat cs) (p - length c) p t.1 ∙ flat_get cs i o (p - length c) t.0

-- where a running sum of the lengths lies
pub spot : (cs : List (List CellData)) (i o n : ℕ) → IsPart (map (λ c. length c) cs) i o n → IsSpot cs i o n
spot cs i o n t =
    let lt : i < length cs = let l = t.part in omega (arith, length-map cs (λ (c : List CellData). length c)) in
    record {
      chunk = lt;
      within = subst (λ k. o < k) (get_or-map (λ (c : List CellData). length c) cs i [] 0 lt) t.within;
      place_is = ap (λ k. k + o) (sym (sum-lens-take cs i)) ∙ t.place;
    }

-- a new cell right after the cell there
pub seat_behind : (cs : List (List CellData)) (i o q n p : ℕ) → IsPart (map (λ c. length c) cs) i o n → q ≡ o + 1 → n + 1 ≡ p
    → IsSeat cs i q p
seat_behind cs i o q n p t e f =
    let s = spot cs i o n t in
    let w = s.within in
    let at = s.place_is in
    record { chunk = s.chunk; within = omega arith; place_is = omega arith }

-- what the columns of a text sum up to
pub text-len : (cs : List (List CellData)) (ls ss : List ℕ) (f : Option ChunkData) → IsText cs ls ss f → sum ls ≡ length (flat cs)
text-len cs ls ss f t = ap sum t.lens_are ∙ sum-lens cs

pub text-shown : (cs : List (List CellData)) (ls ss : List ℕ) (f : Option ChunkData) → IsText cs ls ss f → sum ss ≡ shown_in (flat cs)
text-shown cs ls ss f t = ap sum t.shown_are ∙ sum-shown cs

pub some_at : (xs : List CellData) (k : ℕ) (d : CellData) → k < length xs → slice_get xs k ≡ Some (get_or xs k d)
some_at [] k d lt = absurd (omega arith)
some_at (x ∷ xs) zero d lt = refl
some_at (x ∷ xs) (suc k) d lt = some_at xs k d (omega arith)

pub length-change : (f : CellData → CellData) (xs : List CellData) (k : ℕ) → length (change_at k f xs) ≡ length xs
length-change f [] k = refl
length-change f (x ∷ xs) zero = refl
length-change f (x ∷ xs) (suc k) = ap suc (length-change f xs k)

-- the flag of a changed cell says by how much the number of shown cells changed
pub shown-change : (f : CellData → CellData) (xs : List CellData) (k : ℕ) (d : CellData) → k < length xs
    → shown_in (change_at k f xs) + flag_of (get_or xs k d) ≡ shown_in xs + flag_of (get_or (change_at k f xs) k d)
shown-change f [] k d lt = absurd (omega arith)
shown-change f (x ∷ xs) zero d lt = two (cell_shown (f x)) (cell_shown x) x (f x) (filter cell_shown xs)
  where
    two : (a b : Bool) (y z : CellData) (zs : List CellData)
        → length (cond a (z ∷ zs) zs) + (if b then 1 else 0) ≡ length (cond b (y ∷ zs) zs) + (if a then 1 else 0)
    two true true y z zs = omega arith
    two true false y z zs = omega arith
    two false true y z zs = omega arith
    two false false y z zs = omega arith
shown-change f (x ∷ xs) (suc k) d lt = by (cell_shown x) (shown-change f xs k d (omega arith))
  where
    by : (b : Bool) → shown_in (change_at k f xs) + flag_of (get_or xs k d) ≡ shown_in xs + flag_of (get_or (change_at k f xs) k d)
        → length (cond b (x ∷ filter cell_shown (change_at k f xs)) (filter cell_shown (change_at k f xs))) + flag_of (get_or xs k d)
        ≡ length (cond b (x ∷ filter cell_shown xs) (filter cell_shown xs)) + flag_of (get_or (change_at k f xs) k d)
    by true e = omega arith
    by false e = e

-- a flag is one of those counted
pub flag-le : (xs : List CellData) (k : ℕ) (d : CellData) → k < length xs → flag_of (get_or xs k d) ≤ shown_in xs
flag-le [] k d lt = absurd (omega arith)
flag-le (x ∷ xs) zero d lt = one (cell_shown x)
  where
    one : (b : Bool) → (if b then 1 else 0) ≤ length (cond b (x ∷ filter cell_shown xs) (filter cell_shown xs))
    one true = omega arith
    one false = omega arith
flag-le (x ∷ xs) (suc k) d lt = by (cell_shown x) (flag-le xs k d (omega arith))
  where
    by : (b : Bool) → flag_of (get_or xs k d) ≤ shown_in xs
        → flag_of (get_or xs k d) ≤ length (cond b (x ∷ filter cell_shown xs) (filter cell_shown xs))
    by true le = omega arith
    by false le = le
