-- New elements at a place, and a change at a place, of any list.
use Rattle.std.proofs.Common.{◌≡◌, ℕ, zero, suc, ◌+◌, ◌<◌, ◌≤◌, Bool, true, false, nat_lt, List, [], ◌∷◌, ◌++◌, map, length, refl, ap, ◌∙◌, arith, length-append, take-append-drop}
use Rattle.std.specs.Prelude.{slice_get}
use Rattle.std.proofs.lemmas.List.{map-append}
use Rattle.std.proofs.lemmas.Bool.Decides.{nat_tests}
use Rattle.ttf_form.specs.Places.{cover_place}
use Rattle.ttf_form.specs.Cells.{put_in, change_at}
use Rattle.ttf_form.specs.Laws.Places.{cover_less, cover_more}

-- at or after the end of what stands in front
pub put_behind : {A : Type 0} (q n : ℕ) (xs new ys : List A) → n ≡ q + length xs → put_in n new (xs ++ ys) ≡ xs ++ put_in q new ys
put_behind q n [] new ys e = let f : n ≡ q = omega arith in ap (λ k. put_in k new ys) f
put_behind q zero (x ∷ xs) new ys e = absurd (omega arith)
put_behind q (suc n) (x ∷ xs) new ys e =
    let f : n ≡ q + length xs = omega arith in
    ap (λ zs. x ∷ zs) (put_behind q n xs new ys f)

-- two puts, the place of the second at or after that of the first
pub put_put : {A : Type 0} (p q n : ℕ) (xs ys s : List A) → p ≤ q → q ≤ length s → n ≡ q + length xs
    → put_in n ys (put_in p xs s) ≡ put_in p xs (put_in q ys s)
put_put zero q n xs ys s pq qs e = put_behind q n xs ys s e
put_put (suc p) zero n xs ys s pq qs e = absurd (omega arith)
put_put (suc p) (suc q) n xs ys [] pq qs e = absurd (omega arith)
put_put (suc p) (suc q) zero xs ys (z ∷ s) pq qs e = absurd (omega arith)
put_put (suc p) (suc q) (suc n) xs ys (z ∷ s) pq qs e =
    let f : n ≡ q + length xs = omega arith in
    let g : p ≤ q = omega arith in
    let h : q ≤ length s = omega arith in
    ap (λ zs. z ∷ zs) (put_put p q n xs ys s g h f)

pub change_behind : {A : Type 0} (f : A → A) (q n : ℕ) (xs ys : List A) → n ≡ q + length xs
    → change_at n f (xs ++ ys) ≡ xs ++ change_at q f ys
change_behind f q n [] ys e = let g : n ≡ q = omega arith in ap (λ k. change_at k f ys) g
change_behind f q zero (x ∷ xs) ys e = absurd (omega arith)
change_behind f q (suc n) (x ∷ xs) ys e =
    let g : n ≡ q + length xs = omega arith in
    ap (λ zs. x ∷ zs) (change_behind f q n xs ys g)

-- a change in front of the place of a put
pub change_front_put : {A : Type 0} (f : A → A) (q p : ℕ) (xs s : List A) → q < p → q < length s
    → change_at q f (put_in p xs s) ≡ put_in p xs (change_at q f s)
change_front_put f q p xs [] qp qs = absurd (omega arith)
change_front_put f zero zero xs (z ∷ s) qp qs = absurd (omega arith)
change_front_put f zero (suc p) xs (z ∷ s) qp qs = refl
change_front_put f (suc q) zero xs (z ∷ s) qp qs = absurd (omega arith)
change_front_put f (suc q) (suc p) xs (z ∷ s) qp qs =
    let g : q < p = omega arith in
    let h : q < length s = omega arith in
    ap (λ zs. z ∷ zs) (change_front_put f q p xs s g h)

-- a change at or after it
pub change_behind_put : {A : Type 0} (f : A → A) (q p n : ℕ) (xs s : List A) → p ≤ q → q < length s → n ≡ q + length xs
    → change_at n f (put_in p xs s) ≡ put_in p xs (change_at q f s)
change_behind_put f q zero n xs s pq qs e = change_behind f q n xs s e
change_behind_put f zero (suc p) n xs s pq qs e = absurd (omega arith)
change_behind_put f (suc q) (suc p) n xs [] pq qs e = absurd (omega arith)
change_behind_put f (suc q) (suc p) zero xs (z ∷ s) pq qs e = absurd (omega arith)
change_behind_put f (suc q) (suc p) (suc n) xs (z ∷ s) pq qs e =
    let g : n ≡ q + length xs = omega arith in
    let h : p ≤ q = omega arith in
    let k : q < length s = omega arith in
    ap (λ zs. z ∷ zs) (change_behind_put f q p n xs s h k g)

-- two changes that may be made on one element in either order
pub change_change : {A : Type 0} (f g : A → A) → ((x : A) → f (g x) ≡ g (f x)) → (p q : ℕ) (s : List A)
    → change_at p f (change_at q g s) ≡ change_at q g (change_at p f s)
change_change f g e p q [] = refl
change_change f g e zero zero (z ∷ s) = ap (λ y. y ∷ s) (e z)
change_change f g e zero (suc q) (z ∷ s) = refl
change_change f g e (suc p) zero (z ∷ s) = refl
change_change f g e (suc p) (suc q) (z ∷ s) = ap (λ zs. z ∷ zs) (change_change f g e p q s)

-- a change that a view of the elements doesn't show
pub map-change : {A B : Type 0} (view : A → B) (f : A → A) → ((x : A) → view (f x) ≡ view x) → (k : ℕ) (s : List A)
    → map view (change_at k f s) ≡ map view s
map-change view f e k [] = refl
map-change view f e zero (z ∷ s) = ap (λ y. y ∷ map view s) (e z)
map-change view f e (suc k) (z ∷ s) = ap (λ zs. view z ∷ zs) (map-change view f e k s)

pub length-change : {A : Type 0} (f : A → A) (k : ℕ) (s : List A) → length (change_at k f s) ≡ length s
length-change f k [] = refl
length-change f zero (z ∷ s) = refl
length-change f (suc k) (z ∷ s) = ap suc (length-change f k s)

pub map-put : {A B : Type 0} (view : A → B) (k : ℕ) (new s : List A) → map view (put_in k new s) ≡ put_in k (map view new) (map view s)
map-put view zero new s = map-append view new s
map-put view (suc k) new [] = map-append view new []
map-put view (suc k) new (z ∷ s) = ap (λ zs. view z ∷ zs) (map-put view k new s)

pub length-put : {A : Type 0} (k : ℕ) (new s : List A) → k ≤ length s → length (put_in k new s) ≡ length s + length new
length-put zero new s h = let e = length-append new s in omega arith
length-put (suc k) new [] h = absurd (omega arith)
length-put (suc k) new (z ∷ s) h =
    let g : k ≤ length s = omega arith in
    let e = length-put k new s g in
    omega arith

-- a change of all elements that a view doesn't show
pub map-map : {A B : Type 0} (view : A → B) (f : A → A) → ((x : A) → view (f x) ≡ view x) → (s : List A) → map view (map f s) ≡ map view s
map-map view f e [] = refl
map-map view f e (z ∷ s) = ap (λ y. y ∷ map view (map f s)) (e z) ∙ ap (λ ys. view z ∷ ys) (map-map view f e s)

-- a change at a place and one of all elements, where each element may be changed in either order
pub change_map : {A : Type 0} (f g : A → A) → ((x : A) → f (g x) ≡ g (f x)) → (p : ℕ) (s : List A)
    → change_at p f (map g s) ≡ map g (change_at p f s)
change_map f g e p [] = refl
change_map f g e zero (z ∷ s) = ap (λ y. y ∷ map g s) (e z)
change_map f g e (suc p) (z ∷ s) = ap (λ ys. g z ∷ ys) (change_map f g e p s)

pub get_behind : {A : Type 0} (k n : ℕ) (new xs : List A) → n ≡ k + length new → slice_get (new ++ xs) n ≡ slice_get xs k
get_behind k n [] xs e = let f : n ≡ k = omega (arith, e) in ap (slice_get xs) f
get_behind k zero (x ∷ new) xs e = absurd (omega (arith, e))
get_behind k (suc n) (x ∷ new) xs e = get_behind k n new xs (omega (arith, e))

get_front_put : {A : Type 0} (k q : ℕ) (new xs : List A) → k < q → k < length xs → slice_get (put_in q new xs) k ≡ slice_get xs k
get_front_put k q new [] low some = absurd (omega (arith, some))
get_front_put k zero new (x ∷ xs) low some = absurd (omega (arith, low))
get_front_put zero (suc q) new (x ∷ xs) low some = refl
get_front_put (suc k) (suc q) new (x ∷ xs) low some = get_front_put k q new xs (omega (arith, low)) (omega (arith, some))

get_behind_put : {A : Type 0} (k q n : ℕ) (new xs : List A) → q ≤ k → k < length xs → n ≡ k + length new
    → slice_get (put_in q new xs) n ≡ slice_get xs k
get_behind_put k zero n new xs from some e = get_behind k n new xs e
get_behind_put zero (suc q) n new xs from some e = absurd (omega (arith, from))
get_behind_put (suc k) (suc q) n new [] from some e = absurd (omega (arith, some))
get_behind_put (suc k) (suc q) zero new (x ∷ xs) from some e = absurd (omega (arith, e))
get_behind_put (suc k) (suc q) (suc n) new (x ∷ xs) from some e =
    get_behind_put k q n new xs (omega (arith, from)) (omega (arith, some)) (omega (arith, e))

-- an element stands where a cover of it goes, once new ones came in
pub get_moved : {A : Type 0} (k q : ℕ) (new xs : List A) → k < length xs
    → slice_get (put_in q new xs) (cover_place k q (length new)) ≡ slice_get xs k
get_moved {A} k q new xs some = by (nat_lt k q) refl
  where
    by : (t : Bool) → nat_lt k q ≡ t → slice_get (put_in q new xs) (cover_place k q (length new)) ≡ slice_get xs k
    by true e =
        let l : k < q = grind (arith, nat_tests) in
        ap (slice_get (put_in q new xs)) (cover_less k q (length new) l) ∙ get_front_put k q new xs l some
    by false e =
        let l : q ≤ k = grind (arith, nat_tests) in
        get_behind_put k q (cover_place k q (length new)) new xs l some (cover_more k q (length new) l)

-- no new elements
pub put_none : {A : Type 0} (k : ℕ) (s : List A) → put_in k [] s ≡ s
put_none k s = take-append-drop k s
