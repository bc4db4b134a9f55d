-- Narrowing: a gap narrowed by one earlier insert after the other.
use Rattle.std.proofs.Common.{◌≡◌, Bool, true, false, List, [], ◌∷◌, ◌++◌, filter, not, if◌then◌else◌, ◌⊎◌, inl, inr, refl, ap, sym, ◌∙◌, subst}
use Rattle.std.proofs.lemmas.Bool.{cases_Bool}
use Rattle.std.specs.List.{list_any}
use Rattle.transform_rec.proofs.CallerLemmas.{in_cases, in_left, in_right}
use Rattle.context_diff.specs.Gaps.{Gap, gap, narrow}
use Rattle.context_diff.specs.Replays.{Insertion, Cell, first_of, last_of, cells_from, narrow_over, narrowed_by, narrowed, gap_of, put, replay}
use Rattle.transform_rec.specs.Lists.{IsIn}
use Rattle.fixed_replay.proofs.Stretches.{whole_of, gap_whole, narrow_whole}

pub narrowed-append : (o : Insertion) (xs ys : List Insertion) (g : Gap Cell) → narrowed o (xs ++ ys) g ≡ narrowed o ys (narrowed o xs g)
unfolding narrowed
narrowed-append o [] ys g = refl
narrowed-append o (x ∷ xs) ys g = narrowed-append o xs ys (narrowed_by o x g)

-- what an insert sees narrows nothing
pub narrowed_seen : (o x : Insertion) (g : Gap Cell) → o.sees x.name ≡ true → narrowed_by o x g ≡ g
narrowed_seen o x g h = rw h refl

unseen_step : (o x : Insertion) (xs ys : List Insertion) (g : Gap Cell) → (o.sees x.name ≡ true → ys ≡ xs)
    → (o.sees x.name ≡ false → ys ≡ x ∷ xs) → narrowed o xs (narrowed_by o x g) ≡ narrowed o ys g
unfolding narrowed
unseen_step o x xs ys g f h = elim (cases_Bool (o.sees x.name)) [
  | inl k ↦ ap (λ (e : Gap Cell). narrowed o xs e) (narrowed_seen o x g k) ∙ ap (λ (zs : List Insertion). narrowed o zs g) (sym (f k))
  | inr k ↦ ap (λ (zs : List Insertion). narrowed o zs g) (sym (h k))
]

pub narrowed_unseen : (o : Insertion) (xs : List Insertion) (g : Gap Cell)
    → narrowed o xs g ≡ narrowed o (filter (λ (x : Insertion). not (o.sees x.name)) xs) g
unfolding narrowed
narrowed_unseen o [] g = refl
narrowed_unseen o (x ∷ xs) g =
    narrowed_unseen o xs (narrowed_by o x g)
    ∙ unseen_step o x (filter (λ (y : Insertion). not (o.sees y.name)) xs) (filter (λ (y : Insertion). not (o.sees y.name)) (x ∷ xs)) g
    (λ h. rw h refl)
    (λ h. rw h refl)

over_whole : (left : Bool) (x : Insertion) (g : Gap Cell) → whole_of (narrow_over left x g) ≡ whole_of g
over_whole left x g =
    elim (cases_Bool (list_any (first_of x.name) g.between)) [ inl h ↦ rw h (by left) | inr h ↦ rw h refl ]
  where
    by : (l : Bool) → whole_of (if l then narrow true (last_of x) g else narrow false (first_of x.name) g) ≡ whole_of g
    by true = narrow_whole true (last_of x) g
    by false = narrow_whole false (first_of x.name) g

narrowed_by_whole : (o x : Insertion) (g : Gap Cell) → whole_of (narrowed_by o x g) ≡ whole_of g
narrowed_by_whole o x g = elim (cases_Bool (o.sees x.name)) [ inl h ↦ rw h refl | inr h ↦ rw h (over_whole _ x g) ]

pub narrowed_whole : (o : Insertion) (xs : List Insertion) (g : Gap Cell) → whole_of (narrowed o xs g) ≡ whole_of g
unfolding narrowed
narrowed_whole o [] g = refl
narrowed_whole o (x ∷ xs) g = narrowed_whole o xs (narrowed_by o x g) ∙ narrowed_by_whole o x g

pub gap_of_whole : (o : Insertion) (earlier : List Insertion) (cells : List Cell) → whole_of (gap_of o earlier cells) ≡ cells
gap_of_whole o earlier cells = narrowed_whole o earlier (gap (λ c. o.sees c.0) o.place cells) ∙ gap_whole (λ c. o.sees c.0) o.place cells

-- a put adds the cells of the insert and no others
pub in-put : (c : Cell) (o : Insertion) (earlier : List Insertion) (cells : List Cell) → IsIn c (put o earlier cells)
    → IsIn c cells ⊎ IsIn c (cells_from o)
in-put c o earlier cells i = in_parts (in_cases c g.before (g.between ++ (cells_from o ++ g.behind)) i)
  where
    g : Gap Cell
    g = gap_of o earlier cells

    old : IsIn c (whole_of g) → IsIn c cells
    old j = subst (λ (xs : List Cell). IsIn c xs) (gap_of_whole o earlier cells) j

    in_parts : IsIn c g.before ⊎ IsIn c (g.between ++ (cells_from o ++ g.behind)) → IsIn c cells ⊎ IsIn c (cells_from o)
    in_parts (inl j) = inl (old (in_left c g.before (g.between ++ g.behind) j))
    in_parts (inr j) = elim (in_cases c g.between (cells_from o ++ g.behind) j) [
      | inl k ↦ inl (old (in_right c g.before (g.between ++ g.behind) (in_left c g.between g.behind k)))
      | inr k ↦ elim (in_cases c (cells_from o) g.behind k) [
        | inl l ↦ inr l
        | inr l ↦ inl (old (in_right c g.before (g.between ++ g.behind) (in_right c g.between g.behind l)))
      ]
    ]

-- a cell of a replay stood there before, or is of an insert of the list
pub in-replay : (c : Cell) (os : List Insertion) (earlier : List Insertion) (cells : List Cell) → IsIn c (replay earlier cells os)
    → IsIn c cells ⊎ ((o : Insertion) × IsIn o os × IsIn c (cells_from o))
unfolding replay
in-replay c [] earlier cells i = inl i
in-replay c (o ∷ os) earlier cells i = elim (in-replay c os (earlier ++ (o ∷ [])) (put o earlier cells) i) [
  | inl j ↦ elim (in-put c o earlier cells j) [ inl k ↦ inl k | inr k ↦ inr (o, inl refl, k) ]
  | inr j ↦ inr (j.0, inr j.1, j.2)
]
