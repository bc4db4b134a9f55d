-- What is told of a list of which each element was shown or not, and is shown or not.
use Rattle.std.specs.Prelude.{ℕ, ◌+◌, ◌<◌, ◌≤◌, ◌==◌, Bool, true, false, not, if◌then◌else◌, List, [], ◌∷◌, All, map, filter}
use Rattle.ttf_form.specs.declared.include.TheConstants.{CELLS}
use Rattle.change_list.specs.declared.change.Change.{Change}
use Rattle.change_list.specs.Changes.{end_of}

-- an element, whether it was shown, and whether it is
pub record Marked (A : Type 0) : Type 0 where
  pub it : A
  pub was : Bool
  pub is : Bool

-- all elements
abbrev pub elements : {A : Type 0} → List (Marked A) → List A
elements ms = map (λ m. m.it) ms

-- those that were shown, and those that are
abbrev pub before : {A : Type 0} → List (Marked A) → List A
before ms = elements (filter (λ m. m.was) ms)

abbrev pub after : {A : Type 0} → List (Marked A) → List A
after ms = elements (filter (λ m. m.is) ms)

-- an element that came in (true), or was taken away (false)
abbrev pub turned : {A : Type 0} → Bool → A → Marked A
turned shown x = record { it = x; was = not shown; is = shown }

-- a change at a place that changes nothing yet
abbrev pub nothing_at : ℕ → Change
nothing_at v = record { place = v; removed = 0; inserted = 0 }

-- the change with one element more that comes in (true), or is taken away (false)
abbrev pub grown : Bool → Change → Change
grown true c = record c { inserted = c.inserted + 1 }
grown false c = record c { removed = c.removed + 1 }

-- the changes, with one element told of at a place behind them: in the last change where that ends there, else in a new one
abbrev pub told_at : ℕ → Bool → List Change → List Change
told_at v shown [] = grown shown (nothing_at v) ∷ []
told_at v shown (c ∷ []) = if end_of c == v then grown shown c ∷ [] else c ∷ (grown shown (nothing_at v) ∷ [])
told_at v shown (c ∷ (d ∷ cs)) = c ∷ told_at v shown (d ∷ cs)

-- the changes, with what is to be told of an element before which so many are shown: nothing, where it was shown exactly if it is
abbrev pub told_of : {A : Type 0} → ℕ → Marked A → List Change → List Change
told_of v m cs = if m.is then (if m.was then cs else told_at v true cs) else (if m.was then told_at v false cs else cs)

-- the changes, with what is to be told of a list before which so many are shown, from left to right
abbrev pub told_from : {A : Type 0} → ℕ → List Change → List (Marked A) → List Change
told_from v cs [] = cs
told_from v cs (m ∷ ms) = told_from (if m.is then v + 1 else v) (told_of v m cs) ms

-- what is told of a list
abbrev pub told : {A : Type 0} → List (Marked A) → List Change
told ms = told_from 0 [] ms

-- one element more can be told of at the place: the changes end there or before, and their numbers are below the greatest
abbrev pub HasRoom : ℕ → List Change → Type 0
HasRoom v cs = (v < CELLS) × All (λ c. (end_of c ≤ v) × (c.removed < CELLS)) cs
