-- Changes of a list, made from left to right, and those between two lists.
use Rattle.std.specs.Prelude.{◌≡◌, ℕ, ◌+◌, ◌<◌, ◌≤◌, List, [], ◌∷◌, ◌++◌, All, Contains, length, map, take, drop}
use Rattle.std.specs.List.{AllAdjacentBelow}
use Rattle.change_list.specs.declared.change.Change.{Change}

-- a change: at this place so many elements are taken away, and these come in
pub record ChangeOf (A : Type 0) : Type 0 where
  pub place : ℕ
  pub removed : ℕ
  pub inserted : List A

-- the list with a change made in it
abbrev pub changed : {A : Type 0} → ChangeOf A → List A → List A
changed c xs = take c.place xs ++ (c.inserted ++ drop (c.place + c.removed) xs)

-- the list with all changes made, each in what the changes before it left
abbrev pub patched : {A : Type 0} → List (ChangeOf A) → List A → List A
patched [] xs = xs
patched (c ∷ cs) xs = patched cs (changed c xs)

-- each place, with what is taken away there, is in what the changes before it left
abbrev pub FitsAll : {A : Type 0} → List (ChangeOf A) → List A → Type 0
FitsAll [] xs = Unit {0}
FitsAll (c ∷ cs) xs = (c.place + c.removed ≤ length xs) × FitsAll cs (changed c xs)

-- all elements that come in
abbrev pub inserted_of : {A : Type 0} → List (ChangeOf A) → List A
inserted_of [] = []
inserted_of (c ∷ cs) = c.inserted ++ inserted_of cs

-- all elements that are taken away, each from what the changes before it left
abbrev pub removed_of : {A : Type 0} → List (ChangeOf A) → List A → List A
removed_of [] xs = []
removed_of (c ∷ cs) xs = take c.removed (drop c.place xs) ++ removed_of cs (changed c xs)

-- the change with what comes in, which stands in the new list at its place
abbrev pub spliced : {A : Type 0} → List A → Change → ChangeOf A
spliced after c = record { place = c.place; removed = c.removed; inserted = take c.inserted (drop c.place after) }

-- where the elements end that come in by a change
abbrev pub end_of : Change → ℕ
end_of c = c.place + c.inserted

-- by these changes the old list becomes the new one. What comes in was not there, what is taken away is not there any more, no change
-- is empty, and between what one change lets come in and the place of the next there is an element that stays
pub record AreChanges {A : Type 0} (cs : List Change) (before after : List A) : Type 0 where
  pub fits : FitsAll (map (spliced after) cs) before
  pub makes : patched (map (spliced after) cs) before ≡ after
  pub within : All (λ c. end_of c ≤ length after) cs
  pub new : (x : A) → Contains (inserted_of (map (spliced after) cs)) x → Contains before x → ⊥
  pub gone : (x : A) → Contains (removed_of (map (spliced after) cs) before) x → Contains after x → ⊥
  pub some : All (λ c. 0 < c.removed + c.inserted) cs
  pub apart : AllAdjacentBelow (λ c d. end_of c < d.place) cs (length cs)
