-- The law of what is told of a list.
use Rattle.std.specs.Prelude.{◌≢◌, List, [], ◌∷◌}
use Rattle.op_name.specs.Lists.{IsIn}
use Rattle.change_list.specs.Changes.{AreChanges}
use Rattle.change_list.specs.Told.{Marked, elements, before, after, told}

-- no element stands twice
abbrev pub AreApart : {A : Type 0} → List A → Type 0
AreApart [] = Unit {0}
AreApart {A} (x ∷ xs) = ((y : A) → IsIn y xs → x ≢ y) × AreApart xs

-- by what is told of a list in which no element stands twice, what was shown becomes what is shown
abbrev pub ToldAreChanges : Type 0 → Type 0
ToldAreChanges A = (ms : List (Marked A)) → AreApart (elements ms) → AreChanges (told ms) (before ms) (after ms)
