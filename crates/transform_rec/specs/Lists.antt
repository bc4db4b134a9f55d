-- Lists of members and of cells: what is in them.
use Rattle.std.specs.Prelude.{◌≢◌, List, [], ◌∷◌}
pub use Rattle.ttf_form.specs.Families.{IsIn, sum_where, total_by}

-- no element stands twice
abbrev pub AreApart : {A : Type 0} → List A → Type 0
AreApart [] = Unit {0}
AreApart {A} (x ∷ xs) = ((y : A) → IsIn y xs → x ≢ y) × AreApart xs

-- both lists have the same elements
pub record SameElements {A : Type 0} (xs ys : List A) : Type 0 where
  pub forth : (z : A) → IsIn z xs → IsIn z ys
  pub back : (z : A) → IsIn z ys → IsIn z xs
