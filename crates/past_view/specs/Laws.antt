-- The law of lines and columns.
use Rattle.std.specs.Prelude.{◌≡◌, ◌↔◌, ℕ, List, Some}
use Rattle.past_view.specs.Lines.{address_of, place_at}

-- a line and a column have the place v exactly if v has them, so no two places have the same
abbrev pub OnePlace : Type 0
OnePlace = (cs : List ℕ) (v line column : ℕ) → place_at cs line column ≡ Some v ↔ address_of cs v ≡ Some (line, column)
