-- Lists of which changes are told in the tests.
use Rattle.std.specs.Prelude.{ℕ, Bool, List, map}
use Rattle.change_list.specs.Told.{Marked}

-- an element that was shown or not, and is shown or not
abbrev pub mark_of : Bool × Bool → Marked ℕ
mark_of p = record { it = 0; was = p.0; is = p.1 }

abbrev pub marks_of : List (Bool × Bool) → List (Marked ℕ)
marks_of ps = map mark_of ps
