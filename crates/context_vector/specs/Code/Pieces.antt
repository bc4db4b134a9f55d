-- Lists in pieces.
use Rattle.std.specs.Prelude.{List, [], ◌∷◌, ◌++◌}

-- the pieces one after the other
abbrev pub joined : {A : Type 0} → List (List A) → List A
joined [] = []
joined (p ∷ ps) = p ++ joined ps
