-- What the text of an insert is kept as.
use Rattle.std.specs.Prelude.{ℕ, List, [], ◌∷◌}
use Rattle.context_diff.specs.declared.letters.Kept.{Kept}
use Rattle.context_diff.specs.declared.letters.Kept.TheVariants.{One, More}

-- the codes of the characters
abbrev pub codes_of : Kept → List ℕ
codes_of (One ch) = ch ∷ []
codes_of (More list) = list.value.items
