-- How many cells of a history a context lacks.
use Rattle.std.specs.Prelude.{ℕ, ◌+◌, ◌-◌, List, [], ◌∷◌, length, take, if◌then◌else◌}
use Rattle.context_vector.specs.Contexts.{ContextData, has}
use Rattle.context_diff.specs.Operations.{OpData, member_of, cells_put}

-- the sum of the lengths of the inserts that it lacks
abbrev pub lacking : List OpData → ContextData → ℕ
lacking [] c = 0
lacking (o ∷ os) c = (if has c (member_of o) then 0 else cells_put o) + lacking os c

-- the operations before the last one
abbrev pub all_but_last : List OpData → List OpData
all_but_last h = take (length h - 1) h
