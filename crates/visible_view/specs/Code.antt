-- What is written of a chunk: the characters beside the flags of shown cells.
use Rattle.std.specs.Prelude.{ℕ, ◌==◌, List, [], ◌∷◌, if◌then◌else◌}

-- the characters that stand beside a flag that is 1
abbrev pub flagged : List ℕ → List ℕ → List ℕ
flagged [] ts = []
flagged (f ∷ fs) [] = []
flagged (f ∷ fs) (t ∷ ts) = if f == 1 then t ∷ flagged fs ts else flagged fs ts
