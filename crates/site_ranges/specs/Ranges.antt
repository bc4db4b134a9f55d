-- Ranges: so many elements of a text or of a history, from one on.
use Rattle.std.specs.Prelude.{ℕ, List, take, drop, encode_utf8_all}
use Rattle.context_diff.specs.Operations.{OpData}
use Rattle.context_diff.specs.Replays.{characters_of}

-- so many elements of a list from a place on; fewer where the list ends before
abbrev pub range_of : {A : Type 0} → ℕ → ℕ → List A → List A
range_of place count xs = take count (drop place xs)

-- Text of a range: so many of the shown characters of a history, from a place on, in UTF-8
abbrev pub text_at : List OpData → ℕ → ℕ → List ℕ
text_at h place count = encode_utf8_all (range_of place count (characters_of h))
