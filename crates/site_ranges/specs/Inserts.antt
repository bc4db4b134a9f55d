-- The inserts by which a range of characters stands in the text.
use Rattle.std.specs.Prelude.{ℕ, Bool, false, List, [], ◌∷◌, map, Option, Some, None, if◌then◌else◌}
use Rattle.op_name.specs.NameData.{NameData, name_eq}
use Rattle.context_diff.specs.Operations.{OpData}
use Rattle.context_diff.specs.Replays.{shown}
use Rattle.site_ranges.specs.Ranges.{range_of}

-- the name is the last one, if there was one
abbrev pub is_again : Option NameData → NameData → Bool
is_again None n = false
is_again (Some last) n = name_eq last n

-- the names that aren't the one right before them, with this one before the first: neighbours of one name once
abbrev pub once : Option NameData → List NameData → List NameData
once last [] = []
once last (n ∷ ns) = if is_again last n then once (Some n) ns else n ∷ once (Some n) ns

-- Inserts of a range: the names of those by which so many of the shown cells of a history stand, from a place on, in the order of the
-- text, neighbours of one name once
abbrev pub names_at : List OpData → ℕ → ℕ → List NameData
names_at h place count = once None (map (λ c. c.0) (range_of place count (shown h)))
