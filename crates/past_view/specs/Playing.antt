-- The playback of a history: what its operations showed, one after the other.
use Rattle.std.specs.Prelude.{ℕ, List, [], ◌∷◌, ◌++◌, length, codes}
use Rattle.context_diff.specs.Operations.{OpData, member_of}
use Rattle.context_diff.specs.Replays.{characters_of, text_of}
use Rattle.site_answers.specs.Names.{member_text}
use Rattle.script_text.specs.Report.{shown_text}

-- `after MEMBER`, and the lines of the text that these operations show, of which the last is that member's
abbrev pub moment_text : List OpData → OpData → List ℕ
moment_text h o =
    codes "after " ++ (member_text (member_of o) ++ (codes "\n" ++ shown_text (length (characters_of h)) (text_of h)))

-- what is played of operations that come after others: after each its moment
abbrev pub played_after : List OpData → List OpData → List ℕ
played_after h [] = []
played_after h (o ∷ os) = moment_text (h ++ o ∷ []) o ++ played_after (h ++ o ∷ []) os

-- what is played of a history
abbrev pub played : List OpData → List ℕ
played h = played_after [] h
