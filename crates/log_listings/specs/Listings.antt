-- What `history` writes: a line for each operation of the history.
use Rattle.std.specs.Prelude.{ℕ, suc, ◌==◌, Bool, List, [], ◌∷◌, ◌++◌, codes, decimal, if◌then◌else◌}
use Rattle.std.specs.Option.{option_map_or}
use Rattle.context_diff.specs.Operations.{OpData, inserting, deleting, undoing}
use Rattle.context_diff.specs.Histories.{generation_in, in_force}
use Rattle.context_diff.specs.Replays.{Cell, character_in}
use Rattle.cot_site.specs.States.{State}
use Rattle.site_answers.specs.Names.{name_text}
use Rattle.script_text.specs.Report.{Report, made_words}
use Rattle.log_replies.specs.Replies.{RepliesToLog, accepting}
use Rattle.log_listings.specs.Quotes.{quoted}
use Rattle.log_listings.specs.Originals.{original_in, cell_hit}

-- whether an operation is in force now: an insert or delete that isn't undone, or was redone; an undo or redo that no later one of the
-- same original took back
abbrev pub is_on : List OpData → OpData → Bool
is_on h (inserting n p text c) = in_force h n
is_on h (deleting n p c) = in_force h n
is_on h (undoing a t g c) = generation_in h t == g

-- ` on ` or ` off `
abbrev pub force_text : Bool → List ℕ
force_text on = if on then codes " on " else codes " off "

-- ` by SITE` of an undo or a redo: who made an insert or delete its name says
abbrev pub author_text : OpData → List ℕ
author_text (inserting n p text c) = []
author_text (deleting n p c) = []
author_text (undoing a t g c) = codes " by " ++ decimal a

-- `S.N+K TEXT`: the cell at offset K of the insert S.N, with its character
abbrev pub cell_text : List OpData → Cell → List ℕ
cell_text h c = name_text c.0 ++ (codes "+" ++ (decimal c.1 ++ (codes " " ++ quoted (character_in h c ∷ []))))

-- what an insert or delete does: its characters, or the cell that it hits; a delete of a valid history hits one
abbrev pub deed_text : List OpData → OpData → List ℕ
deed_text h (inserting n p text c) = quoted text
deed_text h (deleting n p c) = option_map_or (cell_text h) (cell_hit h p c) []
deed_text h (undoing a t g c) = []

-- the word of an insert or delete
abbrev pub kind_word : OpData → List ℕ
kind_word (inserting n p text c) = codes "insert "
kind_word (deleting n p c) = codes "delete "
kind_word (undoing a t g c) = []

-- what is undone or redone: its word, and what it does
abbrev pub target_text : List OpData → OpData → List ℕ
target_text h o = kind_word o ++ deed_text h o

-- what an operation does, or what it undoes or redoes; the history has the original of each undo
abbrev pub content_text : List OpData → OpData → List ℕ
content_text h (inserting n p text c) = deed_text h (inserting n p text c)
content_text h (deleting n p c) = deed_text h (deleting n p c)
content_text h (undoing a t g c) = option_map_or (target_text h) (original_in h t) []

-- the line of the operation at this index of the history: `INDEX insert NAME FORCE TEXT`, `INDEX delete NAME FORCE CELL`,
-- `INDEX undo NAME/G by SITE FORCE insert TEXT` and the like, and a line feed
unfoldable pub line_text : List OpData → ℕ → OpData → List ℕ
line_text h i o =
    decimal i ++ (codes " " ++ (made_words o ++ (author_text o ++ (force_text (is_on h o) ++ (content_text h o ++ codes "\n")))))

-- the lines of these operations of the history, of which the first has this index
abbrev pub lines_text : List OpData → ℕ → List OpData → List ℕ
lines_text h i [] = []
lines_text h i (o ∷ os) = line_text h i o ++ lines_text h (suc i) os

-- the reply to the state: a line for each operation of its history, in order, counted from 0
abbrev pub listing_reply : State → Report
listing_reply s = accepting (lines_text s.history 0 s.history)

-- `history`: the log is loaded as site 0
abbrev pub IsListed : List ℕ → Report → Type 0
IsListed = RepliesToLog 0 listing_reply
