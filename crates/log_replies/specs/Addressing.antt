-- What `where` and `find` write: the line and the column of a place of the shown text, and the place that has a line and a column.
use Rattle.std.specs.Prelude.{ℕ, List, ◌++◌, codes, decimal, length, Option, None, Some}
use Rattle.context_diff.specs.Replays.{characters_of}
use Rattle.cot_site.specs.States.{State}
use Rattle.past_view.specs.Lines.{address_of, place_at}
use Rattle.script_text.specs.Report.{Report}
use Rattle.log_replies.specs.Replies.{RepliesToLog, accepting, refusing}

-- `line L column C` and a line feed
abbrev pub address_text : ℕ → ℕ → List ℕ
address_text line column = codes "line " ++ (decimal line ++ (codes " column " ++ (decimal column ++ codes "\n")))

-- `place V` and a line feed
abbrev pub place_text : ℕ → List ℕ
place_text v = codes "place " ++ (decimal v ++ codes "\n")

-- `refused place V VISIBLE` and a line feed
abbrev pub no_place_text : ℕ → ℕ → List ℕ
no_place_text v visible = codes "refused place " ++ (decimal v ++ (codes " " ++ (decimal visible ++ codes "\n")))

-- `refused line L C` and a line feed
abbrev pub no_line_text : ℕ → ℕ → List ℕ
no_line_text line column = codes "refused line " ++ (decimal line ++ (codes " " ++ (decimal column ++ codes "\n")))

-- the address of the place v is told, where so many characters have one
abbrev pub address_reply : ℕ → ℕ → Option (ℕ × ℕ) → Report
address_reply v visible None = refusing (no_place_text v visible)
address_reply v visible (Some address) = accepting (address_text address.0 address.1)

-- the place of an address is told, where one has it
abbrev pub place_reply : ℕ → ℕ → Option ℕ → Report
place_reply line column None = refusing (no_line_text line column)
place_reply line column (Some v) = accepting (place_text v)

-- `where`: the line and the column of the place after v shown characters
abbrev pub located_reply : ℕ → State → Report
located_reply v s = address_reply v (length (characters_of s.history)) (address_of (characters_of s.history) v)

abbrev pub IsLocated : ℕ → List ℕ → Report → Type 0
IsLocated v = RepliesToLog 0 (located_reply v)

-- `find`: the place of the shown text that has the line and the column
abbrev pub found_reply : ℕ → ℕ → State → Report
found_reply line column s = place_reply line column (place_at (characters_of s.history) line column)

abbrev pub IsFound : ℕ → ℕ → List ℕ → Report → Type 0
IsFound line column = RepliesToLog 0 (found_reply line column)
