-- Lines and columns of a text, seen as the list of its characters. A line feed ends its line, and the next one begins after it.
use Rattle.std.specs.Prelude.{ℕ, ◌+◌, ◌&&◌, ◌==◌, not, nat_le, List, length, take, Option, Some, None, if◌then◌else◌}
use Rattle.std.specs.List.{count_by, suffix_len, position_or_len, range_with_len}
use Rattle.lane_rank.specs.Texts.{is_newline}

-- the line of the place after v characters: the number of line feeds among these
abbrev pub line_of : List ℕ → ℕ → ℕ
line_of cs v = count_by is_newline (take v cs)

-- its column: the number of characters after the last of these line feeds
abbrev pub column_of : List ℕ → ℕ → ℕ
column_of cs v = suffix_len (λ c. not (is_newline c)) (take v cs)

-- the line and the column of the place after v characters, where there are so many
abbrev pub address_of : List ℕ → ℕ → Option (ℕ × ℕ)
address_of cs v = if nat_le v (length cs) then Some (line_of cs v, column_of cs v) else None

-- the first place of the text that has the line and the column, where one has
abbrev pub place_at : List ℕ → ℕ → ℕ → Option ℕ
place_at cs line column =
    let v = position_or_len (λ v. line_of cs v == line && column_of cs v == column) (range_with_len 0 (length cs + 1)) in
    if nat_le v (length cs) then Some v else None
