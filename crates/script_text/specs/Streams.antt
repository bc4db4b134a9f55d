-- Lines of an input that comes in pieces: how the pieces join, and which line is taken next.
use Rattle.std.specs.Prelude.{◌≡◌, ℕ, ◌+◌, ◌-◌, ◌<◌, ◌≤◌, Bool, true, false, ◌==◌, List, [], ◌∷◌, ◌++◌, length, take, min, Option, Some, None, Result, Ok, Err, ◌⊎◌, if◌then◌else◌}
use Rattle.std.specs.List.{All, slice_split}
use Rattle.script_text.specs.declared.reading.line.Line.{Line}
use Rattle.script_text.specs.declared.reading.line.LineBad.{LineBad}
use Rattle.script_text.specs.declared.reading.line.LineBad.TheVariants.{Limit, Long, Utf8, Form, Memory}
use Rattle.script_text.specs.declared.reading.parse.TheConstants.{LONGEST}
use Rattle.script_text.specs.declared.reading.stream.TheConstants.{MAX_SCRIPT}
use Rattle.script_text.specs.Answers.{Answers}
use Rattle.script_text.specs.LeftLines.{LeftLine, InputData}

-- what is seen of the bytes of a line
abbrev pub seen : List ℕ → List ℕ
seen bytes = take (LONGEST + 1) bytes

-- a line of these bytes, which a line feed ended or didn't
abbrev pub line_of : List ℕ → Bool → LeftLine
line_of bytes ended = record { bytes = seen bytes; len = length bytes; ended = ended }

-- what stands after the last line feed: a line that is not ended, if it has a byte
abbrev pub open_line : List ℕ → List LeftLine
open_line [] = []
open_line (b ∷ bs) = line_of (b ∷ bs) false ∷ []

-- these lines, each but the last of which a line feed ended
unfoldable pub all_but_last_ended : List (List ℕ) → List LeftLine
all_but_last_ended [] = []
all_but_last_ended (p ∷ []) = open_line p
all_but_last_ended (p ∷ q ∷ ps) = line_of p true ∷ all_but_last_ended (q ∷ ps)

-- the lines of these bytes, cut at their line feeds
abbrev pub lines_in : List ℕ → List LeftLine
lines_in bytes = all_but_last_ended (slice_split (λ b. b == 10) bytes)

-- a line that none ended, with the bytes of a line that goes on with it
abbrev pub continued : LeftLine → LeftLine → LeftLine
continued l m = record { bytes = seen (l.bytes ++ m.bytes); len = l.len + m.len; ended = m.ended }

-- a last line, and lines after it, of which the first goes on with it where no line feed ended it
abbrev pub going_on : LeftLine → List LeftLine → List LeftLine
going_on l [] = l ∷ []
going_on l (m ∷ ms) = if l.ended then l ∷ m ∷ ms else continued l m ∷ ms

-- lines, and the lines of the bytes after them
unfoldable pub followed_by : List LeftLine → List LeftLine → List LeftLine
followed_by [] ms = ms
followed_by (l ∷ []) ms = going_on l ms
followed_by (l ∷ k ∷ ls) ms = l ∷ followed_by (k ∷ ls) ms

-- the part of a piece that is looked at: what follows the byte after the limit is passed over
abbrev pub looked_at : ℕ → List ℕ → List ℕ
looked_at fed piece = take (MAX_SCRIPT + 1 - fed) piece

-- the input with a piece more
abbrev pub fed_with : InputData → List ℕ → InputData
fed_with s piece =
    record s {
      lines = followed_by s.lines (lines_in (looked_at s.fed piece));
      fed = min (MAX_SCRIPT + 1) (s.fed + length piece);
    }

-- the front line holds the byte after the limit: that byte was fed, so it is in the last line, and no other line is left
abbrev pub IsPastLimit : InputData → Type 0
IsPastLimit s = (MAX_SCRIPT < s.fed) × (length s.lines ≤ 1)

-- no line is there: all are taken and the input has ended, or none that is left has its line feed yet
abbrev pub HasNoLine : InputData → Type 0
HasNoLine s = (s.fed ≤ MAX_SCRIPT) × (((s.over ≡ true) × (s.lines ≡ [])) ⊎ ((s.over ≡ false) × All (λ l. l.ended ≡ false) s.lines))

-- the front line is there whole, before the lines of the rest, and within the limit
pub record IsNext (s : InputData) (l : LeftLine) (rest : List LeftLine) : Type 0 where
  pub front : s.lines ≡ l ∷ rest
  pub whole : (l.ended ≡ true) ⊎ (s.over ≡ true)
  pub within : ¬ IsPastLimit s

-- the next line is read with this answer; after it stand the lines of the rest
pub record Reads (s : InputData) (answer : Result Line LineBad) : Type 0 where
  pub line : LeftLine
  pub rest : List LeftLine
  pub next : IsNext s line rest
  pub read : Answers line.bytes answer

-- the next line has more bytes than a line may have
pub record HasLongLine (s : InputData) : Type 0 where
  pub line : LeftLine
  pub rest : List LeftLine
  pub next : IsNext s line rest
  pub long : LONGEST < line.len

-- the cause for which the front line is refused
abbrev pub IsCause : InputData → LineBad → Type 0
IsCause s Limit = IsPastLimit s
IsCause s Long = Reads s (Err Long)
IsCause s Utf8 = Reads s (Err Utf8)
IsCause s Form = Reads s (Err Form)
IsCause s Memory = ⊥

-- the input after its front line was refused
abbrev pub refused_for : LineBad → InputData → InputData
refused_for why s = record s { refusal = Some why }

-- what a take answers and what it leaves: the next line, and the lines after it; or, with nothing taken, no line, a refusal,
-- which stays, or out of memory for a line
abbrev pub TakesLine : InputData → Result (Option Line) LineBad → InputData → Type 0
TakesLine old (Ok (Some line)) new = (old.refusal ≡ None) × ((r : Reads old (Ok line)) × (new ≡ record old { lines = r.rest }))
TakesLine old (Ok None) new = HasNoLine old × (new ≡ old)
TakesLine old (Err Limit) new = IsCause old Limit × (new ≡ refused_for Limit old)
TakesLine old (Err Long) new = IsCause old Long × (new ≡ refused_for Long old)
TakesLine old (Err Utf8) new = IsCause old Utf8 × (new ≡ refused_for Utf8 old)
TakesLine old (Err Form) new = IsCause old Form × (new ≡ refused_for Form old)
TakesLine old (Err Memory) new = (old.refusal ≡ None) × Reads old (Err Memory) × (new ≡ old)
