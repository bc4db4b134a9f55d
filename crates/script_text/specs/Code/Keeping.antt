-- How the lines that are left are kept: their first bytes one after the other, beside their lengths.
use Rattle.std.specs.Prelude.{◌≡◌, ◌≢◌, ℕ, zero, suc, ◌+◌, ◌-◌, ◌<◌, ◌≤◌, ◌==◌, Bool, true, false, List, [], ◌∷◌, ◌++◌, length, take, drop, min, Option, Some, None, Result, Ok, Err}
use Rattle.std.specs.List.{All}
use Rattle.script_text.specs.declared.reading.line.Line.{Line}
use Rattle.script_text.specs.declared.reading.line.LineBad.{LineBad}
use Rattle.script_text.specs.declared.reading.line.LineBad.TheVariants.{Limit, Long, Utf8, Form, Memory}
use Rattle.script_text.specs.declared.reading.parse.TheConstants.{LONGEST}
use Rattle.script_text.specs.declared.reading.stream.TheConstants.{MAX_SCRIPT}
use Rattle.script_text.specs.LeftLines.{LeftLine, InputData}
use Rattle.script_text.specs.Streams.{Reads, HasNoLine, IsCause}
use Rattle.script_text.specs.KeptData.{KeptData}

-- how many bytes are kept of a line of this length
abbrev pub kept_of : ℕ → ℕ
kept_of n = min n (LONGEST + 1)

-- how many bytes are kept of lines of these lengths and a last one
unfoldable pub kept_len : List ℕ → ℕ → ℕ
kept_len [] last = kept_of last
kept_len (n ∷ ns) last = kept_of n + kept_len ns last

-- a last line that none ended, if it has a byte
abbrev pub last_line : List ℕ → ℕ → List LeftLine
last_line bytes zero = []
last_line bytes (suc n) = record { bytes = bytes; len = suc n; ended = false } ∷ []

unfoldable pub lines_cut : List ℕ → List ℕ → ℕ → List LeftLine
lines_cut bytes [] last = last_line bytes last
lines_cut bytes (n ∷ ns) last =
    record { bytes = take (kept_of n) bytes; len = n; ended = true } ∷ lines_cut (drop (kept_of n) bytes) ns last

-- the lines that are kept so
abbrev pub lines_kept : KeptData → List LeftLine
lines_kept d = lines_cut d.bytes d.ended d.last

-- the bytes are those that are kept of the lines
abbrev pub AreKept : KeptData → Type 0
AreKept d = length d.bytes ≡ kept_len d.ended d.last

-- bytes without a line feed go on with the last line, and a line feed ends it
abbrev pub with_part : List ℕ → KeptData → KeptData
with_part part d = record { bytes = d.bytes ++ take (LONGEST + 1 - kept_of d.last) part; ended = d.ended; last = d.last + length part }

abbrev pub with_end : KeptData → KeptData
with_end d = record { bytes = d.bytes; ended = d.ended ++ d.last ∷ []; last = 0 }

-- more is kept, but for the length of the last line
pub record IsFrontOf (old new : KeptData) : Type 0 where
  pub bytes : take (length old.bytes) new.bytes ≡ old.bytes
  pub ended : take (length old.ended) new.ended ≡ old.ended

-- no byte is a line feed
abbrev pub HasNoFeed : List ℕ → Type 0
HasNoFeed bytes = All (λ b. (b == 10) ≡ false) bytes

-- the line feed of a line, if one ended it
abbrev pub feeds_of : Bool → ℕ
feeds_of true = 1
feeds_of false = 0

-- how many bytes of the input the lines are, their line feeds among them
unfoldable pub size_of : List LeftLine → ℕ
size_of [] = 0
size_of (l ∷ ls) = l.len + feeds_of l.ended + size_of ls

-- what the front line is read as
abbrev pub FrontIs : InputData → Result (Option Line) LineBad → Type 0
FrontIs s (Ok (Some line)) = Reads s (Ok line)
FrontIs s (Ok None) = HasNoLine s
FrontIs s (Err Limit) = IsCause s Limit
FrontIs s (Err Long) = IsCause s Long
FrontIs s (Err Utf8) = IsCause s Utf8
FrontIs s (Err Form) = IsCause s Form
FrontIs s (Err Memory) = Reads s (Err Memory)

-- a front line of which as many bytes are kept as should be; other lines stand after it only where it is ended
pub record IsFrontLine (l : LeftLine) (rest : List LeftLine) : Type 0 where
  pub kept : length l.bytes ≡ kept_of l.len
  pub alone : l.ended ≡ false → rest ≡ []

abbrev pub HasFrontLine : List LeftLine → Type 0
HasFrontLine ls = (l : LeftLine) (rest : List LeftLine) → ls ≡ l ∷ rest → IsFrontLine l rest

-- what holds of each input between its calls
pub record IsInput (s : InputData) : Type 0 where
  pub fed : s.fed ≤ MAX_SCRIPT + 1
  pub size : size_of s.lines ≤ s.fed
  pub past : MAX_SCRIPT < s.fed → s.lines ≢ []
  pub cause : (why : LineBad) → s.refusal ≡ Some why → IsCause s why
