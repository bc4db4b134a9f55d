-- What reading a line answers, with the causes in their order.
use Rattle.std.specs.Prelude.{◌≡◌, ℕ, ◌<◌, ◌≤◌, ◌==◌, List, [], ◌∷◌, length, codes, bytes_eq, Option, Some, None, IsSome, IsSomeAnd, Result, Ok, Err, if◌then◌else◌}
use Rattle.std.specs.Str.{IsUtf8}
use Rattle.script_text.specs.declared.reading.line.Line.{Line}
use Rattle.script_text.specs.declared.reading.line.Line.TheVariants.{Blank, Sync}
use Rattle.script_text.specs.declared.reading.line.LineBad.{LineBad}
use Rattle.script_text.specs.declared.reading.line.LineBad.TheVariants.{Limit, Long, Utf8, Form, Memory}
use Rattle.script_text.specs.declared.reading.parse.TheConstants.{LONGEST}
use Rattle.script_text.specs.Fields.{cut, IsText, ◌>>=◌}
use Rattle.script_text.specs.Lines.{HasContent}
use Rattle.script_text.specs.Rows.{table, row_in}

-- what a text says as a line, if it is one
unfoldable pub line_in : List ℕ → Option Line
line_in [] = Some Blank
line_in (b ∷ bs) =
    if b == 35 then Some Blank
    else (if bytes_eq (b ∷ bs) (codes "sync") then Some Sync
    else (cut 32 (b ∷ bs) >>= λ p. row_in table p.0 p.1))

-- a reader's answer where only the form can be wrong; out of memory only where there is something to keep
abbrev pub FormAnswers : {X : Type 0} → Result X LineBad → Option X → Type 0
FormAnswers (Ok x) o = o ≡ Some x
FormAnswers (Err Form) o = o ≡ None
FormAnswers (Err Memory) o = IsSome o
FormAnswers (Err Limit) o = ⊥
FormAnswers (Err Long) o = ⊥
FormAnswers (Err Utf8) o = ⊥

-- the same of lines, of which those with a text or bytes are kept
abbrev pub LineAnswers : Result Line LineBad → Option Line → Type 0
LineAnswers (Ok x) o = o ≡ Some x
LineAnswers (Err Form) o = o ≡ None
LineAnswers (Err Memory) o = IsSomeAnd o HasContent
LineAnswers (Err Limit) o = ⊥
LineAnswers (Err Long) o = ⊥
LineAnswers (Err Utf8) o = ⊥

-- the answer for these bytes: the first cause that holds, else the line; no limit of an input is known here
abbrev pub Answers : List ℕ → Result Line LineBad → Type 0
Answers bs (Err Limit) = ⊥
Answers bs (Err Long) = LONGEST < length bs
Answers bs (Err Utf8) = (length bs ≤ LONGEST) × (IsUtf8 bs → ⊥)
Answers bs (Err Form) = IsText bs × (line_in bs ≡ None)
Answers bs (Err Memory) = IsText bs × IsSomeAnd (line_in bs) HasContent
Answers bs (Ok line) = IsText bs × (line_in bs ≡ Some line)

-- the answer is the line, or out of memory
abbrev pub IsReadAs : Result Line LineBad → Line → Type 0
IsReadAs (Ok l) line = l ≡ line
IsReadAs (Err Memory) line = Unit {0}
IsReadAs (Err Limit) line = ⊥
IsReadAs (Err Long) line = ⊥
IsReadAs (Err Utf8) line = ⊥
IsReadAs (Err Form) line = ⊥
