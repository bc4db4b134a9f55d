-- What a reader does next, and what is written for it.
use Rattle.std.specs.Prelude.{◌≡◌, ℕ, Bool, true, false, List, ◌++◌, Some}
use Rattle.script_text.specs.declared.reading.line.LineBad.{LineBad}
use Rattle.script_text.specs.declared.report.refusal.Refusal.{Refusal}
use Rattle.script_text.specs.Report.{Report, refused_text}
use Rattle.session_replay.specs.declared.script.Next.{Next}
use Rattle.session_replay.specs.declared.script.Next.TheVariants.{Done, Awaited, Refused}
use Rattle.session_replay.specs.Answers.{unread_by}
use Rattle.session_replay.specs.Scripts.{prepended}

-- a report is what was written up to a line that was read, and after it the report of the rest, unless the line is refused
abbrev pub Follows : Next → Report → List ℕ → Report → Type 0
Follows Done whole written rest = whole ≡ prepended written rest
Follows Awaited whole written rest = ⊥
Follows Refused whole written rest = whole ≡ record { written = written; refused = true }

-- whether a script ends here refused
abbrev pub is_refused : Next → Bool
is_refused Done = false
is_refused Awaited = false
is_refused Refused = true

-- the refusal of a line that isn't read for this cause was written
pub record TellsRefusal (why : LineBad) (number : ℕ) (old new : List ℕ) : Type 0 where
  pub cause : Refusal
  pub is : unread_by why ≡ Some cause
  pub written : new ≡ old ++ refused_text number cause
