-- A reader of a script that comes in pieces, as contracts see it.
use Rattle.std.specs.Prelude.{ℕ}
use Rattle.script_text.specs.LeftLines.{InputData}
use Rattle.session_replay.specs.Sessions.{SessionData}

-- the lines that are left, the number of the next one, and the session that the lines before it left
pub record ReaderData : Type 0 where
  pub input : InputData
  pub number : ℕ
  pub session : SessionData
