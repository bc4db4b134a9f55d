-- What `playback` writes: the text after each operation of the history.
use Rattle.std.specs.Prelude.{ℕ, List}
use Rattle.cot_site.specs.States.{State}
use Rattle.past_view.specs.Playing.{played}
use Rattle.script_text.specs.Report.{Report}
use Rattle.log_replies.specs.Replies.{RepliesToLog, accepting}

-- the reply to the state: each operation of its history, in order, with the lines of the text up to and with it
abbrev pub played_reply : State → Report
played_reply s = accepting (played s.history)

-- `playback`: the log is loaded as site 0
abbrev pub IsPlayedBack : List ℕ → Report → Type 0
IsPlayedBack = RepliesToLog 0 played_reply
