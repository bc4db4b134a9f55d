-- The table of words, as it is read.
use Rattle.std.specs.Prelude.{ℕ, ◌==◌, ◌&&◌, nat_le, List, [], ◌∷◌, codes, bytes_eq, length, Option, Some, None, option_map, if◌then◌else◌}
use Rattle.session_replay.specs.declared.generator.TheConstants.{MAX_EVENTS, MAX_WINDOW}
use Rattle.script_text.specs.Fields.{number_of, long_of, site_of, name_of, member_of, ◌>>=◌}
use Rattle.script_text.specs.Sets.{set_of}
use Rattle.log_replies.specs.Editing.{EditData, Ins, Run, Nl, Del, Undo, Redo}
use Rattle.cotpad_run.specs.declared.command.TheConstants.{MAX_PORT}
use Rattle.cotpad_run.specs.Commands.{CommandData, Replay, Show, Edit, Upgrade, History, Digest, Gen, Explain, Where, Find, At, Playback, Serve, Join, Loop, Help, DashedHelp, Version, DashedVersion}

-- the first word and the others, if there is one
abbrev pub first_in : List (List ℕ) → Option (List ℕ × List (List ℕ))
first_in [] = None
first_in (w ∷ ws) = Some (w, ws)

-- the one word, if there is one alone
abbrev pub one_in : List (List ℕ) → Option (List ℕ)
one_in [] = None
one_in (w ∷ []) = Some w
one_in (w ∷ (v ∷ vs)) = None

-- a command of one word
abbrev pub alone_in : CommandData → List (List ℕ) → Option CommandData
alone_in command [] = Some command
alone_in command (w ∷ ws) = None

-- a text that isn't empty
abbrev pub text_in : List ℕ → Option (List ℕ)
text_in text = if length text == 0 then None else Some text

-- a place and a text
unfoldable pub placed_in : List (List ℕ) → Option (ℕ × List ℕ)
placed_in ws = do
  p ← first_in ws
  place ← number_of p.0
  word ← one_in p.1
  text ← text_in word
  Some (place, text)

unfoldable pub nl_in : List (List ℕ) → Option EditData
nl_in ws = do
  word ← one_in ws
  place ← number_of word
  Some (Nl place)

unfoldable pub del_in : List (List ℕ) → Option EditData
del_in ws = do
  word ← one_in ws
  place ← number_of word
  Some (Del place)

unfoldable pub undo_in : List (List ℕ) → Option EditData
undo_in ws = do
  word ← one_in ws
  name ← name_of word
  Some (Undo name)

unfoldable pub redo_in : List (List ℕ) → Option EditData
redo_in ws = do
  word ← one_in ws
  name ← name_of word
  Some (Redo name)

-- the edit of this word and these parts
unfoldable pub edit_row : List ℕ → List (List ℕ) → Option EditData
edit_row word parts =
    if bytes_eq word (codes "ins") then option_map (λ p. Ins p.0 p.1) (placed_in parts)
    else (if bytes_eq word (codes "run") then option_map (λ p. Run p.0 p.1) (placed_in parts)
    else (if bytes_eq word (codes "nl") then nl_in parts
    else (if bytes_eq word (codes "del") then del_in parts
    else (if bytes_eq word (codes "undo") then undo_in parts
    else (if bytes_eq word (codes "redo") then redo_in parts
    else None)))))

unfoldable pub edit_in : List (List ℕ) → Option CommandData
edit_in ws = do
  p ← first_in ws
  site ← site_of p.0
  q ← first_in p.1
  edit ← edit_row q.0 q.1
  Some (Edit site edit)

-- events and a window in their ranges
abbrev pub gen_of : ℕ → ℕ → ℕ → Option CommandData
gen_of start events window =
    if nat_le events MAX_EVENTS && (nat_le 1 window && nat_le window MAX_WINDOW) then Some (Gen start events window) else None

unfoldable pub gen_in : List (List ℕ) → Option CommandData
gen_in ws = do
  p ← first_in ws
  start ← long_of p.0
  q ← first_in p.1
  events ← number_of q.0
  word ← one_in q.1
  window ← number_of word
  gen_of start events window

unfoldable pub explain_in : List (List ℕ) → Option CommandData
explain_in ws = do
  word ← one_in ws
  m ← member_of word
  Some (Explain m)

unfoldable pub where_in : List (List ℕ) → Option CommandData
where_in ws = do
  word ← one_in ws
  place ← number_of word
  Some (Where place)

unfoldable pub find_in : List (List ℕ) → Option CommandData
find_in ws = do
  p ← first_in ws
  line ← number_of p.0
  word ← one_in p.1
  column ← number_of word
  Some (Find line column)

unfoldable pub at_in : List (List ℕ) → Option CommandData
at_in ws = do
  p ← first_in ws
  groups ← one_in p.1
  c ← set_of p.0 groups
  Some (At c)

-- a number that is a port
abbrev pub port_of : ℕ → Option ℕ
port_of n = if nat_le 1 n && nat_le n MAX_PORT then Some n else None

unfoldable pub port_in : List (List ℕ) → Option ℕ
port_in ws = do
  word ← one_in ws
  n ← number_of word
  port_of n

unfoldable pub loop_in : List (List ℕ) → Option CommandData
loop_in ws = do
  word ← one_in ws
  start ← long_of word
  Some (Loop start)

-- the command of this word and these parts
unfoldable pub command_row : List ℕ → List (List ℕ) → Option CommandData
command_row word parts =
    if bytes_eq word (codes "replay") then alone_in Replay parts
    else (if bytes_eq word (codes "show") then alone_in Show parts
    else (if bytes_eq word (codes "edit") then edit_in parts
    else (if bytes_eq word (codes "upgrade") then alone_in Upgrade parts
    else (if bytes_eq word (codes "history") then alone_in History parts
    else (if bytes_eq word (codes "digest") then alone_in Digest parts
    else (if bytes_eq word (codes "gen") then gen_in parts
    else (if bytes_eq word (codes "explain") then explain_in parts
    else (if bytes_eq word (codes "where") then where_in parts
    else (if bytes_eq word (codes "find") then find_in parts
    else (if bytes_eq word (codes "at") then at_in parts
    else (if bytes_eq word (codes "playback") then alone_in Playback parts
    else (if bytes_eq word (codes "serve") then option_map Serve (port_in parts)
    else (if bytes_eq word (codes "join") then option_map Join (port_in parts)
    else (if bytes_eq word (codes "loop") then loop_in parts
    else (if bytes_eq word (codes "help") then alone_in Help parts
    else (if bytes_eq word (codes "--help") then alone_in DashedHelp parts
    else (if bytes_eq word (codes "version") then alone_in Version parts
    else (if bytes_eq word (codes "--version") then alone_in DashedVersion parts
    else None))))))))))))))))))

-- the command that these words spell, if they spell one
unfoldable pub command_in : List (List ℕ) → Option CommandData
command_in ws = first_in ws >>= λ p. command_row p.0 p.1
