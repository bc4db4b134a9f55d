-- The words that spell commands, and what other words lead to.
use Rattle.std.specs.Prelude.{◌≡◌, ◌≢◌, ◌<◌, ◌≤◌, ◌^◌, ℕ, List, [], ◌∷◌, codes, decimal, map, string_bytes, String}
use Rattle.op_name.specs.NameData.{IsName}
use Rattle.op_name.specs.declared.name.TheConstants.{SITES}
use Rattle.context_vector.specs.Contexts.{IsContext}
use Rattle.site_answers.specs.Names.{name_text, member_text, group_text}
use Rattle.script_text.specs.Fields.{IsMemberInRange}
use Rattle.script_text.specs.Report.{listed, count_text}
use Rattle.session_replay.specs.declared.generator.TheConstants.{MAX_EVENTS, MAX_WINDOW}
use Rattle.log_replies.specs.Editing.{EditData, Ins, Run, Nl, Del, Undo, Redo}
use Rattle.log_replies.specs.Outside.{Outside, IsWritten, IsCutOff}
use Rattle.log_replies.specs.declared.status.Status.{Status}
use Rattle.log_replies.specs.declared.status.Status.TheVariants.{Done, Refused, Words, ReadFault, WriteFault, Memory, LinkFault, PeerRefused}
use Rattle.cotpad_run.specs.declared.command.TheConstants.{MAX_PORT}
use Rattle.cotpad_run.specs.Commands.{CommandData, Replay, Show, Edit, Upgrade, History, Digest, Gen, Explain, Where, Find, At, Playback, Serve, Join, Loop, Help, DashedHelp, Version, DashedVersion}

-- the words of an edit, after its site: a row for each. A text is one word
abbrev pub edit_words : EditData → List (List ℕ)
edit_words (Ins place text) = codes "ins" ∷ decimal place ∷ text ∷ []
edit_words (Run place text) = codes "run" ∷ decimal place ∷ text ∷ []
edit_words (Nl place) = codes "nl" ∷ decimal place ∷ []
edit_words (Del place) = codes "del" ∷ decimal place ∷ []
edit_words (Undo name) = codes "undo" ∷ name_text name ∷ []
edit_words (Redo name) = codes "redo" ∷ name_text name ∷ []

-- the words of a command: a row for each
abbrev pub command_words : CommandData → List (List ℕ)
command_words Replay = codes "replay" ∷ []
command_words Show = codes "show" ∷ []
command_words (Edit site edit) = codes "edit" ∷ decimal site ∷ edit_words edit
command_words Upgrade = codes "upgrade" ∷ []
command_words History = codes "history" ∷ []
command_words Digest = codes "digest" ∷ []
command_words (Gen start events window) = codes "gen" ∷ decimal start ∷ decimal events ∷ decimal window ∷ []
command_words (Explain m) = codes "explain" ∷ member_text m ∷ []
command_words (Where place) = codes "where" ∷ decimal place ∷ []
command_words (Find line column) = codes "find" ∷ decimal line ∷ decimal column ∷ []
command_words (At c) = codes "at" ∷ listed (map count_text c.counts) ∷ listed (map (λ e. group_text e.0 e.1) c.entries) ∷ []
command_words Playback = codes "playback" ∷ []
command_words (Serve port) = codes "serve" ∷ decimal port ∷ []
command_words (Join port) = codes "join" ∷ decimal port ∷ []
command_words (Loop start) = codes "loop" ∷ decimal start ∷ []
command_words Help = codes "help" ∷ []
command_words DashedHelp = codes "--help" ∷ []
command_words Version = codes "version" ∷ []
command_words DashedVersion = codes "--version" ∷ []

-- the parts of an edit are in range; a text isn't empty
abbrev pub IsEditInRange : EditData → Type 0
IsEditInRange (Ins place text) = (place < 2 ^ 32) × (text ≢ [])
IsEditInRange (Run place text) = (place < 2 ^ 32) × (text ≢ [])
IsEditInRange (Nl place) = place < 2 ^ 32
IsEditInRange (Del place) = place < 2 ^ 32
IsEditInRange (Undo name) = IsName name.site name.number
IsEditInRange (Redo name) = IsName name.site name.number

-- a port: 1 to 65,535
abbrev pub IsPort : ℕ → Type 0
IsPort port = (1 ≤ port) × (port ≤ MAX_PORT)

-- the parts of a command are in range
abbrev pub IsInRange : CommandData → Type 0
IsInRange Replay = Unit {0}
IsInRange Show = Unit {0}
IsInRange (Edit site edit) = (site < SITES) × IsEditInRange edit
IsInRange Upgrade = Unit {0}
IsInRange History = Unit {0}
IsInRange Digest = Unit {0}
IsInRange (Gen start events window) = (start < 2 ^ 64) × (events ≤ MAX_EVENTS) × (1 ≤ window) × (window ≤ MAX_WINDOW)
IsInRange (Explain m) = IsMemberInRange m
IsInRange (Where place) = place < 2 ^ 32
IsInRange (Find line column) = (line < 2 ^ 32) × (column < 2 ^ 32)
IsInRange (At c) = IsContext c
IsInRange Playback = Unit {0}
IsInRange (Serve port) = IsPort port
IsInRange (Join port) = IsPort port
IsInRange (Loop start) = start < 2 ^ 64
IsInRange Help = Unit {0}
IsInRange DashedHelp = Unit {0}
IsInRange Version = Unit {0}
IsInRange DashedVersion = Unit {0}

-- the words spell the command, in the one way in which it is spelled
abbrev pub Spells : {A : Type 0} → List (String A) → CommandData → Type 0
Spells words command = (map string_bytes words ≡ command_words command) × IsInRange command

-- they spell none
abbrev pub SpellNothing : {A : Type 0} → List (String A) → Type 0
SpellNothing words = (command : CommandData) → ¬ Spells words command

-- they spell no command of which this holds
abbrev pub SpellNone : {A : Type 0} → (CommandData → Type 0) → List (String A) → Type 0
SpellNone Holds words = (command : CommandData) → Spells words command → ¬ Holds command

-- what is written then: `cotpad: words` and a line feed
abbrev pub words_line : List ℕ
words_line = codes "cotpad: words\n"

-- words that spell no command are answered by their line, unless a write fails
abbrev pub AreWrongWords : Outside → Outside → Status → Type 0
AreWrongWords old new Done = ⊥
AreWrongWords old new Refused = ⊥
AreWrongWords old new Words = IsWritten words_line old new
AreWrongWords old new ReadFault = ⊥
AreWrongWords old new WriteFault = IsCutOff words_line old new
AreWrongWords old new Memory = ⊥
AreWrongWords old new LinkFault = ⊥
AreWrongWords old new PeerRefused = ⊥
