-- The steps of a line: what it does to a session. What is shown may be read in more than one way: a definition that looks at it
-- says how by its first argument, the view that a site in each state has of its text.
use Rattle.std.specs.Prelude.{ℕ, ◌+◌, zero, suc, false, IsTrue, List, [], ◌∷◌, length, drop, encode_utf8_all, slice_get, slice_index, ◌<◌, nat_lt, nat_le, codes, Result, Ok, Err, Option, Some, None, if◌then◌else◌}
use Rattle.std.specs.Str.{all_scalars}
use Rattle.op_name.specs.declared.name.TheConstants.{SITES}
use Rattle.context_diff.specs.Operations.{OpData}
use Rattle.context_diff.specs.Histories.{context_of_all}
use Rattle.cot_site.specs.States.{State as SiteState}
use Rattle.cot_site.specs.Views.{View, history_view}
use Rattle.cot_site.specs.Commands.{run_in, delete_in, local_undo, local_redo}
use Rattle.participant.specs.Runs.{letters, pieces}
use Rattle.site_answers.specs.declared.local.Local.{Local}
use Rattle.wire_codec.specs.Judging.{judge}
use Rattle.wire_codec.specs.declared.fault.Refused.{Refused}
use Rattle.wire_codec.specs.declared.fault.Refused.TheVariants.{More, Bad}
use Rattle.wire_codec.specs.Causes.{cause_word}
use Rattle.wire_codec.specs.declared.version.Version.{Version}
use Rattle.wire_codec.specs.declared.version.Version.TheVariants.{One, Two}
use Rattle.script_text.specs.Report.{shown_text, state_text, raw_bad_text, raw_more_text}
use Rattle.script_text.specs.Lines.{line_site}
use Rattle.script_text.specs.Verdicts.{local_text}
use Rattle.script_text.specs.declared.report.refusal.Refusal.{Refusal}
use Rattle.script_text.specs.declared.report.refusal.Refusal.TheVariants.{NoSites, Twice, NoSite, NoMessage}
use Rattle.script_text.specs.declared.reading.line.Line.{Line}
use Rattle.script_text.specs.declared.reading.line.Line.TheVariants.{Blank, Sites, Ins, Run, Nl, Del, Undo, Redo, Give, All, Sync, Raw, Raw2, Show, State}
use Rattle.session_replay.specs.Steps.{Step, and_then}
use Rattle.session_replay.specs.Sessions.{SessionData, site_at, opened, made, given, given_all, synced}

-- one line is written, and nothing changes
abbrev pub told : List ℕ → SessionData → List (Step SessionData)
told written d = record { written = written; after = d } ∷ []

-- a local command at the site, whose operation or refusal is this
abbrev pub commanded : ℕ → Result OpData Local → SessionData → List (Step SessionData)
commanded i (Ok o) d = made i o d
commanded i (Err why) d = told (local_text why) d

-- an insert that belongs to a line: what follows it, unless it is refused
abbrev pub typed_on : (SessionData → List (Step SessionData)) → ℕ → Result OpData Local → SessionData → List (Step SessionData)
typed_on next i (Ok o) d = and_then d (made i o d) next
typed_on next i (Err why) d = told (local_text why) d

-- an insert of each piece of a text, at visible place v, at that behind it and so on, until one is refused
unfoldable pub typed_in : (SiteState → View) → ℕ → ℕ → List (List ℕ) → SessionData → List (Step SessionData)
typed_in view i v [] d = []
typed_in view i v (p ∷ ps) d = typed_on (typed_in view i (v + length p) ps) i (run_in (view (site_at d i)) (site_at d i) v p) d

-- the same where each site sees what its history shows
abbrev pub typed : ℕ → ℕ → List (List ℕ) → SessionData → List (Step SessionData)
typed i v ps d = typed_in history_view i v ps d

-- the word of the line whose bytes are frames of this version
abbrev pub raw_word : Version → List ℕ
raw_word One = codes "raw"
raw_word Two = codes "raw2"

-- what the bytes of such a line begin with: a frame is delivered, and what follows it goes on; bytes that begin with none are reported
abbrev pub framed_on : (List ℕ → SessionData → List (Step SessionData)) → Version → ℕ → List ℕ → Result (OpData × ℕ) Refused
    → SessionData → List (Step SessionData)
framed_on next v i bytes (Ok p) d = and_then d (given false i p.0 d) (next (drop p.1 bytes))
framed_on next v i bytes (Err (More least)) d = told (raw_more_text (raw_word v) i least) d
framed_on next v i bytes (Err (Bad f)) d = told (raw_bad_text (raw_word v) i (cause_word f.cause) f.offset) d

-- the bytes of such a line, of which each frame has one at least: at most n frames
unfoldable pub framed : Version → ℕ → ℕ → List ℕ → SessionData → List (Step SessionData)
framed v n i [] d = []
framed v zero i (b ∷ bytes) d = []
framed v (suc n) i (b ∷ bytes) d = framed_on (framed v n i) v i (b ∷ bytes) (judge v (b ∷ bytes)) d

-- all frames of the bytes, delivered to the site one after the other
abbrev pub raw_steps : Version → ℕ → List ℕ → SessionData → List (Step SessionData)
raw_steps v i bytes d = framed v (length bytes) i bytes d

-- the lines of a shown text
abbrev pub show_text_in : (SiteState → View) → ℕ → SessionData → List ℕ
show_text_in view i d = let shown = (view (site_at d i)).characters in shown_text (length shown) (encode_utf8_all shown)

-- the same where each site sees what its history shows
abbrev pub show_text : ℕ → SessionData → List ℕ
show_text i d = show_text_in history_view i d

-- the line of a site's state
abbrev pub have_text : ℕ → SessionData → List ℕ
have_text i d = let s = site_at d i in state_text i (context_of_all s.history) (length s.waiting)

-- the message of a number, if it was made, to the site
abbrev pub given_message : ℕ → Option OpData → SessionData → Result (List (Step SessionData)) Refusal
given_message i None d = Err NoMessage
given_message i (Some o) d = Ok (given false i o d)

-- steps once sites are made
abbrev pub once_started : SessionData → Result (List (Step SessionData)) Refusal → Result (List (Step SessionData)) Refusal
once_started d steps = if nat_lt 0 (length d.sites) then steps else Err NoSites

-- steps at a site, if they speak of one: where it is there
abbrev pub at_site_of : Option ℕ → SessionData → Result (List (Step SessionData)) Refusal → Result (List (Step SessionData)) Refusal
at_site_of None d steps = steps
at_site_of (Some i) d steps = once_started d (if nat_lt i (length d.sites) then steps else Err NoSite)

-- the making of n sites, if there can be so many and none are made yet
abbrev pub opening : ℕ → SessionData → Result (List (Step SessionData)) Refusal
opening n d = if nat_lt 0 (length d.sites) then Err Twice else if nat_le n SITES then Ok (told [] (opened n)) else Err NoSite

-- what a line does at its site, which is there if it speaks of one
abbrev pub steps_there_in : (SiteState → View) → Line → SessionData → Result (List (Step SessionData)) Refusal
steps_there_in view Blank d = Ok []
steps_there_in view (Sites n) d = opening n d
steps_there_in view (Ins i v text) d = Ok (typed_in view i v (letters text) d)
steps_there_in view (Run i v text) d = Ok (typed_in view i v (pieces text) d)
steps_there_in view (Nl i v) d = Ok (commanded i (run_in (view (site_at d i)) (site_at d i) v (10 ∷ [])) d)
steps_there_in view (Del i v) d = Ok (commanded i (delete_in (view (site_at d i)) (site_at d i) v) d)
steps_there_in view (Undo i t) d = Ok (commanded i (local_undo (site_at d i) t) d)
steps_there_in view (Redo i t) d = Ok (commanded i (local_redo (site_at d i) t) d)
steps_there_in view (Give i m) d = given_message i (slice_get d.messages m) d
steps_there_in view (All i) d = Ok (given_all i d.messages d)
steps_there_in view Sync d = once_started d (Ok (synced 0 (length d.sites) d))
steps_there_in view (Raw i bytes) d = Ok (raw_steps One i bytes d)
steps_there_in view (Raw2 i bytes) d = Ok (raw_steps Two i bytes d)
steps_there_in view (Show i) d = Ok (told (show_text_in view i d) d)
steps_there_in view (State i) d = Ok (told (have_text i d) d)

-- the same where each site sees what its history shows
abbrev pub steps_there : Line → SessionData → Result (List (Step SessionData)) Refusal
steps_there line d = steps_there_in history_view line d

-- the steps of a line, or why it is refused
abbrev pub line_steps_in : (SiteState → View) → Line → SessionData → Result (List (Step SessionData)) Refusal
line_steps_in view line d = at_site_of (line_site line) d (steps_there_in view line d)

-- the same where each site sees what its history shows
abbrev pub line_steps : Line → SessionData → Result (List (Step SessionData)) Refusal
line_steps line d = line_steps_in history_view line d

-- what the types of a line's parts say: its text is characters, its bytes are bytes
abbrev pub AreValues : Line → Type 0
AreValues Blank = Unit {0}
AreValues (Sites n) = Unit {0}
AreValues (Ins i v text) = IsTrue (all_scalars text)
AreValues (Run i v text) = IsTrue (all_scalars text)
AreValues (Nl i v) = Unit {0}
AreValues (Del i v) = Unit {0}
AreValues (Undo i t) = Unit {0}
AreValues (Redo i t) = Unit {0}
AreValues (Give i m) = Unit {0}
AreValues (All i) = Unit {0}
AreValues Sync = Unit {0}
AreValues (Raw i bytes) = (k : ℕ) → slice_index bytes k < 256
AreValues (Raw2 i bytes) = (k : ℕ) → slice_index bytes k < 256
AreValues (Show i) = Unit {0}
AreValues (State i) = Unit {0}
