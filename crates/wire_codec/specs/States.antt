-- States: the members of a site as bytes. A state is spelled as a context of version 2 is, but for the number of runs and their lengths,
-- which have four bytes each and no limit.
use Rattle.std.specs.Prelude.{◌≡◌, ℕ, ◌+◌, ◌*◌, ◌<◌, ◌≤◌, ◌^◌, List, ◌++◌, length, take, drop, Result, Ok, Err, nat_lt, if◌then◌else◌}
use Rattle.std.specs.List.{flat_map}
use Rattle.std.specs.Int.{w16, from_be_bytes}
use Rattle.context_vector.specs.Contexts.{ContextData, IsContext, HasNoStray}
use Rattle.wire_codec.specs.declared.cause.Cause.TheVariants.{Range}
use Rattle.wire_codec.specs.declared.fault.Fault.{Fault}
use Rattle.wire_codec.specs.declared.fault.Unread.{Unread}
use Rattle.wire_codec.specs.declared.fault.Unread.TheVariants.{More, Bad}
use Rattle.wire_codec.specs.declared.state_answers.StateScan.{StateScan}
use Rattle.wire_codec.specs.declared.state_answers.StateScan.TheVariants as scanned
use Rattle.wire_codec.specs.declared.state_answers.DecodedState.{DecodedState}
use Rattle.wire_codec.specs.declared.state_answers.DecodedState.TheVariants as decoded
use Rattle.wire_codec.specs.declared.version.Version.TheVariants.{Two}
use Rattle.wire_codec.specs.declared.listing.Listing.TheVariants.{LongRuns}
use Rattle.wire_codec.specs.Versions.{sites}
use Rattle.wire_codec.specs.Runs.{RunData, names_in}
use Rattle.wire_codec.specs.Spelling.{counts_bytes, entries_bytes}
use Rattle.wire_codec.specs.Reading.{Found, left_at, fault, many, count_at, site_after, run_at, before_next, nothing_before}
use Rattle.wire_codec.specs.Judging.{count_len, run_len, length_of, stray_from}

-- ---- Spelling

-- State: the one spelling of a set of members
unfoldable pub state_bytes : ContextData → List ℕ
state_bytes c = counts_bytes Two c.counts ++ entries_bytes LongRuns c.entries

-- the sets of members that have a spelling: each undone name is an original of the set, and their number fits four bytes
pub record IsState (c : ContextData) : Type 0 where
  pub is : IsContext c
  pub stray : HasNoStray c
  pub few : length c.entries < 2 ^ 32

-- ---- Judging: a list is judged once it is there whole

-- the state that ends here, unless an undone name is no original of it
abbrev pub unless_stray : ContextData → ℕ → Result (Unit {0}) Fault → Result (ContextData × ℕ) Unread
unless_stray c stop (Ok u) = Ok (c, stop)
unless_stray c stop (Err f) = Err (Bad f)

-- the state of these counts and the runs that were read
abbrev pub judge_runs : List (ℕ × ℕ) → ℕ → ℕ → Found (List RunData) → Result (ContextData × ℕ) Unread
judge_runs counts begin stop (Ok r) =
    unless_stray (record { counts = counts; entries = flat_map names_in r.0 }) stop
    (stray_from LongRuns (record { counts = counts; entries = flat_map names_in r.0 }) begin r.0)
judge_runs counts begin stop (Err f) = Err (Bad f)

-- the state of these counts and the runs that the bytes, which begin at this offset, begin with
unfoldable pub judge_named : List (ℕ × ℕ) → ℕ → List ℕ → Result (ContextData × ℕ) Unread
judge_named counts at bytes =
    if nat_lt (length bytes) 4 then Err (More (at + 4))
    else if nat_lt (length bytes) (4 + run_len LongRuns * length_of bytes) then Err (More (at + (4 + run_len LongRuns * length_of bytes)))
    else judge_runs counts (at + 4) (at + (4 + run_len LongRuns * length_of bytes))
    (many (run_at LongRuns) before_next (length_of bytes) nothing_before
    (left_at (at + 4) (take (run_len LongRuns * length_of bytes) (drop 4 bytes))))

-- the same for the counts that were read
abbrev pub judge_counted : ℕ → List ℕ → Found (List (ℕ × ℕ)) → Result (ContextData × ℕ) Unread
judge_counted at rest (Ok c) = judge_named c.0 at rest
judge_counted at rest (Err f) = Err (Bad f)

-- the number that two bytes say
abbrev pub sites_of : List ℕ → ℕ
sites_of bytes = from_be_bytes w16 (take 2 bytes)

-- the state that the bytes begin with, and how many bytes it has
unfoldable pub judge_state : List ℕ → Result (ContextData × ℕ) Unread
judge_state bytes =
    if nat_lt (length bytes) 2 then Err (More 2)
    else if nat_lt (sites Two) (sites_of bytes) then Err (Bad (fault Range 0))
    else if nat_lt (length bytes) (2 + count_len Two * sites_of bytes) then Err (More (2 + count_len Two * sites_of bytes))
    else judge_counted (2 + count_len Two * sites_of bytes) (drop (count_len Two * sites_of bytes) (drop 2 bytes))
    (many (count_at Two) site_after (sites_of bytes) 0 (left_at 2 (take (count_len Two * sites_of bytes) (drop 2 bytes))))

-- ---- What the answers say

-- the first `used` bytes are the spelling of this state
pub record IsStateOf (bytes : List ℕ) (c : ContextData) (used : ℕ) : Type 0 where
  pub is : IsState c
  pub size : used ≡ length (state_bytes c)
  pub parts : bytes ≡ state_bytes c ++ drop used bytes

-- the bytes begin with some state
abbrev pub HasState : List ℕ → Type 0
HasState bytes = (c : ContextData) × (used : ℕ) × IsStateOf bytes c used

-- a fault is in the bytes, and more bytes don't help
pub record IsBadState (bytes : List ℕ) (offset : ℕ) : Type 0 where
  pub within : offset ≤ length bytes
  pub never : (more : List ℕ) → ¬ HasState (bytes ++ more)

-- the judgement without its state
abbrev pub state_scan_of : Result (ContextData × ℕ) Unread → StateScan
state_scan_of (Ok x) = scanned.State x.1
state_scan_of (Err (More n)) = scanned.More n
state_scan_of (Err (Bad f)) = scanned.Bad f.cause f.offset

-- the judgement that an answer is
abbrev pub state_judgement_of : DecodedState → Result (ContextData × ℕ) Unread
state_judgement_of (decoded.Got vector used) = Ok (vector.set, used)
state_judgement_of (decoded.More n) = Err (More n)
state_judgement_of (decoded.Bad cause offset) = Err (Bad (fault cause offset))

-- what each answer says of the bytes
abbrev pub SaysOfState : List ℕ → StateScan → Type 0
SaysOfState bytes (scanned.State used) = (c : ContextData) × IsStateOf bytes c used
SaysOfState bytes (scanned.More n) = length bytes < n
SaysOfState bytes (scanned.Bad cause offset) = IsBadState bytes offset

abbrev pub TellsOfState : List ℕ → DecodedState → Type 0
TellsOfState bytes (decoded.Got vector used) = IsStateOf bytes vector.set used
TellsOfState bytes (decoded.More n) = length bytes < n
TellsOfState bytes (decoded.Bad cause offset) = IsBadState bytes offset
