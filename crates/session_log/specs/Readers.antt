-- Reading a log that comes in pieces: what a reader keeps of the bytes fed, and what loading gives when others follow.
use Rattle.std.specs.Prelude.{◌≡◌, ◌≢◌, ◌⊎◌, ◌↔◌, ℕ, ◌<◌, true, false, List, [], ◌++◌, Option, Some, None, Err, length, take}
use Rattle.context_diff.specs.Operations.{OpData}
use Rattle.wire_codec.specs.declared.fault.Refused.TheVariants.{More}
use Rattle.wire_codec.specs.declared.version.Version.{Version}
use Rattle.wire_codec.specs.Judging.{judge}
use Rattle.cot_site.specs.States.{State}
use Rattle.session_log.specs.declared.headers.TheConstants.{HEADER_LEN}
use Rattle.session_log.specs.declared.log_bad.LogBad.{LogBad}
use Rattle.session_log.specs.declared.log_bad.LogBad.TheVariants as bad
use Rattle.session_log.specs.Logs.{header, BeginsWith, IsLogOf}
use Rattle.session_log.specs.Readings.{IsUnread}
use Rattle.session_log.specs.Loadings.{after_all, AreTakenIn, new_state, IsLoaded, IsUnloaded}
use Rattle.session_log.specs.ReaderData.{ReaderData}

-- however the bytes go on, this is why they are not read
abbrev pub IsFaultOf : List ℕ → LogBad → Type 0
IsFaultOf all why = (why ≢ bad.Memory) × ((more : List ℕ) → IsUnread (all ++ more) why)

-- however the bytes go on, this is why they are not loaded, unless they are no log
abbrev pub IsRefusalOf : ℕ → List ℕ → LogBad → Type 0
IsRefusalOf site all why =
    (why ≢ bad.Memory) × ((more : List ℕ) (ops : List OpData) → IsLogOf (all ++ more) ops → IsUnloaded site (all ++ more) why)

-- these operations were taken in, and gave this state, unless one of them was refused
abbrev pub AreTakenTo : ℕ → List ℕ → List OpData → State → Option LogBad → Type 0
AreTakenTo site all ops s None = AreTakenIn (new_state site) ops × (s ≡ after_all (new_state site) ops)
AreTakenTo site all ops s (Some why) = IsRefusalOf site all why

-- after the header of this version the bytes are the frames of some operations, which were taken in, and then what is left
pub record HasTaken (site : ℕ) (v : Version) (all left : List ℕ) (s : State) (refused : Option LogBad) : Type 0 where
  pub ops : List OpData
  pub begins : BeginsWith v all ops left
  pub taken : AreTakenTo site all ops s refused

-- what is left begins with no whole frame of this version yet
abbrev pub NeedsMore : Version → List ℕ → Type 0
NeedsMore v left = (n : ℕ) × (judge v left ≡ Err (More n))

-- the header was read, and each whole frame after it
pub record HasRead (r : ReaderData) (all : List ℕ) : Type 0 where
  pub read : r.header ≡ true
  pub taken : HasTaken r.site r.version all r.left r.state r.refused
  pub needs : NeedsMore r.version r.left

-- the bytes are the front of the header of this version, and not the whole of it
pub record AwaitsHeader (r : ReaderData) (all : List ℕ) : Type 0 where
  pub unread : r.header ≡ false
  pub few : length all < HEADER_LEN
  pub front : all ≡ take (length all) (header r.version)
  pub left : r.left ≡ []
  pub state : r.state ≡ new_state r.site
  pub accepted : r.refused ≡ None

-- the bytes have a fault, and it is the first one; or else they were read as far as they go
abbrev pub KeepsOf : ReaderData → List ℕ → Option LogBad → Type 0
KeepsOf r all None = AwaitsHeader r all ⊎ HasRead r all
KeepsOf r all (Some why) = IsFaultOf all why

-- what the reader keeps is what loading leaves of these bytes, all that were fed
pub record Keeps (r : ReaderData) (all : List ℕ) : Type 0 where
  pub live : r.spent ≡ false
  pub fed : r.fed ≡ length all
  pub kept : KeepsOf r all r.fault

-- LoadOn, a state: loading gives it when these bytes and then the end follow what the reader keeps
pub record IsLoadedOn (r : ReaderData) (more : List ℕ) (s : State) : Type 0 where
  pub all : List ℕ
  pub keeps : Keeps r all
  pub loaded : IsLoaded r.site (all ++ more) s

-- LoadOn, the first refusal
pub record IsUnloadedOn (r : ReaderData) (more : List ℕ) (why : LogBad) : Type 0 where
  pub all : List ℕ
  pub keeps : Keeps r all
  pub unloaded : IsUnloaded r.site (all ++ more) why

-- a reader that keeps something was never out of memory
abbrev pub KeepsSome : ReaderData → Type 0
KeepsSome r = (all : List ℕ) × Keeps r all

-- with what came of a header before, where so many bytes were fed, the piece is the header and then some bytes
pub record GoesPastHeader (fed : ℕ) (piece : List ℕ) : Type 0 where
  pub version : Version
  pub rest : List ℕ
  pub some : rest ≢ []
  pub parts : take fed (header version) ++ piece ≡ header version ++ rest

-- whatever follows is loaded, or refused, as what follows these bytes at the reader before
pub record GoesOn (old : ReaderData) (piece : List ℕ) (new : ReaderData) : Type 0 where
  pub loaded : (more : List ℕ) (s : State) → IsLoadedOn new more s ↔ IsLoadedOn old (piece ++ more) s
  pub refused : (more : List ℕ) (why : LogBad) → IsUnloadedOn new more why ↔ IsUnloadedOn old (piece ++ more) why

-- whatever follows is loaded, or refused, as a log at a site of this number
pub record Begins (site : ℕ) (r : ReaderData) : Type 0 where
  pub loaded : (bytes : List ℕ) (s : State) → IsLoadedOn r bytes s ↔ IsLoaded site bytes s
  pub refused : (bytes : List ℕ) (why : LogBad) → IsUnloadedOn r bytes why ↔ IsUnloaded site bytes why

-- what a reader keeps decides what loading gives: of any bytes of which it keeps that, whatever follows, the same
abbrev pub OneLoadOn : Type 0
OneLoadOn =
    (r : ReaderData) (a b more : List ℕ)
    → Keeps r a
    → Keeps r b
    → ((s : State) → IsLoaded r.site (a ++ more) s → IsLoaded r.site (b ++ more) s)
    × ((why : LogBad) → IsUnloaded r.site (a ++ more) why → IsUnloaded r.site (b ++ more) why)
