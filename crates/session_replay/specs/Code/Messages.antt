-- Messages as a session in memory has them: each by the site that made it and its place in the history of that site.
use Rattle.std.specs.Prelude.{ℕ, ◌<◌, ◌≤◌, List, [], Contains, length, map, slice_index_or}
use Rattle.op_name.specs.declared.name.TheConstants.{SITES}
use Rattle.context_diff.specs.Operations.{OpData, undoing}
use Rattle.cot_site.specs.States.{State}
use Rattle.cot_site.specs.Sites.{AllFormed}
use Rattle.session_replay.specs.declared.message.Message.{Message}
use Rattle.session_replay.specs.Sessions.{new_site}
use Rattle.session_replay.specs.Code.Knowing.{AreKnown}

-- the history of the site that made a message
abbrev pub history_of : List State → Message → List OpData
history_of ss m = (slice_index_or ss m.site (new_site m.site)).history

-- the operation of a message stands in that history
pub record IsHeld (ss : List State) (m : Message) : Type 0 where
  pub site : m.site < length ss
  pub place : m.place < length (history_of ss m)

-- so do those of these messages
abbrev pub AreHeld : List State → List Message → Type 0
AreHeld ss ms = (m : Message) → Contains ms m → IsHeld ss m

-- what is read where no operation stands; at no message that is held
abbrev pub no_operation : OpData
no_operation = undoing 0 (record { site = 0; number = 0 }) 0 (record { counts = []; entries = [] })

-- the operation of a message
abbrev pub operation_of : List State → Message → OpData
operation_of ss m = slice_index_or (history_of ss m) m.place no_operation

abbrev pub operations_of : List State → List Message → List OpData
operations_of ss ms = map (operation_of ss) ms

-- what a session in memory keeps: there are at most SITES sites; its messages are held, and well formed, and each site has so many of the
-- first of them
pub record IsKept (ss : List State) (ns : List ℕ) (ms : List Message) : Type 0 where
  pub few : length ss ≤ SITES
  pub held : AreHeld ss ms
  pub formed : AllFormed (operations_of ss ms)
  pub known : AreKnown ss ns (operations_of ss ms)
