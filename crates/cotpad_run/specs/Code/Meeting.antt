-- The end of a call whose site met a peer.
use Rattle.std.specs.Prelude.{ℕ, List, Result, Ok, Err}
use Rattle.site_node.specs.declared.node.Node.{Node}
use Rattle.log_replies.specs.declared.status.Status.{Status}
use Rattle.log_replies.specs.declared.status.Status.TheVariants.{Done, Refused, Words, ReadFault, WriteFault, Memory, LinkFault, PeerRefused}
use Rattle.log_replies.specs.Outside.{Outside, IsWritten, IsCutOff}
use Rattle.cotpad_run.specs.Made.{IsMade}
use Rattle.cotpad_run.specs.Code.Stopping.{IsStopTold}

-- what is answered after an exchange: its log is written, or it stopped
abbrev pub IsMetTold : {T : Type 0} → Result T Node → List ℕ → Outside → Outside → Status → Type 0
IsMetTold (Ok counts) log old new status = IsMade log old new status
IsMetTold (Err why) log old new status = IsStopTold why old new status

-- the line of a refused input was written, or a write failed
abbrev pub IsRefusalWritten : List ℕ → Outside → Outside → Status → Type 0
IsRefusalWritten line old new Done = ⊥
IsRefusalWritten line old new Refused = IsWritten line old new
IsRefusalWritten line old new Words = ⊥
IsRefusalWritten line old new ReadFault = ⊥
IsRefusalWritten line old new WriteFault = IsCutOff line old new
IsRefusalWritten line old new Memory = ⊥
IsRefusalWritten line old new LinkFault = ⊥
IsRefusalWritten line old new PeerRefused = ⊥
