-- What a command that reads nothing answers, and what it leaves in the sink.
use Rattle.std.specs.Prelude.{◌≡◌, List, ℕ}
use Rattle.log_replies.specs.declared.status.Status.{Status}
use Rattle.log_replies.specs.declared.status.Status.TheVariants.{Done, Refused, Words, ReadFault, WriteFault, Memory, LinkFault, PeerRefused}
use Rattle.log_replies.specs.Outside.{Outside, IsWritten, IsCutOff}

-- each answer of a command that reads nothing and writes this text
abbrev pub IsMade : List ℕ → Outside → Outside → Status → Type 0
IsMade text old new Done = IsWritten text old new
IsMade text old new Refused = ⊥
IsMade text old new Words = ⊥
IsMade text old new ReadFault = ⊥
IsMade text old new WriteFault = IsCutOff text old new
IsMade text old new Memory = (new.held ≡ old.held) × (new.write_faults ≡ old.write_faults)
IsMade text old new LinkFault = ⊥
IsMade text old new PeerRefused = ⊥

-- each answer of a command that reads nothing, and needs no memory for the text that it writes
abbrev pub IsSaid : List ℕ → Outside → Outside → Status → Type 0
IsSaid text old new Done = IsWritten text old new
IsSaid text old new Refused = ⊥
IsSaid text old new Words = ⊥
IsSaid text old new ReadFault = ⊥
IsSaid text old new WriteFault = IsCutOff text old new
IsSaid text old new Memory = ⊥
IsSaid text old new LinkFault = ⊥
IsSaid text old new PeerRefused = ⊥
