-- How a call of the program ends.
use Rattle.std.specs.Prelude.{◌≡◌, ℕ, ◌⊎◌}
use Rattle.log_replies.specs.declared.status.Status.{Status}
use Rattle.log_replies.specs.declared.status.Status.TheVariants.{Done, Refused, Words, ReadFault, WriteFault, Memory, LinkFault, PeerRefused}

-- a report was written whole
abbrev pub IsReported : Status → Type 0
IsReported status = (status ≡ Done) ⊎ (status ≡ Refused)

-- the exit status of the process: the place of the variant, from 0
abbrev pub code : Status → ℕ
code Done = 0
code Refused = 1
code Words = 2
code ReadFault = 3
code WriteFault = 4
code Memory = 5
code LinkFault = 6
code PeerRefused = 7
