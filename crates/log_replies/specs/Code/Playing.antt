-- Bytes that are written piece by piece.
use Rattle.std.specs.Prelude.{◌≡◌, Bool, true, false, ℕ, List, Option}
use Rattle.std.specs.Io.KnownBytes.{Appends}
use Rattle.outside_io.specs.Faults.{Rose}
use Rattle.outside_io.specs.Writing.{WritesFront}
use Rattle.log_replies.specs.declared.status.Status.{Status}
use Rattle.log_replies.specs.declared.status.Status.TheVariants.{Done, Refused, Words, ReadFault, WriteFault, Memory, LinkFault, PeerRefused}

-- these bytes, of a reply that refuses something or not, were written to a sink that held this and whose count of faults was so high: all
-- of them, or a front of them until a write failed or, where nothing is refused, memory ran out
abbrev pub IsWrittenOut : Bool → List ℕ → Option (List ℕ) → Option (List ℕ) → ℕ → ℕ → Status → Type 0
IsWrittenOut refused bytes held now before after Done = (refused ≡ false) × Appends held now bytes × (after ≡ before)
IsWrittenOut refused bytes held now before after Refused = (refused ≡ true) × Appends held now bytes × (after ≡ before)
IsWrittenOut refused bytes held now before after Words = ⊥
IsWrittenOut refused bytes held now before after ReadFault = ⊥
IsWrittenOut refused bytes held now before after WriteFault = WritesFront held now bytes × Rose before after
IsWrittenOut refused bytes held now before after Memory = (refused ≡ false) × WritesFront held now bytes × (after ≡ before)
IsWrittenOut refused bytes held now before after LinkFault = ⊥
IsWrittenOut refused bytes held now before after PeerRefused = ⊥
