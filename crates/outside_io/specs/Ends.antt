-- The ends of a wire.
use Rattle.std.specs.Prelude.{Result, Option, ◌≡◌, ℕ, List, [], Bool, true, false, Some, if◌then◌else◌}
use Rattle.std.specs.Io.KnownBytes.{ReadConsumes, WriteAppends}
use Rattle.std.specs.Option.{option_map}
use Rattle.outside_io.specs.declared.link.Asked.{Asked}
use Rattle.outside_io.specs.declared.link.Asked.TheVariants.{Nothing, Peer, Pair}

-- whether it is linked; the bytes sent and received at it over all its links, and those to come at it now
pub record End : Type 0 where
  pub linked : Bool
  pub sent : Option (List ℕ)
  pub received : Option (List ℕ)
  pub to_come : Option (List ℕ)

-- an end that was never linked
abbrev pub no_end : End
no_end = record { linked = false; sent = Some []; received = Some []; to_come = Some [] }

-- neither end is linked
pub record IsUnlinked (ends : ℕ → End) : Type 0 where
  pub first : (ends 0).linked ≡ false
  pub second : (ends 1).linked ≡ false

-- each end is linked as it was
pub record KeepLinked (old new : ℕ → End) : Type 0 where
  pub first : (new 0).linked ≡ (old 0).linked
  pub second : (new 1).linked ≡ (old 1).linked

-- no bytes, told where these bytes are told
abbrev pub nothing_of : Option (List ℕ) → Option (List ℕ)
nothing_of known = option_map (λ _. []) known

-- the end once it is linked, with these bytes to come
abbrev pub linked_to : Option (List ℕ) → End → End
linked_to bytes end = record end { linked = true; to_come = bytes }

-- the end once it is unlinked
abbrev pub shut_of : End → End
shut_of end = record end { linked = false; to_come = nothing_of end.to_come }

-- a read at the end: the bytes read were to come and are received
pub record ReadsEnd {E : Type 0} (old new : End) (result : Result ℕ E) (buf : List ℕ) : Type 0 where
  pub linked : new.linked ≡ old.linked
  pub sent : new.sent ≡ old.sent
  pub received : WriteAppends old.received new.received result buf
  pub to_come : ReadConsumes old.to_come new.to_come result buf

-- a write at the end: the bytes written are sent
pub record WritesEnd {E : Type 0} (old new : End) (result : Result ℕ E) (piece : List ℕ) : Type 0 where
  pub linked : new.linked ≡ old.linked
  pub sent : WriteAppends old.sent new.sent result piece
  pub received : new.received ≡ old.received
  pub to_come : new.to_come ≡ old.to_come

-- what of a piece gets to the other end: all on a pair of which that end is linked, and else nothing
abbrev pub brought : Asked → Bool → List ℕ → List ℕ
brought Nothing linked piece = []
brought (Peer role port) linked piece = []
brought Pair linked piece = if linked then piece else []

-- what a write at one end does to the other: the bytes written are to come there
pub record BringsEnd {E : Type 0} (asked : Asked) (old new : End) (result : Result ℕ E) (piece : List ℕ) : Type 0 where
  pub linked : new.linked ≡ old.linked
  pub sent : new.sent ≡ old.sent
  pub received : new.received ≡ old.received
  pub to_come : WriteAppends old.to_come new.to_come result (brought asked old.linked piece)
