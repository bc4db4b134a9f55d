-- What a site becomes by the frames that it gets, and why one isn't taken in.
use Rattle.std.specs.Prelude.{◌≡◌, ◌⊎◌, ℕ, Bool, true, false, List, [], ◌∷◌, ◌++◌}
use Rattle.context_diff.specs.Operations.{OpData}
use Rattle.wire_codec.specs.declared.version.Version.TheVariants.{Two}
use Rattle.wire_codec.specs.Judging.{IsFrame}
use Rattle.wire_codec.specs.Answers.{HasFrame}
use Rattle.site_answers.specs.declared.release.Release.{Release}
use Rattle.site_answers.specs.declared.verdict.Verdict.{Verdict}
use Rattle.site_answers.specs.declared.verdict.Verdict.TheVariants.{Repeat, Forged, Waits, NotClosed, PlaceOut, Integrated}
use Rattle.cot_site.specs.States.{State, judged, delivered}
use Rattle.cot_site.specs.Releases.{settled, IsPartlySettled}
use Rattle.uses.specs.declared.stop.Stop.{Stop}
use Rattle.uses.specs.declared.stop.Stop.TheVariants as stop

-- an operation with this verdict is taken in: it is integrated, it waits, or it was there already
abbrev pub is_taken : Verdict → Bool
is_taken Repeat = true
is_taken (Forged n) = false
is_taken (Waits m) = true
is_taken (NotClosed s) = false
is_taken (PlaceOut p k) = false
is_taken Integrated = true

-- the state after these operations were delivered, the last one first, with everything that was ready released after each
abbrev pub last_first : State → List OpData → State
last_first s [] = s
last_first s (o ∷ os) = settled (delivered (last_first s os) o)

-- and each of them was taken in when it was delivered; one that waits may still be refused at its release
abbrev pub AreTaken : State → List OpData → Type 0
AreTaken s [] = Unit {0}
AreTaken s (o ∷ os) = (is_taken (judged (last_first s os) o) ≡ true) × AreTaken s os

-- Received: the bytes begin with the frame of an operation, which is taken in, and then everything that was ready was released
pub record IsReceived (bytes : List ℕ) (s t : State) : Type 0 where
  pub op : OpData
  pub used : ℕ
  pub begins : IsFrame Two bytes op used
  pub taken : is_taken (judged s op) ≡ true
  pub state : t ≡ settled (delivered s op)

-- the state where memory ran out: the old one; or the operation was delivered and isn't refused, and only some of what was ready
-- then was released
abbrev pub IsBrokenOff : OpData → State → State → Type 0
IsBrokenOff o s t = (t ≡ s) ⊎ ((is_taken (judged s o) ≡ true) × ((listed : List Release) × IsPartlySettled (delivered s o) t [] listed))

-- the bytes begin with the frame of an operation, and memory ran out
pub record IsOfBrokenOff (bytes : List ℕ) (s t : State) : Type 0 where
  pub op : OpData
  pub used : ℕ
  pub begins : IsFrame Two bytes op used
  pub state : IsBrokenOff op s t

-- the bytes begin with the frame of an operation that is refused
pub record IsOfRefused (bytes : List ℕ) (s : State) : Type 0 where
  pub op : OpData
  pub used : ℕ
  pub begins : IsFrame Two bytes op used
  pub refused : is_taken (judged s op) ≡ false

-- why bytes were not received: they begin with no frame, or their operation is refused, and either way the state stays; or out of
-- memory, which comes only where they begin with a frame
abbrev pub IsUnreceived : List ℕ → State → State → Stop → Type 0
IsUnreceived bytes s t stop.Memory = IsOfBrokenOff bytes s t
IsUnreceived bytes s t stop.Edit = ⊥
IsUnreceived bytes s t stop.NoFrame = (¬ HasFrame Two bytes) × (t ≡ s)
IsUnreceived bytes s t stop.Refused = IsOfRefused bytes s × (t ≡ s)
IsUnreceived bytes s t stop.Apart = ⊥
IsUnreceived bytes s t (stop.Output error) = ⊥

-- why sending an operation failed: the other site refuses it and stays as it was; or out of memory
abbrev pub IsUnsent : OpData → State → State → Stop → Type 0
IsUnsent o s t stop.Memory = IsBrokenOff o s t
IsUnsent o s t stop.Edit = ⊥
IsUnsent o s t stop.NoFrame = ⊥
IsUnsent o s t stop.Refused = (is_taken (judged s o) ≡ false) × (t ≡ s)
IsUnsent o s t stop.Apart = ⊥
IsUnsent o s t (stop.Output error) = ⊥

-- sending stopped at this operation: those after it in the list had been taken in, those before it weren't sent
pub record IsPartlySent (h : List OpData) (s t : State) (why : Stop) : Type 0 where
  pub before : List OpData
  pub op : OpData
  pub after : List OpData
  pub parts : h ≡ before ++ op ∷ after
  pub taken : AreTaken s after
  pub unsent : IsUnsent op (last_first s after) t why
