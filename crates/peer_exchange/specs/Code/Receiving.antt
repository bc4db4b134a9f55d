-- Taking in the operations of a message, one frame after the other.
use Rattle.std.specs.Prelude.{◌≡◌, ℕ, Bool, ◌||◌, ◌==◌, ◌≤◌, nat_lt, List, [], ◌∷◌, ◌++◌, length, drop, Option, Some, None, Err}
use Rattle.context_vector.specs.Contexts.{ContextData}
use Rattle.context_diff.specs.Operations.{OpData}
use Rattle.context_diff.specs.declared.op.Op.{Op}
use Rattle.context_diff.specs.Ops.{data_of}
use Rattle.cot_site.specs.States.{State}
use Rattle.wire_codec.specs.declared.version.Version.TheVariants.{Two}
use Rattle.wire_codec.specs.Spelling.{frame}
use Rattle.wire_codec.specs.Judging.{length_of}
use Rattle.wire_codec.specs.States.{IsState}
use Rattle.peer_exchange.specs.declared.peer.Peer.{Peer}
use Rattle.peer_exchange.specs.declared.peer.Peer.TheVariants as peer
use Rattle.peer_exchange.specs.Messages.{telling, IsThird}
use Rattle.peer_exchange.specs.Taking.{all_taken_in, IsRefusedAt, IsBefore, IsOnTheWay}

-- the bytes begin with no frame, but with the length 0 of an end mark
abbrev pub no_frame : List ℕ → Bool
no_frame bytes = nat_lt (length bytes) 4 || (length_of bytes == 0)

-- why one operation wasn't taken in, and what that leaves: a refusal leaves nothing of it, running out of memory perhaps some of it
abbrev pub IsOneUntaken : State → OpData → State → Peer → Type 0
IsOneUntaken s o t (peer.Bytes offset cause) = ⊥
IsOneUntaken s o t (peer.Op member verdict) = (t ≡ s) × (all_taken_in s (o ∷ []) ≡ Err (record { member = member; verdict = verdict }))
IsOneUntaken s o t peer.Memory = IsBefore s (o ∷ []) t

-- why these operations weren't all taken in
abbrev pub AreUntaken : State → List OpData → State → Peer → Type 0
AreUntaken s os t (peer.Bytes offset cause) = ⊥
AreUntaken s os t (peer.Op member verdict) = IsRefusedAt s os t (record { member = member; verdict = verdict })
AreUntaken s os t peer.Memory = IsOnTheWay s os t

-- the first operation of the list, with the number of the bytes of its frame; or that there is none
abbrev pub IsFirstOf : List ℕ → List OpData → Option (Op × ℕ) → Type 0
IsFirstOf bytes [] None = Unit {0}
IsFirstOf bytes [] (Some p) = ⊥
IsFirstOf bytes (o ∷ os) None = ⊥
IsFirstOf bytes (o ∷ os) (Some p) = (data_of p.0 ≡ o) × (p.1 ≡ length (frame Two o))

-- the state that a second message tells, and the place at which its frames begin
pub record IsToldUpTo (second : List ℕ) (state : ContextData) (at : ℕ) : Type 0 where
  pub within : at ≤ length second
  pub is : IsState state
  pub parts : second ≡ telling state ++ drop at second
  pub frames : (os : List OpData) × IsThird (drop at second) os
