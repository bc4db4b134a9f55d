-- What `close` and `finish` make of a message.
use Rattle.std.specs.Prelude.{◌≡◌, ℕ, List, ◌++◌, Ok, length}
use Rattle.context_vector.specs.Contexts.{ContextData, has}
use Rattle.context_diff.specs.Operations.{OpData}
use Rattle.cot_site.specs.States.{State}
use Rattle.peer_exchange.specs.declared.messages.Which.TheVariants.{Second, Third}
use Rattle.peer_exchange.specs.declared.peer.Peer.{Peer}
use Rattle.peer_exchange.specs.declared.peer.Peer.TheVariants.{Bytes, Op, Memory}
use Rattle.peer_exchange.specs.Joins.{unseen}
use Rattle.peer_exchange.specs.Measuring.{measure_of}
use Rattle.peer_exchange.specs.Messages.{third_message, IsSecond, IsThird}
use Rattle.peer_exchange.specs.Refusals.{Spoils}
use Rattle.peer_exchange.specs.Taking.{all_taken_in, IsRefusedAt, IsOnTheWay}

-- the joiner takes in the operations of the second message, and the third message for the state that the second one tells is appended; the
-- numbers are those of the frames taken and sent
pub record IsClosed (joiner : State) (second : List ℕ) (joiner_after : State) (before now : List ℕ) (counts : ℕ × ℕ) : Type 0 where
  pub state : ContextData
  pub ops : List OpData
  pub read : IsSecond second state ops
  pub taken : all_taken_in joiner ops ≡ Ok joiner_after
  pub appended : now ≡ before ++ third_message joiner_after.history state
  pub received : counts.0 ≡ length ops
  pub sent : counts.1 ≡ length (unseen (has state) joiner_after.history)

-- the server takes in the operations of the third message, which are so many
pub record IsFinished (server : State) (third : List ℕ) (server_after : State) (count : ℕ) : Type 0 where
  pub ops : List OpData
  pub read : IsThird third ops
  pub taken : all_taken_in server ops ≡ Ok server_after
  pub received : count ≡ length ops

-- why the second message wasn't answered, and what that leaves: bytes that aren't one whole message change nothing, a refused
-- operation leaves those before it taken in, and running out of memory a state on the way
abbrev pub IsUnclosed : State → List ℕ → State → Peer → Type 0
IsUnclosed joiner second joiner_after (Bytes offset cause) =
    (joiner_after ≡ joiner) × Spoils (length second) (measure_of Second second) offset cause
IsUnclosed joiner second joiner_after (Op member verdict) =
    (state : ContextData) × (os : List OpData) × IsSecond second state os
    × IsRefusedAt joiner os joiner_after (record { member = member; verdict = verdict })
IsUnclosed joiner second joiner_after Memory =
    (state : ContextData) × (os : List OpData) × IsSecond second state os × IsOnTheWay joiner os joiner_after

-- the same for the third message
abbrev pub IsUnfinished : State → List ℕ → State → Peer → Type 0
IsUnfinished server third server_after (Bytes offset cause) =
    (server_after ≡ server) × Spoils (length third) (measure_of Third third) offset cause
IsUnfinished server third server_after (Op member verdict) =
    (os : List OpData) × IsThird third os × IsRefusedAt server os server_after (record { member = member; verdict = verdict })
IsUnfinished server third server_after Memory = (os : List OpData) × IsThird third os × IsOnTheWay server os server_after
