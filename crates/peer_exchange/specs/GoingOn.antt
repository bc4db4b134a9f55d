-- Going on after running out of memory: the same call with the same bytes does what it would have done at first.
use Rattle.std.specs.Prelude.{◌≡◌, ℕ, List, [], ◌∷◌}
use Rattle.context_vector.specs.Contexts.{ContextData}
use Rattle.context_diff.specs.Operations.{OpData}
use Rattle.cot_site.specs.States.{State}
use Rattle.cot_site.specs.Releases.{IsSound}
use Rattle.peer_exchange.specs.declared.peer.Peer.TheVariants as peer
use Rattle.peer_exchange.specs.Messages.{IsSecond, IsThird}
use Rattle.peer_exchange.specs.Taking.{all_taken_in}
use Rattle.peer_exchange.specs.Closing.{IsClosed, IsFinished, IsUnclosed, IsUnfinished}

-- the call was made once for each of these states, each time out of memory, and left them, one after the other
abbrev pub AreLeft : (State → State → Type 0) → State → List State → Type 0
AreLeft left s [] = Unit {0}
AreLeft left s (t ∷ ts) = left s t × AreLeft left t ts

-- the last of these states, the first one if there is none
abbrev pub last_left : State → List State → State
last_left s [] = s
last_left s (t ∷ ts) = last_left t ts

-- `close` was out of memory each time
abbrev pub AreUnclosed : List ℕ → State → List State → Type 0
AreUnclosed second = AreLeft (λ s t. IsUnclosed s second t peer.Memory)

-- `finish` was out of memory each time
abbrev pub AreUnfinished : List ℕ → State → List State → Type 0
AreUnfinished third = AreLeft (λ s t. IsUnfinished s third t peer.Memory)

-- however often the call was out of memory: the operations of the message are then taken in as they would have been at first, or
-- refused at the same one; and where the call is done at last, it leaves, answers and writes what it would have at first
pub record GoingOnAfterMemory : Type 0 where
  pub taken_by_close : (joiner : State) (states : List State) (second : List ℕ) (state : ContextData) (os : List OpData) → IsSound joiner
      → AreUnclosed second joiner states → IsSecond second state os → all_taken_in (last_left joiner states) os ≡ all_taken_in joiner os
  pub closed : (joiner joiner_after : State) (states : List State) (second before now : List ℕ) (counts : ℕ × ℕ) → IsSound joiner
      → AreUnclosed second joiner states → IsClosed (last_left joiner states) second joiner_after before now counts
      → IsClosed joiner second joiner_after before now counts
  pub taken_by_finish : (server : State) (states : List State) (third : List ℕ) (os : List OpData) → IsSound server
      → AreUnfinished third server states → IsThird third os → all_taken_in (last_left server states) os ≡ all_taken_in server os
  pub finished : (server server_after : State) (states : List State) (third : List ℕ) (count : ℕ) → IsSound server
      → AreUnfinished third server states → IsFinished (last_left server states) third server_after count
      → IsFinished server third server_after count
