-- A message that a site took in comes to it again: the host's buffer was too short, or the message was sent twice.
use Rattle.std.specs.Prelude.{◌≡◌, ℕ, List, ◌++◌}
use Rattle.cot_site.specs.States.{State, IsSettled}
use Rattle.cot_site.specs.Releases.{IsSound, IsLater}
use Rattle.peer_exchange.specs.declared.peer.Peer.{Peer}
use Rattle.peer_exchange.specs.declared.peer.Peer.TheVariants as peer
use Rattle.peer_exchange.specs.Closing.{IsClosed, IsFinished, IsUnclosed, IsUnfinished}

-- the site stays as it was, the third message is the same, and so are the numbers of frames
pub record IsClosedAgain (joiner_after joiner_last : State) (third other : List ℕ) (counts others : ℕ × ℕ) : Type 0 where
  pub site : joiner_last ≡ joiner_after
  pub message : other ≡ third
  pub numbers : others ≡ counts

-- after a call that answered, the same call with the same message changes nothing at the site, whatever it answers: it answers and
-- writes the same, or is out of memory
pub record ClosingAgainChangesNothing : Type 0 where
  pub closed : (joiner joiner_after joiner_last : State) (second before again third other : List ℕ) (counts others : ℕ × ℕ)
      → IsSound joiner → IsClosed joiner second joiner_after before (before ++ third) counts
      → IsClosed joiner_after second joiner_last again (again ++ other) others
      → IsClosedAgain joiner_after joiner_last third other counts others
  pub unclosed : (joiner joiner_after joiner_last : State) (second before now : List ℕ) (counts : ℕ × ℕ) (why : Peer) → IsSound joiner
      → IsClosed joiner second joiner_after before now counts → IsUnclosed joiner_after second joiner_last why
      → (joiner_last ≡ joiner_after) × (why ≡ peer.Memory)
  pub finished : (server server_after server_last : State) (third : List ℕ) (count other : ℕ) → IsSound server
      → IsFinished server third server_after count → IsFinished server_after third server_last other
      → (server_last ≡ server_after) × (other ≡ count)
  pub unfinished : (server server_after server_last : State) (third : List ℕ) (count : ℕ) (why : Peer) → IsSound server
      → IsFinished server third server_after count → IsUnfinished server_after third server_last why
      → (server_last ≡ server_after) × (why ≡ peer.Memory)

-- nor does the message change a later state of the site, at which nothing is ready; what is written then is what the state that the
-- message tells lacks of the later history
pub record ClosingLaterChangesNothing : Type 0 where
  pub closed : (joiner joiner_after joiner_later joiner_last : State) (second before now again after : List ℕ) (counts others : ℕ × ℕ)
      → IsSound joiner → IsClosed joiner second joiner_after before now counts
      → IsSound joiner_later → IsSettled joiner_later → IsLater joiner_after joiner_later
      → IsClosed joiner_later second joiner_last again after others → joiner_last ≡ joiner_later
  pub unclosed : (joiner joiner_after joiner_later joiner_last : State) (second before now : List ℕ) (counts : ℕ × ℕ) (why : Peer)
      → IsSound joiner → IsClosed joiner second joiner_after before now counts
      → IsSound joiner_later → IsSettled joiner_later → IsLater joiner_after joiner_later
      → IsUnclosed joiner_later second joiner_last why → (joiner_last ≡ joiner_later) × (why ≡ peer.Memory)
  pub finished : (server server_after server_later server_last : State) (third : List ℕ) (count other : ℕ)
      → IsSound server → IsFinished server third server_after count
      → IsSound server_later → IsSettled server_later → IsLater server_after server_later
      → IsFinished server_later third server_last other → server_last ≡ server_later
  pub unfinished : (server server_after server_later server_last : State) (third : List ℕ) (count : ℕ) (why : Peer)
      → IsSound server → IsFinished server third server_after count
      → IsSound server_later → IsSettled server_later → IsLater server_after server_later
      → IsUnfinished server_later third server_last why → (server_last ≡ server_later) × (why ≡ peer.Memory)
