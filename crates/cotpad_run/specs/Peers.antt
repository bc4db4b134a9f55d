-- Peers by whom an exchange isn't refused: another site, whose messages come whole.
use Rattle.std.specs.Prelude.{◌≡◌, ◌≤◌, ◌<◌, ℕ, List, [], ◌++◌, length, slice_index_or}
use Rattle.cot_site.specs.States.{State}
use Rattle.cot_site.specs.Releases.{IsSound}
use Rattle.peer_exchange.specs.declared.messages.TheConstants.{MAX_MESSAGE}
use Rattle.peer_exchange.specs.Closing.{IsClosed}
use Rattle.peer_exchange.specs.Exchanges.{AgreeInAll}
use Rattle.peer_exchange.specs.Messages.{first_message, IsAnswered}

-- each of them is a byte
abbrev pub AreBytes : List ℕ → Type 0
AreBytes bytes = (i : ℕ) → slice_index_or bytes i 0 < 256

-- the bytes are the messages of a joiner whose state is `j`, to a server whose state is `s`: the first one, and the third one, which
-- answers the server's
pub record AreOfJoiner (s j : State) (bytes : List ℕ) : Type 0 where
  pub fits : AreBytes bytes
  pub sound : IsSound j
  pub agree : AgreeInAll s j
  pub second : List ℕ
  pub third : List ℕ
  pub sent : ℕ
  pub joined : State
  pub counts : ℕ × ℕ
  pub answered : IsAnswered s.history (first_message j.history) [] second sent
  pub closed : IsClosed j second joined [] third counts
  pub parts : bytes ≡ first_message j.history ++ third
  pub first_short : length (first_message j.history) ≤ MAX_MESSAGE
  pub third_short : length third ≤ MAX_MESSAGE

-- they are the message of a server whose state is `j`, to a joiner whose state is `s`
pub record AreOfServer (s j : State) (bytes : List ℕ) : Type 0 where
  pub fits : AreBytes bytes
  pub sound : IsSound j
  pub agree : AgreeInAll j s
  pub sent : ℕ
  pub answered : IsAnswered j.history (first_message s.history) [] bytes sent
  pub short : length bytes ≤ MAX_MESSAGE
