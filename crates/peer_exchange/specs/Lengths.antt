-- How long the messages of an exchange are.
use Rattle.std.specs.Prelude.{◌⊎◌, ◌<◌, ◌≤◌, ◌+◌, ℕ, List, [], length}
use Rattle.cot_site.specs.States.{State}
use Rattle.peer_exchange.specs.declared.messages.TheConstants.{MAX_MESSAGE}
use Rattle.peer_exchange.specs.Messages.{first_message, IsAnswered}
use Rattle.peer_exchange.specs.Closing.{IsClosed}
use Rattle.peer_exchange.specs.Exchanges.{IsQuiet}

-- the bytes are more than a message may have
abbrev pub IsTooLong : List ℕ → Type 0
IsTooLong bytes = MAX_MESSAGE < length bytes

-- the server answers the first message of the joiner with one that is too long
pub record HasLongSecond (server joiner : State) : Type 0 where
  pub second : List ℕ
  pub count : ℕ
  pub answered : IsAnswered server.history (first_message joiner.history) [] second count
  pub long : IsTooLong second

-- the joiner takes in the second message of the server, and answers with one that is too long
pub record HasLongThird (server joiner : State) : Type 0 where
  pub second : List ℕ
  pub count : ℕ
  pub answered : IsAnswered server.history (first_message joiner.history) [] second count
  pub after : State
  pub third : List ℕ
  pub counts : ℕ × ℕ
  pub closed : IsClosed joiner second after [] third counts
  pub long : IsTooLong third

-- some message of an exchange of the server and the joiner is too long
abbrev pub HasLongMessage : State → State → Type 0
HasLongMessage server joiner =
    IsTooLong (first_message joiner.history) ⊎ (HasLongSecond server joiner ⊎ HasLongThird server joiner)

-- so many operations, together at both sites, have no message that is too long
abbrev pub few_operations : ℕ
few_operations = 256

-- where nothing waits at either site, and both have few operations, no message is too long
abbrev pub ShortHistoriesHaveShortMessages : Type 0
ShortHistoriesHaveShortMessages =
    (server joiner : State) → IsQuiet server → IsQuiet joiner → length server.history + length joiner.history ≤ few_operations
    → HasLongMessage server joiner → ⊥
