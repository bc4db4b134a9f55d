-- The messages of an exchange, handed out into a host's buffer.
use Rattle.std.specs.Prelude.{ℕ, List, []}
use Rattle.context_diff.specs.Operations.{OpData}
use Rattle.cot_site.specs.States.{State}
use Rattle.peer_exchange.specs.Messages.{IsAnswered}
use Rattle.peer_exchange.specs.Closing.{IsClosed}
use Rattle.cotpad_c.specs.Statuses.{Wrote}

-- the second message that answers the first one was made
pub record Answers (h : List OpData) (first : List ℕ) (n : ℕ) (old new : List ℕ) (needed : ℕ) : Type 0 where
  pub second : List ℕ
  pub frames : ℕ
  pub answered : IsAnswered h first [] second frames
  pub wrote : Wrote n second old new needed

-- the operations of the second message are taken in, and the third message that answers it was made
pub record Closes (s : State) (second : List ℕ) (t : State) (n : ℕ) (old new : List ℕ) (needed : ℕ) : Type 0 where
  pub third : List ℕ
  pub frames : ℕ × ℕ
  pub closed : IsClosed s second t [] third frames
  pub wrote : Wrote n third old new needed
