-- What an exchange does at an end of a wire and with a site.
use Rattle.std.specs.Prelude.{◌≡◌, ◌⊎◌, ℕ, List, [], ◌++◌, Option, length, Ok}
use Rattle.std.specs.Io.KnownBytes.{Appends, Consumes}
use Rattle.outside_io.specs.Ends.{End}
use Rattle.context_vector.specs.Contexts.{ContextData, has}
use Rattle.context_diff.specs.Operations.{OpData}
use Rattle.cot_site.specs.States.{State}
use Rattle.peer_exchange.specs.declared.messages.Which.TheVariants.{First, Second, Third}
use Rattle.peer_exchange.specs.declared.peer.Peer.{Peer}
use Rattle.peer_exchange.specs.Closing.{IsUnclosed, IsUnfinished}
use Rattle.peer_exchange.specs.Joins.{unseen}
use Rattle.peer_exchange.specs.Messages.{first_message, second_message, third_message, IsFirst, IsSecond, IsThird}
use Rattle.peer_exchange.specs.Refusals.{IsWhole}
use Rattle.peer_exchange.specs.Taking.{all_taken_in}
use Rattle.site_node.specs.declared.node.Node.{Node}
use Rattle.site_node.specs.declared.node.Node.TheVariants as node
use Rattle.site_node.specs.Stops.{node_of, Explains}

-- ---- at an end

-- at the end these bytes were received, which the bytes of the peer begin with, and these were sent
pub record Talks (old new : End) (peer : Option (List ℕ)) (came gone : List ℕ) : Type 0 where
  pub received : Appends old.received new.received came
  pub sent : Appends old.sent new.sent gone
  pub left : Option (List ℕ)
  pub front : Consumes peer left came

-- the bytes received and sent in a call stand in this relation
pub record Exchanges (old new : End) (peer : Option (List ℕ)) (says : List ℕ → List ℕ → Type 0) : Type 0 where
  pub came : List ℕ
  pub gone : List ℕ
  pub talks : Talks old new peer came gone
  pub said : says came gone

-- a list begins with these bytes
abbrev pub IsFrontOf : List ℕ → List ℕ → Type 0
IsFrontOf front bytes = (rest : List ℕ) × (bytes ≡ front ++ rest)

-- ---- a server, before and after

-- a whole first message came, which tells a state; the second message for it went; a whole third message came, and the operations
-- that it has were taken in
pub record IsServed (server server_after : State) (counts : ℕ × ℕ) (came gone : List ℕ) : Type 0 where
  pub first : List ℕ
  pub third : List ℕ
  pub theirs : ContextData
  pub ops : List OpData
  pub parts : came ≡ first ++ third
  pub first_whole : IsWhole First first
  pub told : IsFirst first theirs
  pub answered : gone ≡ second_message server.history theirs
  pub third_whole : IsWhole Third third
  pub read : IsThird third ops
  pub taken : all_taken_in server ops ≡ Ok server_after
  pub frames_sent : counts.0 ≡ length (unseen (has theirs) server.history)
  pub frames_taken : counts.1 ≡ length ops

-- it stopped at the first message: no byte went, and the site is as it was
pub record StopsAtFirst (server server_after : State) (why : Node) (came gone : List ℕ) : Type 0 where
  pub same : server_after ≡ server
  pub silent : gone ≡ []
  pub explained : Explains First came why

-- the wire failed while the second message went: nothing came after the first one, and the site is as it was
pub record StopsAnswering (server server_after : State) (why : Node) (came gone : List ℕ) : Type 0 where
  pub theirs : ContextData
  pub first_whole : IsWhole First came
  pub told : IsFirst came theirs
  pub answered : IsFrontOf gone (second_message server.history theirs)
  pub same : server_after ≡ server
  pub cause : why ≡ node.Link

-- it stopped after the second message went, and before a whole third one came: the site is as it was
pub record StopsAtThird (server server_after : State) (why : Node) (came gone : List ℕ) : Type 0 where
  pub first : List ℕ
  pub rest : List ℕ
  pub theirs : ContextData
  pub parts : came ≡ first ++ rest
  pub first_whole : IsWhole First first
  pub told : IsFirst first theirs
  pub answered : gone ≡ second_message server.history theirs
  pub same : server_after ≡ server
  pub explained : Explains Third rest why

-- it stopped while the operations of a whole third message were taken in
pub record StopsServing (server server_after : State) (why : Node) (came gone : List ℕ) : Type 0 where
  pub first : List ℕ
  pub third : List ℕ
  pub theirs : ContextData
  pub parts : came ≡ first ++ third
  pub first_whole : IsWhole First first
  pub told : IsFirst first theirs
  pub answered : gone ≡ second_message server.history theirs
  pub third_whole : IsWhole Third third
  pub refusal : Peer
  pub refused : IsUnfinished server third server_after refusal
  pub cause : why ≡ node_of refusal

-- a server's exchange that stopped
abbrev pub IsUnserved : State → State → Node → List ℕ → List ℕ → Type 0
IsUnserved server server_after why came gone =
    StopsAtFirst server server_after why came gone
    ⊎ (StopsAnswering server server_after why came gone
    ⊎ (StopsAtThird server server_after why came gone ⊎ StopsServing server server_after why came gone))

-- ---- a joiner, before and after

-- the first message went; a whole second message came, which tells a state, and the operations that it has were taken in; the third
-- message for that state went
pub record IsBrought (joiner joiner_after : State) (counts : ℕ × ℕ) (came gone : List ℕ) : Type 0 where
  pub theirs : ContextData
  pub ops : List OpData
  pub whole : IsWhole Second came
  pub read : IsSecond came theirs ops
  pub taken : all_taken_in joiner ops ≡ Ok joiner_after
  pub sent : gone ≡ first_message joiner.history ++ third_message joiner_after.history theirs
  pub frames_sent : counts.0 ≡ length (unseen (has theirs) joiner_after.history)
  pub frames_taken : counts.1 ≡ length ops

-- the wire failed while the first message went, or there was no memory for it, and none of it went: no byte came, and the site is as it was
pub record StopsOffering (joiner joiner_after : State) (why : Node) (came gone : List ℕ) : Type 0 where
  pub same : joiner_after ≡ joiner
  pub unheard : came ≡ []
  pub offered : IsFrontOf gone (first_message joiner.history)
  pub cause : (why ≡ node.Link) ⊎ ((why ≡ node.Memory) × (gone ≡ []))

-- it stopped after the first message went, and before a whole second one came: the site is as it was
pub record StopsAtSecond (joiner joiner_after : State) (why : Node) (came gone : List ℕ) : Type 0 where
  pub same : joiner_after ≡ joiner
  pub offered : gone ≡ first_message joiner.history
  pub explained : Explains Second came why

-- it stopped while the operations of a whole second message were taken in, or before the third one was made
pub record StopsClosing (joiner joiner_after : State) (why : Node) (came gone : List ℕ) : Type 0 where
  pub whole : IsWhole Second came
  pub offered : gone ≡ first_message joiner.history
  pub refusal : Peer
  pub refused : IsUnclosed joiner came joiner_after refusal
  pub cause : why ≡ node_of refusal

-- the wire failed while the third message went
pub record StopsSending (joiner joiner_after : State) (why : Node) (came gone : List ℕ) : Type 0 where
  pub theirs : ContextData
  pub ops : List OpData
  pub whole : IsWhole Second came
  pub read : IsSecond came theirs ops
  pub taken : all_taken_in joiner ops ≡ Ok joiner_after
  pub third : List ℕ
  pub sent : gone ≡ first_message joiner.history ++ third
  pub front : IsFrontOf third (third_message joiner_after.history theirs)
  pub cause : why ≡ node.Link

-- a joiner's exchange that stopped
abbrev pub IsUnjoined : State → State → Node → List ℕ → List ℕ → Type 0
IsUnjoined joiner joiner_after why came gone =
    StopsOffering joiner joiner_after why came gone
    ⊎ (StopsAtSecond joiner joiner_after why came gone
    ⊎ (StopsClosing joiner joiner_after why came gone ⊎ StopsSending joiner joiner_after why came gone))
