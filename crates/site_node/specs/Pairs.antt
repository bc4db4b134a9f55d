-- What an exchange over the pair of a wire does at both ends.
use Rattle.std.specs.Prelude.{◌≡◌, ◌≢◌, ◌⊎◌, ℕ, List, [], ◌++◌, Some, Ok}
use Rattle.std.specs.Io.KnownBytes.{Appends}
use Rattle.outside_io.specs.Ends.{End}
use Rattle.op_name.specs.declared.member.Member.{Member}
use Rattle.context_vector.specs.Contexts.{ContextData}
use Rattle.context_diff.specs.Operations.{OpData}
use Rattle.cot_site.specs.States.{State}
use Rattle.site_answers.specs.declared.verdict.Verdict.{Verdict}
use Rattle.peer_exchange.specs.declared.messages.PeerCause.TheVariants.{Head, Frame, Cut, Extra, Limit}
use Rattle.peer_exchange.specs.declared.messages.Which.TheVariants.{First, Second}
use Rattle.peer_exchange.specs.declared.peer.Peer.TheVariants as refused
use Rattle.peer_exchange.specs.Exchanges.{Talk, IsExchange, AgreeInAll}
use Rattle.peer_exchange.specs.Lengths.{HasLongMessage}
use Rattle.peer_exchange.specs.Messages.{first_message, second_message, third_message, IsFirst, IsSecond}
use Rattle.peer_exchange.specs.Refusals.{IsWhole}
use Rattle.peer_exchange.specs.Taking.{all_taken_in}
use Rattle.site_node.specs.declared.node.Node.{Node}
use Rattle.site_node.specs.declared.node.Node.TheVariants as node
use Rattle.site_node.specs.Exchanges.{IsFrontOf, IsServed, IsUnserved, IsBrought, IsUnjoined}

-- the wire tells what is to come at either end
abbrev pub IsTelling : (ℕ → End) → Type 0
IsTelling ends = ((bytes : List ℕ) × ((ends 0).to_come ≡ Some bytes)) × ((bytes : List ℕ) × ((ends 1).to_come ≡ Some bytes))

-- no bytes are at fault, but that they may be more than a message has
abbrev pub IsUnspoilt : Node → Type 0
IsUnspoilt node.Link = Unit {0}
IsUnspoilt (node.Peer (refused.Bytes offset Head)) = ⊥
IsUnspoilt (node.Peer (refused.Bytes offset (Frame cause))) = ⊥
IsUnspoilt (node.Peer (refused.Bytes offset Cut)) = ⊥
IsUnspoilt (node.Peer (refused.Bytes offset Extra)) = ⊥
IsUnspoilt (node.Peer (refused.Bytes offset Limit)) = Unit {0}
IsUnspoilt (node.Peer (refused.Op member verdict)) = Unit {0}
IsUnspoilt (node.Peer refused.Memory) = ⊥
IsUnspoilt node.Memory = Unit {0}

-- at either end of the pair these bytes were received, and these sent
pub record Speaks (old new : ℕ → End) (to_server from_server to_joiner from_joiner : List ℕ) : Type 0 where
  pub server_received : Appends (old 0).received (new 0).received to_server
  pub server_sent : Appends (old 0).sent (new 0).sent from_server
  pub joiner_received : Appends (old 1).received (new 1).received to_joiner
  pub joiner_sent : Appends (old 1).sent (new 1).sent from_joiner

-- the bytes that went from either end are the messages of an exchange of four calls, in which each site sent so many frames
pub record AreMessages (server server_after joiner joiner_after : State) (counts : ℕ × ℕ) (from_server from_joiner : List ℕ) : Type 0 where
  pub talk : Talk
  pub calls : IsExchange server joiner server_after joiner_after talk
  pub server_side : from_server ≡ talk.second
  pub joiner_side : from_joiner ≡ talk.first ++ talk.third
  pub server_sent : talk.server_sent ≡ counts.0
  pub joiner_sent : talk.joiner_sent ≡ counts.1

-- the server at end 0 and the joiner at end 1 each had an exchange; where the wire tells its bytes, each received what the other sent,
-- these bytes are the messages of their exchange, and it tells them afterwards too
pub record IsLooped (server server_after joiner joiner_after : State) (counts : ℕ × ℕ) (old new : ℕ → End) : Type 0 where
  pub to_server : List ℕ
  pub from_server : List ℕ
  pub to_joiner : List ℕ
  pub from_joiner : List ℕ
  pub speaks : Speaks old new to_server from_server to_joiner from_joiner
  pub server_taken : ℕ
  pub served : IsServed server server_after (counts.0, server_taken) to_server from_server
  pub joiner_taken : ℕ
  pub brought : IsBrought joiner joiner_after (counts.1, joiner_taken) to_joiner from_joiner
  pub carried : IsTelling old → (to_server ≡ from_joiner) × (to_joiner ≡ from_server)
  pub messages : IsTelling old → AreMessages server server_after joiner joiner_after counts from_server from_joiner
  pub telling : IsTelling old → IsTelling new

-- a site that stopped for no reason of its own, since the other one stopped. The server hadn't heard anything yet, and is as it was
pub record IsUnasked (server server_after : State) (came gone : List ℕ) : Type 0 where
  pub same : server_after ≡ server
  pub unheard : came ≡ []
  pub silent : gone ≡ []

-- or it had a whole first message, its answer or a front of that went, and it is as it was
pub record IsAnswering (server server_after : State) (came gone : List ℕ) : Type 0 where
  pub theirs : ContextData
  pub whole : IsWhole First came
  pub told : IsFirst came theirs
  pub answered : IsFrontOf gone (second_message server.history theirs)
  pub same : server_after ≡ server

abbrev pub IsServerLeft : State → State → List ℕ → List ℕ → Type 0
IsServerLeft server server_after came gone =
    IsUnasked server server_after came gone ⊎ IsAnswering server server_after came gone

-- the joiner's first message or a front of it had gone, nothing had come, and it is as it was
pub record IsOffering (joiner joiner_after : State) (came gone : List ℕ) : Type 0 where
  pub same : joiner_after ≡ joiner
  pub unheard : came ≡ []
  pub offered : IsFrontOf gone (first_message joiner.history)

-- or it had taken in what a whole second message had, and its answer or a front of that had gone
pub record IsClosing (joiner joiner_after : State) (came gone : List ℕ) : Type 0 where
  pub theirs : ContextData
  pub ops : List OpData
  pub whole : IsWhole Second came
  pub read : IsSecond came theirs ops
  pub taken : all_taken_in joiner ops ≡ Ok joiner_after
  pub third : List ℕ
  pub sent : gone ≡ first_message joiner.history ++ third
  pub front : IsFrontOf third (third_message joiner_after.history theirs)

abbrev pub IsJoinerLeft : State → State → List ℕ → List ℕ → Type 0
IsJoinerLeft joiner joiner_after came gone =
    IsOffering joiner joiner_after came gone ⊎ IsClosing joiner joiner_after came gone

-- the exchange stopped at one of them for this reason, and the other was left; where the wire tells its bytes, each received a front of
-- what the other sent, no bytes were at fault, bytes were more than a message has only if a message of their exchange is too long, and no
-- operation was refused if the two agreed
pub record IsUnlooped (server server_after joiner joiner_after : State) (why : Node) (old new : ℕ → End) : Type 0 where
  pub to_server : List ℕ
  pub from_server : List ℕ
  pub to_joiner : List ℕ
  pub from_joiner : List ℕ
  pub speaks : Speaks old new to_server from_server to_joiner from_joiner
  pub stopped : (IsUnserved server server_after why to_server from_server × IsJoinerLeft joiner joiner_after to_joiner from_joiner)
      ⊎ (IsServerLeft server server_after to_server from_server × IsUnjoined joiner joiner_after why to_joiner from_joiner)
  pub carried : IsTelling old → IsFrontOf to_server from_joiner × IsFrontOf to_joiner from_server
  pub unspoilt : IsTelling old → IsUnspoilt why
  pub limited : IsTelling old → (offset : ℕ) → why ≡ node.Peer (refused.Bytes offset Limit) → HasLongMessage server joiner
  pub agreed : IsTelling old → AgreeInAll server joiner → (member : Member) (verdict : Verdict)
      → why ≢ node.Peer (refused.Op member verdict)
