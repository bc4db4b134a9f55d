-- One exchange: the four calls between a server and a joiner, and what both have afterwards.
use Rattle.std.specs.Prelude.{◌≡◌, ℕ, List, [], ◌++◌, length}
use Rattle.context_vector.specs.Contexts.{ContextData}
use Rattle.context_diff.specs.Operations.{OpData}
use Rattle.context_diff.specs.Histories.{is_known, Agree}
use Rattle.cot_site.specs.States.{State}
use Rattle.cot_site.specs.Releases.{IsSound}
use Rattle.peer_exchange.specs.declared.messages.Which.TheVariants.{First, Second, Third}
use Rattle.peer_exchange.specs.declared.peer.Peer.{Peer}
use Rattle.peer_exchange.specs.declared.peer.Peer.TheVariants as peer
use Rattle.peer_exchange.specs.Joins.{unseen, joined, AreAlike, IsJoined}
use Rattle.peer_exchange.specs.Messages.{first_message, IsFirst, IsSecond, IsThird, IsAnswered}
use Rattle.peer_exchange.specs.Refusals.{IsWhole, IsUnread}
use Rattle.peer_exchange.specs.Taking.{with_history}
use Rattle.peer_exchange.specs.Closing.{IsClosed, IsFinished, IsUnclosed, IsUnfinished}

-- what `measure` says of a message that was written: it is whole
pub record MessagesAreWhole : Type 0 where
  pub first : (bytes : List ℕ) (c : ContextData) → IsFirst bytes c → IsWhole First bytes
  pub second : (bytes : List ℕ) (c : ContextData) (os : List OpData) → IsSecond bytes c os → IsWhole Second bytes
  pub third : (bytes : List ℕ) (os : List OpData) → IsThird bytes os → IsWhole Third bytes

-- a message tells one state, and has one list of operations
pub record MessagesTellOneThing : Type 0 where
  pub first : (bytes : List ℕ) (c d : ContextData) → IsFirst bytes c → IsFirst bytes d → c ≡ d
  pub state : (bytes : List ℕ) (c d : ContextData) (os ps : List OpData) → IsSecond bytes c os → IsSecond bytes d ps → c ≡ d
  pub second : (bytes : List ℕ) (c d : ContextData) (os ps : List OpData) → IsSecond bytes c os → IsSecond bytes d ps → os ≡ ps
  pub third : (bytes : List ℕ) (os ps : List OpData) → IsThird bytes os → IsThird bytes ps → os ≡ ps

-- the three messages of an exchange, and the numbers of frames that the calls answer
pub record Talk : Type 0 where
  pub first : List ℕ
  pub second : List ℕ
  pub third : List ℕ
  pub server_sent : ℕ
  pub joiner_took : ℕ
  pub joiner_sent : ℕ
  pub server_took : ℕ

-- the four calls, none of them refused: `offer` at the joiner, `answer` at the server, `close` at the joiner, `finish` at the server,
-- and the states afterwards
pub record IsExchange (server joiner server_after joiner_after : State) (x : Talk) : Type 0 where
  pub offered : x.first ≡ first_message joiner.history
  pub answered : IsAnswered server.history x.first [] x.second x.server_sent
  pub closed : IsClosed joiner x.second joiner_after [] x.third (x.joiner_took, x.joiner_sent)
  pub finished : IsFinished server x.third server_after x.server_took

-- a site at which nothing waits
pub record IsQuiet (s : State) : Type 0 where
  pub sound : IsSound s
  pub none : s.waiting ≡ []

-- Joined: each site has its old history and, after it, what it lacked of the other, so the join of both; and each took in the frames
-- that the other sent
pub record HaveJoined (server_before joiner_before server_after joiner_after : State) (x : Talk) : Type 0 where
  pub server : server_after ≡ with_history server_before (joined server_before.history joiner_before.history)
  pub joiner : joiner_after ≡ with_history joiner_before (joined joiner_before.history server_before.history)
  pub server_joined : IsJoined server_before.history joiner_before.history server_after.history
  pub joiner_joined : IsJoined server_before.history joiner_before.history joiner_after.history
  pub to_joiner : x.server_sent ≡ length (unseen (is_known joiner_before.history) server_before.history)
  pub at_joiner : x.joiner_took ≡ x.server_sent
  pub to_server : x.joiner_sent ≡ length (unseen (is_known server_before.history) joiner_before.history)
  pub at_server : x.server_took ≡ x.joiner_sent

-- where nothing waits at either site, and no call refuses, both have the join
abbrev pub UnrefusedCallsJoin : Type 0
UnrefusedCallsJoin =
    (server joiner server_after joiner_after : State) (x : Talk) → IsQuiet server → IsQuiet joiner
    → IsExchange server joiner server_after joiner_after x → HaveJoined server joiner server_after joiner_after x

-- and where they agree, both then have the same operations and show the same text
abbrev pub AgreeingSitesMeet : Type 0
AgreeingSitesMeet =
    (server joiner server_after joiner_after : State) (x : Talk) → IsQuiet server → IsQuiet joiner → Agree server.history joiner.history
    → IsExchange server joiner server_after joiner_after x → AreAlike server_after.history joiner_after.history

-- no name has one content at the one site and other content at the other, among what they integrated and what waits there
abbrev pub AgreeInAll : State → State → Type 0
AgreeInAll server joiner = Agree (server.history ++ server.waiting) (joiner.history ++ joiner.waiting)

-- each of the calls between a server and a joiner refuses only when it is out of memory
pub record OnlyMemoryRefuses (server joiner : State) : Type 0 where
  pub answering : (why : Peer) → IsUnread First (first_message joiner.history) why → why ≡ peer.Memory
  pub closing : (second : List ℕ) (n : ℕ) (joiner_after : State) (why : Peer)
      → IsAnswered server.history (first_message joiner.history) [] second n
      → IsUnclosed joiner second joiner_after why → why ≡ peer.Memory
  pub finishing : (second third : List ℕ) (n m k : ℕ) (joiner_after server_after : State) (why : Peer)
      → IsAnswered server.history (first_message joiner.history) [] second n
      → IsClosed joiner second joiner_after [] third (m, k) → IsUnfinished server third server_after why → why ≡ peer.Memory

-- so it is where the two agree, also where operations wait
abbrev pub AgreeingSitesAreNotRefused : Type 0
AgreeingSitesAreNotRefused =
    (server joiner : State) → IsSound server → IsSound joiner → AgreeInAll server joiner → OnlyMemoryRefuses server joiner

-- a second exchange at once sends no frame, and changes neither site
pub record IsEmptyExchange (server_before joiner_before server_after joiner_after : State) (x : Talk) : Type 0 where
  pub server : server_after ≡ server_before
  pub joiner : joiner_after ≡ joiner_before
  pub server_sent : x.server_sent ≡ 0
  pub joiner_sent : x.joiner_sent ≡ 0

abbrev pub SecondExchangesAreEmpty : Type 0
SecondExchangesAreEmpty =
    (server joiner server_after joiner_after server_last joiner_last : State) (x y : Talk) → IsQuiet server → IsQuiet joiner
    → IsExchange server joiner server_after joiner_after x → IsExchange server_after joiner_after server_last joiner_last y
    → IsEmptyExchange server_after joiner_after server_last joiner_last y
