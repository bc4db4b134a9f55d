-- What each side of an exchange gains, also where operations wait, and where both sides go on editing meanwhile.
use Rattle.std.specs.Prelude.{◌≡◌, ◌⊎◌, ℕ, true, List, [], Contains}
use Rattle.op_name.specs.declared.member.Member.{Member}
use Rattle.context_vector.specs.Contexts.{ContextData}
use Rattle.context_diff.specs.Operations.{OpData, member_of, is_original}
use Rattle.context_diff.specs.Histories.{is_known}
use Rattle.cot_site.specs.States.{State}
use Rattle.cot_site.specs.Releases.{IsSound, IsLater}
use Rattle.peer_exchange.specs.declared.messages.Which.TheVariants.{First}
use Rattle.peer_exchange.specs.declared.peer.Peer.{Peer}
use Rattle.peer_exchange.specs.declared.peer.Peer.TheVariants as peer
use Rattle.peer_exchange.specs.Messages.{first_message, IsSecond, IsThird, IsAnswered}
use Rattle.peer_exchange.specs.Refusals.{IsUnread}
use Rattle.peer_exchange.specs.Closing.{IsClosed, IsFinished, IsUnclosed, IsUnfinished}
use Rattle.peer_exchange.specs.Exchanges.{Talk, AgreeInAll}

-- Gained: the old history is the first part of the new one, which has the member of each of these operations, and each original among
-- them with its content; whatever is there was there, waited, or is one of these, and whatever waits waited before
pub record HasGained (site site_after : State) (os : List OpData) : Type 0 where
  pub later : IsLater site site_after
  pub members : (o : OpData) → Contains os o → is_known site_after.history (member_of o) ≡ true
  pub originals : (o : OpData) → Contains os o → is_original o ≡ true → Contains site_after.history o
  pub history : (o : OpData) → Contains site_after.history o → Contains site.history o ⊎ (Contains site.waiting o ⊎ Contains os o)
  pub waiting : (o : OpData) → Contains site_after.waiting o → Contains site.waiting o

-- a site gains the operations of the message that it takes in, also where operations wait
pub record TakingInGains : Type 0 where
  pub closed : (joiner joiner_after : State) (second before now : List ℕ) (counts : ℕ × ℕ) (state : ContextData) (os : List OpData)
      → IsSound joiner → IsSecond second state os → IsClosed joiner second joiner_after before now counts
      → HasGained joiner joiner_after os
  pub finished : (server server_after : State) (third : List ℕ) (count : ℕ) (os : List OpData)
      → IsSound server → IsThird third os → IsFinished server third server_after count → HasGained server server_after os

-- one side of an exchange: its state when it told what it has, a later one at which it was to take in the other's operations, and the
-- one after that
pub record Meanwhile : Type 0 where
  pub told : State
  pub took : State
  pub after : State

-- it is sound, and went on between the two
pub record IsMeanwhile (x : Meanwhile) : Type 0 where
  pub told : IsSound x.told
  pub took : IsSound x.took
  pub on : IsLater x.told x.took

-- the four calls, none of them refused, while both sides go on: the server tells what it has by `answer` and takes in by `finish`, the
-- joiner tells by `offer` and takes in by `close`
pub record IsExchangeMeanwhile (server joiner : Meanwhile) (x : Talk) : Type 0 where
  pub server_side : IsMeanwhile server
  pub joiner_side : IsMeanwhile joiner
  pub offered : x.first ≡ first_message joiner.told.history
  pub answered : IsAnswered server.told.history x.first [] x.second x.server_sent
  pub closed : IsClosed joiner.took x.second joiner.after [] x.third (x.joiner_took, x.joiner_sent)
  pub finished : IsFinished server.took x.third server.after x.server_took

-- whether the two agree or not, the joiner then has the members that the server had when it answered, and the server all that the joiner
-- has after it closed; each keeps what it did meanwhile, and took in all frames that the other sent
pub record HaveGained (server joiner : Meanwhile) (x : Talk) : Type 0 where
  pub joiner_keeps : IsLater joiner.took joiner.after
  pub joiner_gains : (m : Member) → is_known server.told.history m ≡ true → is_known joiner.after.history m ≡ true
  pub server_keeps : IsLater server.took server.after
  pub server_gains : (m : Member) → is_known joiner.after.history m ≡ true → is_known server.after.history m ≡ true
  pub at_joiner : x.joiner_took ≡ x.server_sent
  pub at_server : x.server_took ≡ x.joiner_sent

-- so it is after any exchange, whether operations wait or not, and whether the two agree or not
abbrev pub EditingMeanwhileLosesNothing : Type 0
EditingMeanwhileLosesNothing = (server joiner : Meanwhile) (x : Talk) → IsExchangeMeanwhile server joiner x → HaveGained server joiner x

-- each call between the two, where those before it answered, refuses only when it is out of memory
pub record OnlyMemoryRefusesMeanwhile (server joiner : Meanwhile) : Type 0 where
  pub answering : (why : Peer) → IsUnread First (first_message joiner.told.history) why → why ≡ peer.Memory
  pub closing : (second : List ℕ) (n : ℕ) (why : Peer) → IsAnswered server.told.history (first_message joiner.told.history) [] second n
      → IsUnclosed joiner.took second joiner.after why → why ≡ peer.Memory
  pub finishing : (second third : List ℕ) (n m k : ℕ) (why : Peer)
      → IsAnswered server.told.history (first_message joiner.told.history) [] second n
      → IsClosed joiner.took second joiner.after [] third (m, k) → IsUnfinished server.took third server.after why → why ≡ peer.Memory

-- so it is where the two agree, each as it is when it takes in
abbrev pub EditingMeanwhileIsNotRefused : Type 0
EditingMeanwhileIsNotRefused =
    (server joiner : Meanwhile) → IsMeanwhile server → IsMeanwhile joiner → AgreeInAll server.took joiner.took
    → OnlyMemoryRefusesMeanwhile server joiner
