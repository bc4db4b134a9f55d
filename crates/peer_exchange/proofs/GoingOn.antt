-- However often a call was out of memory, the same call then does what it would have done at first.
use Rattle.std.proofs.Common.{◌≡◌, ℕ, List, [], ◌∷◌, refl, sym, subst, ◌∙◌}
use Rattle.context_vector.specs.Contexts.{ContextData}
use Rattle.context_diff.specs.Operations.{OpData}
use Rattle.cot_site.specs.States.{State}
use Rattle.cot_site.specs.Releases.{IsSound}
use Rattle.cot_site.specs.Sites.{AllFormed}
use Rattle.peer_exchange.specs.declared.peer.Peer.TheVariants as peer
use Rattle.peer_exchange.specs.Messages.{IsSecond, IsThird}
use Rattle.peer_exchange.specs.Taking.{all_taken_in, IsOnTheWay}
use Rattle.peer_exchange.specs.Closing.{IsUnclosed, IsUnfinished}
use Rattle.peer_exchange.specs.GoingOn.{AreLeft, last_left, AreUnclosed, AreUnfinished, GoingOnAfterMemory}
use Rattle.peer_exchange.proofs.Later.{way_sound}
use Rattle.peer_exchange.proofs.OneThing.{messages_tell_one_thing}
use Rattle.peer_exchange.proofs.Again.{way_again}

-- each time the call stopped on the way through these operations
all_again : (left : State → State → Type 0) (os : List OpData) → AllFormed os → ((s t : State) → left s t → IsOnTheWay s os t)
    → (s : State) (ts : List State) → IsSound s → AreLeft left s ts → all_taken_in (last_left s ts) os ≡ all_taken_in s os
all_again left os formed on s [] sound are = refl
all_again left os formed on s (t ∷ ts) sound are =
    let way = on s t are.0 in
    all_again left os formed on t ts (way_sound s t os sound formed way) are.1 ∙ way_again s t os sound formed way

close_again : (s : State) (ts : List State) (second : List ℕ) (state : ContextData) (os : List OpData) → IsSound s
    → AreUnclosed second s ts → IsSecond second state os → all_taken_in (last_left s ts) os ≡ all_taken_in s os
close_again s ts second state os sound are is = all_again (λ s t. IsUnclosed s second t peer.Memory) os is.formed on s ts sound are
  where
    on : (s t : State) → IsUnclosed s second t peer.Memory → IsOnTheWay s os t
    on s t (told, ps, read, way) =
        subst (λ (qs : List OpData). IsOnTheWay s qs t) (messages_tell_one_thing.second second told state ps os read is) way

finish_again : (s : State) (ts : List State) (third : List ℕ) (os : List OpData) → IsSound s
    → AreUnfinished third s ts → IsThird third os → all_taken_in (last_left s ts) os ≡ all_taken_in s os
finish_again s ts third os sound are is = all_again (λ s t. IsUnfinished s third t peer.Memory) os is.formed on s ts sound are
  where
    on : (s t : State) → IsUnfinished s third t peer.Memory → IsOnTheWay s os t
    on s t (ps, read, way) = subst (λ (qs : List OpData). IsOnTheWay s qs t) (messages_tell_one_thing.third third ps os read is) way

pub going_on_after_memory : GoingOnAfterMemory
going_on_after_memory = record {
  taken_by_close = close_again;
  closed = λ s t ts second before now counts sound are c. record {
    state = c.state;
    ops = c.ops;
    read = c.read;
    taken = sym (close_again s ts second c.state c.ops sound are c.read) ∙ c.taken;
    appended = c.appended;
    received = c.received;
    sent = c.sent;
  };
  taken_by_finish = finish_again;
  finished = λ s t ts third count sound are f. record {
    ops = f.ops;
    read = f.read;
    taken = sym (finish_again s ts third f.ops sound are f.read) ∙ f.taken;
    received = f.received;
  };
}
