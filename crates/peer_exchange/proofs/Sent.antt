-- What the calls write is whole, where the history is valid.
use Rattle.std.proofs.Common.{◌≡◌, ℕ, List, []}
use Rattle.context_vector.specs.Contexts.{ContextData, has}
use Rattle.context_diff.specs.Operations.{OpData}
use Rattle.context_diff.specs.Histories.{context_of_all, IsValid}
use Rattle.context_diff.proofs.CallerLemmas.{complete}
use Rattle.cot_site.specs.Sites.{AllFormed}
use Rattle.peer_exchange.specs.declared.messages.Which.TheVariants.{First, Second, Third}
use Rattle.peer_exchange.specs.Joins.{unseen}
use Rattle.peer_exchange.specs.Messages.{first_message, third_message, IsAnswered}
use Rattle.peer_exchange.specs.Refusals.{IsWhole}
use Rattle.peer_exchange.proofs.Unseen.{unseen_contains}
use Rattle.peer_exchange.proofs.Wholes.{messages_are_whole}
use Rattle.peer_exchange.proofs.OneThing.{history_is_state}

pub lacked_formed : (c : ContextData) (h : List OpData) → IsValid h → AllFormed (unseen (has c) h)
lacked_formed c h v o at = (complete h v).formed o (unseen_contains (has c) h o at)

pub offered_whole : (h : List OpData) (bytes : List ℕ) → IsValid h → bytes ≡ first_message h → IsWhole First bytes
offered_whole h bytes v is = messages_are_whole.first bytes (context_of_all h) (record { is = history_is_state h v; parts = is })

pub answered_whole : (h : List OpData) (first second : List ℕ) (n : ℕ) → IsValid h → IsAnswered h first [] second n → IsWhole Second second
answered_whole h first second n v a =
    messages_are_whole.second second (context_of_all h) (unseen (has a.state) h)
    (record { is = history_is_state h v; formed = lacked_formed a.state h v; parts = a.appended })

pub closing_whole : (h : List OpData) (c : ContextData) (third : List ℕ) → IsValid h → third ≡ third_message h c → IsWhole Third third
closing_whole h c third v is = messages_are_whole.third third (unseen (has c) h) (record { formed = lacked_formed c h v; parts = is })
