-- What one history lacks of another is new to it, operation by operation, whether they agree or not.
use Rattle.std.proofs.Common.{◌≡◌, false, inl, inr, List, [], ◌∷◌, ◌++◌, ap, sym, subst, ◌∙◌, append-nil}
use Rattle.std.proofs.lemmas.Bool.{cases_Bool, or_from}
use Rattle.context_diff.specs.Operations.{OpData, member_of, IsWellFormed}
use Rattle.context_diff.specs.Histories.{is_known, IsNext, IsValid}
use Rattle.context_diff.proofs.CallerLemmas.{shifted, by_pushes}
use Rattle.cot_site.specs.States.{State}
use Rattle.peer_exchange.specs.Joins.{unseen}
use Rattle.peer_exchange.proofs.Unseen.{unseen_old, unseen_new, known_joined}
use Rattle.peer_exchange.proofs.BothSides.{third_is}
use Rattle.peer_exchange.specs.Taking.{all_taken_in, AreNew, UnrefusedExchangesJoin}
use Rattle.peer_exchange.proofs.TakenOps.{new_operations_are_appended}

new_push : (h os : List OpData) (o : OpData) → AreNew h os → IsWellFormed o → is_known (h ++ os) (member_of o) ≡ false
    → AreNew h (os ++ o ∷ [])
new_push h [] o new formed fresh = (formed, subst (λ (k : List OpData). is_known k (member_of o) ≡ false) (append-nil h) fresh, tt)
new_push h (p ∷ ps) o new formed fresh = (
  new.0,
  new.1,
  new_push (h ++ p ∷ []) ps o new.2 formed (subst (λ (k : List OpData). is_known k (member_of o) ≡ false)
      (sym (shifted h p ps)) fresh),
)

new_step : (h q : List OpData) (o : OpData) → AreNew h (unseen (is_known h) q) → IsNext q o → AreNew h (unseen (is_known h) (q ++ o ∷ []))
new_step h q o was next =
    elim (cases_Bool (is_known h (member_of o))) [
      | inl seen ↦ subst (AreNew h) (sym (unseen_old (is_known h) q o seen ∙ append-nil (unseen (is_known h) q))) was
      | inr new ↦ subst (AreNew h) (sym (unseen_new (is_known h) q o new))
          (new_push h (unseen (is_known h) q) o was next.formed (known_joined h q (member_of o)
          ∙ or_from (is_known h (member_of o)) (is_known q (member_of o)) new next.new))
    ]

pub lacked_are_new : (h p : List OpData) → IsValid p → AreNew h (unseen (is_known h) p)
lacked_are_new h p v = by_pushes (λ q. AreNew h (unseen (is_known h) q)) tt (λ q o valid was next. new_step h q o was next) p v

pub unrefused_exchanges_join : UnrefusedExchangesJoin
unrefused_exchanges_join s t s' t' v w none_s none_t first second =
    let one =
    new_operations_are_appended t t' (unseen (is_known t.history) s.history) w none_t (lacked_are_new t.history s.history v) first in
    let sent : unseen (is_known s.history) t'.history ≡ unseen (is_known s.history) t.history =
    ap (λ (x : State). unseen (is_known s.history) x.history) one ∙ third_is s.history t.history in
    let two =
    new_operations_are_appended s s' (unseen (is_known s.history) t.history) v none_s (lacked_are_new s.history t.history w)
    (ap (all_taken_in s) (sym sent) ∙ second) in
    (one, two)
