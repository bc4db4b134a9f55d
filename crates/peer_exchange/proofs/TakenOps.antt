-- At a site at which nothing waits, what is next is integrated, one after the other.
use Rattle.std.proofs.Common.{◌≡◌, ℕ, true, false, inl, inr, List, [], ◌∷◌, ◌++◌, refl, ap, sym, ◌∙◌, append-nil, Ok}
use Rattle.context_diff.specs.Operations.{OpData, member_of, IsWellFormed}
use Rattle.context_diff.specs.Histories.{is_known, IsNext, IsValid, IsValidAfter}
use Rattle.context_diff.proofs.CallerLemmas.{agree_back, contains_none, shifted, valid_push}
use Rattle.site_answers.specs.declared.verdict.Verdict.{Verdict}
use Rattle.site_answers.specs.declared.verdict.Verdict.TheVariants.{Repeat, Integrated}
use Rattle.cot_site.specs.Verdicts.{verdict_of}
use Rattle.cot_site.specs.States.{State, delivered, after_verdict}
use Rattle.cot_site.specs.Releases.{settled}
use Rattle.cot_site.proofs.CallerLemmas.{settled_stays, next_integrated, integrated_next, unknown_no_repeat, verdicts_exact}
use Rattle.peer_exchange.specs.Joins.{unseen}
use Rattle.peer_exchange.proofs.ValidJoins.{lacked_operations_are_next}
use Rattle.peer_exchange.proofs.BothSides.{third_is}
use Rattle.participant.specs.Taking.{is_had}
use Rattle.peer_exchange.specs.Taking.{all_taken_in, NextOperationsAreTaken, BothSidesTakeAll, AreNew, NewOperationsAreAppended}
use Rattle.peer_exchange.proofs.FirstTaken.{had_cases, taken_none, same_after_none, taken_first, first_taken}

abbrev state : ℕ → List OpData → State
state n h = record { number = n; history = h; waiting = [] }

next_is_integrated : (h : List OpData) (o : OpData) → IsValid h → IsNext h o → verdict_of h [] o ≡ Integrated
next_is_integrated h o v next = next_integrated h [] o v next.formed next (λ n is other. contains_none other.other other.there)

settles : (n : ℕ) (h : List OpData) → settled (state n h) ≡ state n h
settles n h = settled_stays (state n h) refl

-- an integrated operation is the last, and nothing waits then
integrated_is : (n : ℕ) (h : List OpData) (o : OpData) → verdict_of h [] o ≡ Integrated
    → settled (delivered (state n h) o) ≡ state n (h ++ o ∷ [])
integrated_is n h o is = ap (λ (x : Verdict). settled (after_verdict x o (state n h))) is ∙ settles n (h ++ o ∷ [])

taken : (n : ℕ) (h os : List OpData) → IsValid h → IsValidAfter h os → all_taken_in (state n h) os ≡ Ok (state n (h ++ os))
taken n h [] v after = taken_none (state n h) ∙ ap (λ (k : List OpData). Ok (state n k)) (sym (append-nil h))
taken n h (o ∷ os) v after =
    let verdict = next_is_integrated h o v after.0 in
    taken_first (state n h) o os (ap is_had verdict)
    ∙ (ap (λ (t : State). all_taken_in t os) (integrated_is n h o verdict)
    ∙ (taken n (h ++ o ∷ []) os (valid_push h o v after.0) after.1
    ∙ ap (λ (k : List OpData). Ok (state n k)) (shifted h o os)))

without_waiting : (s : State) → s.waiting ≡ [] → s ≡ state s.number s.history
without_waiting s none = λ i. record { number = s.number; history = s.history; waiting = none i }

pub next_operations_are_taken : NextOperationsAreTaken
next_operations_are_taken s os v none after =
    ap (λ (t : State). all_taken_in t os) (without_waiting s none)
    ∙ (taken s.number s.history os v after
    ∙ ap (λ (w : List OpData). Ok (record { number = s.number; history = s.history ++ os; waiting = w })) (sym none))

pub both_sides_take_all : BothSidesTakeAll
both_sides_take_all s t v w none_s none_t agree = (
  next_operations_are_taken t (unseen (is_known t.history) s.history) w none_t
      (lacked_operations_are_next t.history s.history w v (agree_back s.history t.history agree)),
  ap (all_taken_in s) (third_is s.history t.history)
      ∙ next_operations_are_taken s (unseen (is_known s.history) t.history) v none_s
      (lacked_operations_are_next s.history t.history v w agree),
)

new_is_integrated : (h : List OpData) (o : OpData) → IsValid h → IsWellFormed o → is_known h (member_of o) ≡ false
    → is_had (verdict_of h [] o) ≡ true
    → verdict_of h [] o ≡ Integrated
new_is_integrated h o v formed new had = elim (had_cases (verdict_of h [] o) had) [
  | inl is ↦ is
  | inr is ↦ absurd (unknown_no_repeat h v o formed new ((verdicts_exact h [] o Repeat v formed).1 (sym is)))
]

appended : (n : ℕ) (h os : List OpData) (t : State) → IsValid h → AreNew h os → all_taken_in (state n h) os ≡ Ok t → t ≡ state n (h ++ os)
appended n h [] t v new e = sym (same_after_none (state n h) t e) ∙ ap (state n) (sym (append-nil h))
appended n h (o ∷ os) t v new e =
    let first = first_taken (state n h) t o os e in
    let is = new_is_integrated h o v new.0 new.1 first.0 in
    appended n (h ++ o ∷ []) os t (valid_push h o v (integrated_next h [] o v new.0 is)) new.2
    (ap (λ (x : State). all_taken_in x os) (sym (integrated_is n h o is)) ∙ first.1)
    ∙ ap (state n) (shifted h o os)

pub new_operations_are_appended : NewOperationsAreAppended
new_operations_are_appended s t os v none new e =
    appended s.number s.history os t v new (ap (λ (x : State). all_taken_in x os) (sym (without_waiting s none)) ∙ e)
    ∙ (λ i. record { number = s.number; history = s.history ++ os; waiting = sym none i })
