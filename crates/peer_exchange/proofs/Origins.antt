-- Where the operations of a site come from after it took some in: it had them, they waited there, or they were taken in.
use Rattle.std.proofs.Common.{◌≡◌, ℕ, zero, suc, true, inl, inr, List, [], ◌∷◌, Ok, refl, ap, sym, subst, length}
use Rattle.std.specs.Prelude.{Contains, ◌⊎◌, Option, Some, None, option_map, slice_get, remove}
use Rattle.std.specs.List.{list_any}
use Rattle.std.proofs.lemmas.Bool.{cases_Bool, cond-true, cond-false}
use Rattle.std.proofs.lemmas.List.Elements.{Contains-push_cases}
use Rattle.context_diff.specs.Operations.{OpData}
use Rattle.context_diff.specs.Ops.{op_eq}
use Rattle.context_diff.proofs.CallerLemmas.{contains_cases, contains_here, contains_later, contains_none}
use Rattle.site_answers.specs.declared.verdict.Verdict.{Verdict}
use Rattle.site_answers.specs.declared.verdict.Verdict.TheVariants.{Repeat, Forged, Waits, NotClosed, PlaceOut, Integrated}
use Rattle.cot_site.specs.States.{State, Released, held, judged, delivered, after_verdict, first_ready, released, released_at}
use Rattle.cot_site.specs.States.{without_waiting, delivered_again}
use Rattle.cot_site.specs.Releases.{and_more, releases, state_after, settled}
use Rattle.cot_site.proofs.CallerLemmas.{got_there}
use Rattle.participant.specs.Taking.{is_had}
use Rattle.peer_exchange.specs.Taking.{all_taken_in}
use Rattle.peer_exchange.proofs.FirstTaken.{had_cases, same_after_none, first_taken}

pub record ComesFrom (s t : State) (os : List OpData) : Type 0 where
  pub history : (x : OpData) → Contains t.history x → Contains s.history x ⊎ (Contains s.waiting x ⊎ Contains os x)
  pub waiting : (x : OpData) → Contains t.waiting x → Contains s.waiting x ⊎ Contains os x

comes_same : (s : State) (os : List OpData) → ComesFrom s s os
comes_same s os = record { history = λ x at. inl at; waiting = λ x at. inl at }

-- one step after another; what came in the first or the second is among these
comes_on : (s t u : State) (os ps qs : List OpData) → ((x : OpData) → Contains os x → Contains qs x)
    → ((x : OpData) → Contains ps x → Contains qs x)
    → ComesFrom s t os → ComesFrom t u ps → ComesFrom s u qs
comes_on s t u os ps qs first second a b = record {
  history = λ x at. elim (b.history x at) [
    | inl old ↦ from_history x (a.history x old)
    | inr (inl held) ↦ inr (from_waiting x (a.waiting x held))
    | inr (inr new) ↦ inr (inr (second x new))
  ];
  waiting = λ x at. elim (b.waiting x at) [
    | inl held ↦ from_waiting x (a.waiting x held)
    | inr new ↦ inr (second x new)
  ];
}
  where
    from_waiting : (x : OpData) → Contains s.waiting x ⊎ Contains os x → Contains s.waiting x ⊎ Contains qs x
    from_waiting x (inl held) = inl held
    from_waiting x (inr new) = inr (first x new)

    from_history : (x : OpData) → Contains s.history x ⊎ (Contains s.waiting x ⊎ Contains os x)
        → Contains s.history x ⊎ (Contains s.waiting x ⊎ Contains qs x)
    from_history x (inl old) = inl old
    from_history x (inr held) = inr (from_waiting x held)

one_of : (o x : OpData) → o ≡ x → Contains (o ∷ []) x
one_of o x same = subst (λ (y : OpData). Contains (o ∷ []) y) same (contains_here o [])

held_from : (w : List OpData) (o x : OpData) → Contains (held w o) x → Contains w x ⊎ Contains (o ∷ []) x
held_from w o x at =
    elim (cases_Bool (list_any (op_eq o) w)) [
      | inl there ↦ inl (subst (λ (xs : List OpData). Contains xs x) (cond-true _ _ _ there) at)
      | inr new ↦ elim (Contains-push_cases w o x (subst (λ (xs : List OpData). Contains xs x) (cond-false _ _ _ new) at)) [
        | inl old ↦ inl old
        | inr same ↦ inr (one_of o x same)
      ]
    ]

comes_after : (v : Verdict) (o : OpData) (s : State) → ComesFrom s (after_verdict v o s) (o ∷ [])
comes_after Repeat o s = comes_same s (o ∷ [])
comes_after (Forged n) o s = comes_same s (o ∷ [])
comes_after (Waits m) o s = record { history = λ x at. inl at; waiting = λ x at. held_from s.waiting o x at }
comes_after (NotClosed k) o s = comes_same s (o ∷ [])
comes_after (PlaceOut p k) o s = comes_same s (o ∷ [])
comes_after Integrated o s = record {
  history = λ x at. elim (Contains-push_cases s.history o x at) [ inl old ↦ inl old | inr same ↦ inr (inr (one_of o x same)) ];
  waiting = λ x at. inl at;
}

comes_delivered : (s : State) (o : OpData) → ComesFrom s (delivered s o) (o ∷ [])
comes_delivered s o = comes_after (judged s o) o s

-- ---- releases

left_in : (w : List OpData) (i : ℕ) (x : OpData) → Contains (remove w i) x → Contains w x
left_in [] zero x at = absurd (contains_none x at)
left_in [] (suc i) x at = absurd (contains_none x at)
left_in (y ∷ ys) zero x at = contains_later y ys x at
left_in (y ∷ ys) (suc i) x at =
    elim (contains_cases y (remove ys i) x at) [
      | inl here ↦ subst (λ (z : OpData). Contains (y ∷ ys) z) here (contains_here y ys)
      | inr later ↦ contains_later y ys x (left_in ys i x later)
    ]

comes_again : (s : State) (i : ℕ) (o : OpData) → Contains s.waiting o → ComesFrom s (delivered (without_waiting s i) o) []
comes_again s i o there =
    let rest = without_waiting s i in
    let step = comes_delivered rest o in
    record {
      history = λ x at. elim (step.history x at) [
        | inl old ↦ inl old
        | inr (inl held) ↦ inr (inl (left_in s.waiting i x held))
        | inr (inr new) ↦ inr (inl (is_there x new))
      ];
      waiting = λ x at. elim (step.waiting x at) [
        | inl held ↦ inl (left_in s.waiting i x held)
        | inr new ↦ inl (is_there x new)
      ];
    }
  where
    is_there : (x : OpData) → Contains (o ∷ []) x → Contains s.waiting x
    is_there x new = elim (contains_cases o [] x new) [
      | inl same ↦ subst (λ (z : OpData). Contains s.waiting z) same there
      | inr none ↦ absurd (contains_none x none)
    ]

comes_released : (s : State) (r : Released) → released s ≡ Some r → ComesFrom s r.after []
comes_released s r is = at_place (first_ready s.history s.waiting) is
  where
    found : (i : ℕ) (p : Option OpData) → slice_get s.waiting i ≡ p → option_map (delivered_again (without_waiting s i)) p ≡ Some r
        → ComesFrom s r.after []
    found i None at e = absurd (let never = e in cc)
    found i (Some o) at e =
        let same : delivered_again (without_waiting s i) o ≡ r = cc in
        subst (λ (x : Released). ComesFrom s x.after []) same (comes_again s i o (got_there s.waiting i o at))

    at_place : (p : Option ℕ) → released_at s p ≡ Some r → ComesFrom s r.after []
    at_place None e = absurd (let never = e in cc)
    at_place (Some i) e = found i (slice_get s.waiting i) refl e

none_new : (x : OpData) → Contains {X = OpData} [] x → Contains {X = OpData} [] x
none_new x at = at

comes_settled : (n : ℕ) (s : State) → ComesFrom s (state_after s (releases n s)) []
unfolding releases state_after
comes_settled zero s = comes_same s []
comes_settled (suc n) s = go (λ t. comes_settled n t) (released s) refl
  where
    go : ((t : State) → ComesFrom t (state_after t (releases n t)) []) → (p : Option Released) → released s ≡ p
        → ComesFrom s (state_after s (and_more (releases n) p)) []
    go again None is = comes_same s []
    go again (Some r) is =
        comes_on s r.after (state_after r.after (releases n r.after)) [] [] [] none_new none_new (comes_released s r is) (again r.after)

-- ---- taking in

comes_by_one : (s : State) (o : OpData) → ComesFrom s (settled (delivered s o)) (o ∷ [])
comes_by_one s o =
    let d = delivered s o in
    comes_on s d (settled d) (o ∷ []) [] (o ∷ []) (λ x at. at) (λ x at. absurd (contains_none x at)) (comes_delivered s o)
    (comes_settled (length d.waiting) d)

pub comes_taken : (s t : State) (os : List OpData) → all_taken_in s os ≡ Ok t → ComesFrom s t os
comes_taken s t [] e = subst (λ (x : State). ComesFrom s x []) (same_after_none s t e) (comes_same s [])
comes_taken s t (o ∷ os) e =
    comes_on s (settled (delivered s o)) t (o ∷ []) os (o ∷ os) here (λ x at. contains_later o os x at) (comes_by_one s o)
    (comes_taken (settled (delivered s o)) t os (first_taken s t o os e).1)
  where
    here : (x : OpData) → Contains (o ∷ []) x → Contains (o ∷ os) x
    here x at = elim (contains_cases o [] x at) [
      | inl same ↦ subst (λ (z : OpData). Contains (o ∷ os) z) same (contains_here o os)
      | inr none ↦ absurd (contains_none x none)
    ]

-- what is taken in doesn't wait: whatever waits then waited before
taken_waits : (v : Verdict) (o : OpData) (s : State) → is_had v ≡ true → (after_verdict v o s).waiting ≡ s.waiting
taken_waits v o s had =
    elim (had_cases v had) [
      | inl is ↦ ap (λ (x : Verdict). (after_verdict x o s).waiting) is
      | inr is ↦ ap (λ (x : Verdict). (after_verdict x o s).waiting) is
    ]

pub waited_before : (s t : State) (os : List OpData) → all_taken_in s os ≡ Ok t → (x : OpData) → Contains t.waiting x → Contains s.waiting x
waited_before s t [] e x at = subst (λ (u : State). Contains u.waiting x) (sym (same_after_none s t e)) at
waited_before s t (o ∷ os) e x at =
    let first = first_taken s t o os e in
    let d = delivered s o in
    elim ((comes_settled (length d.waiting) d).waiting x (waited_before (settled d) t os first.1 x at)) [
      | inl held ↦ subst (λ (w : List OpData). Contains w x) (taken_waits (judged s o) o s first.0) held
      | inr none ↦ absurd (contains_none x none)
    ]
