-- Releases: the first ready operation, and the verdict that it gets.
use Rattle.std.proofs.Common.{◌≡◌, ◌↔◌, ℕ, zero, suc, ◌<◌, true, false, ◌⊎◌, inl, inr, List, [], ◌∷◌, refl, ap, sym, subst, ◌∙◌, arith}
use Rattle.std.specs.Prelude.{Option, Some, None, Contains, slice_get, option_map, remove}
use Rattle.std.specs.Option.{is_none}
use Rattle.std.proofs.lemmas.Bool.{cases_Bool, or_cases, cond-true, cond-false, true≢false, false≢true}
use Rattle.std.proofs.lemmas.Option.{none-some}
use Rattle.op_name.specs.declared.member.Member.{Member}
use Rattle.context_diff.specs.Operations.{OpData, member_of, context_of, IsWellFormed}
use Rattle.context_diff.specs.Histories.{is_known, IsValid}
use Rattle.context_diff.proofs.CallerLemmas.{complete, contains_cases, contains_here, contains_later, contains_none}
use Rattle.site_answers.specs.declared.verdict.Verdict.TheVariants.{Waits}
use Rattle.cot_site.specs.Verdicts.{lacked, verdict_of, IsVerdict}
use Rattle.cot_site.specs.States.{State, is_ready, first_ready, without_waiting, Released, delivered_again, released_at, released, IsSettled}
use Rattle.cot_site.proofs.Lacking.{lacked_some}
use Rattle.cot_site.proofs.Verdicts.{formed_context, verdict_holds, new_unknown}

-- the first ready one is at its place, ready, and those before it aren't
pub record IsFirstAt (h w : List OpData) (i : ℕ) : Type 0 where
  pub op : OpData
  pub at : slice_get w i ≡ Some op
  pub there : Contains w op
  pub ready : is_ready h op ≡ true
  pub first : (j : ℕ) (o : OpData) → j < i → slice_get w j ≡ Some o → is_ready h o ≡ false

abbrev pub FirstAnswer : List OpData → List OpData → Option ℕ → Type 0
FirstAnswer h w r = ((i : ℕ) × (r ≡ Some i) × IsFirstAt h w i) ⊎ ((r ≡ None) × ((o : OpData) → Contains w o → is_ready h o ≡ false))

later_answer : (h : List OpData) (o : OpData) (os : List OpData) → is_ready h o ≡ false → (r : Option ℕ) → FirstAnswer h os r
    → FirstAnswer h (o ∷ os) (option_map suc r)
later_answer h o os isnt r (inl (i, is, found)) =
    inl (
      suc i,
      ap (option_map suc) is,
      record {
        op = found.op;
        at = found.at;
        there = contains_later o os found.op found.there;
        ready = found.ready;
        first = first;
      },
    )
  where
    first : (j : ℕ) (p : OpData) → j < suc i → slice_get (o ∷ os) j ≡ Some p → is_ready h p ≡ false
    first zero p less e = let same : o ≡ p = cc in subst (λ x. is_ready h x ≡ false) same isnt
    first (suc j) p less e = found.first j p (omega arith) e
later_answer h o os isnt r (inr (is, none)) =
    inr (
      ap (option_map suc) is,
      λ p at.
          elim (contains_cases o os p at) [ inl same ↦ subst (λ x. is_ready h x ≡ false) same isnt | inr later ↦ none p later ],
    )

pub first_answer : (h w : List OpData) → FirstAnswer h w (first_ready h w)
first_answer h [] = inr (refl, λ o at. absurd (contains_none o at))
first_answer h (o ∷ os) =
    elim (cases_Bool (is_ready h o)) [
      | inl so ↦
          subst (FirstAnswer h (o ∷ os)) (sym (cond-true _ _ _ so))
          (inl (0, refl, record { op = o; at = refl; there = contains_here o os; ready = so; first = λ j p less at. absurd (omega arith) }))
      | inr isnt ↦ subst (FirstAnswer h (o ∷ os)) (sym (cond-false _ _ _ isnt))
          (later_answer h o os isnt (first_ready h os) (first_answer h os))
    ]

pub settled_none : (s : State) → IsSettled s ↔ ((o : OpData) → Contains s.waiting o → is_ready s.history o ≡ false)
settled_none s = (forth (first_answer s.history s.waiting), back (first_answer s.history s.waiting))
  where
    r : Option ℕ
    r = first_ready s.history s.waiting

    forth : FirstAnswer s.history s.waiting (first_ready s.history s.waiting) → IsSettled s → (o : OpData) → Contains s.waiting o
        → is_ready s.history o ≡ false
    forth (inl (i, is, found)) e = absurd (none-some i (sym e ∙ is))
    forth (inr (is, none)) e = none

    back : FirstAnswer s.history s.waiting (first_ready s.history s.waiting)
        → ((o : OpData) → Contains s.waiting o → is_ready s.history o ≡ false) → IsSettled s
    back (inl (i, is, found)) none = absurd (true≢false (sym found.ready ∙ none found.op found.there))
    back (inr (is, _)) none = is

-- a ready operation doesn't wait
pub ready_not_waits : (h w : List OpData) (o : OpData) (m : Member) → IsValid h → IsWellFormed o → is_ready h o ≡ true
    → verdict_of h w o ≡ Waits m → ⊥
ready_not_waits h w o m valid formed ready e =
    let is : IsVerdict h w o (Waits m) = subst (IsVerdict h w o) e (verdict_holds h w valid o formed) in
    elim (or_cases (is_known h (member_of o)) (is_none (lacked h (context_of o))) ready) [
      | inl known ↦ new_unknown h w valid o is.0 known
      | inr there ↦
          let some = lacked_some h (complete h valid) (context_of o) m (formed_context o formed) is.1 in
          false≢true (ap (λ r. is_none r) (sym some) ∙ there)
    ]

pub release_not_waits : (s : State) (r : Released) (m : Member) → IsValid s.history → ((o : OpData) → Contains s.waiting o → IsWellFormed o)
    → released s ≡ Some r → ¬ (r.verdict ≡ Waits m)
release_not_waits s r m valid formed is waits = from (first_answer s.history s.waiting)
  where
    from : FirstAnswer s.history s.waiting (first_ready s.history s.waiting) → ⊥
    from (inr (none, _)) = none-some r (sym (ap (released_at s) none) ∙ is)
    from (inl (i, some, found)) =
        let whole : Some (delivered_again (without_waiting s i) found.op) ≡ Some r =
        sym (ap (released_at s) some ∙ ap (option_map (delivered_again (without_waiting s i))) found.at) ∙ is in
        let same : delivered_again (without_waiting s i) found.op ≡ r = cc in
        let verdict : verdict_of s.history (remove s.waiting i) found.op ≡ Waits m = ap (λ (x : Released). x.verdict) same ∙ waits in
        ready_not_waits s.history (remove s.waiting i) found.op m valid (formed found.op found.there) found.ready verdict
