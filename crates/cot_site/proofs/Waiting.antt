-- What waits: without one of its operations, with one more, and what a pool finds ready in it.
use Rattle.std.proofs.Common.{◌≡◌, ◌↔◌, ℕ, zero, suc, ◌<◌, Bool, true, false, inl, inr, List, [], ◌∷◌, ◌++◌, refl, ap, sym, subst, ◌∙◌, arith, IsNone, IfSome, length, Result, Ok, Err, IfOk}
use Rattle.std.specs.Prelude.{Option, Some, None, Contains, not, ◌&&◌, ◌||◌, slice_get, remove, option_map, if◌then◌else◌}
use Rattle.std.specs.List.{list_any}
use Rattle.std.specs.Option.{is_none}
use Rattle.std.specs.Bool.{Decides}
use Rattle.std.proofs.lemmas.Bool.{cases_Bool, cases_lt, or_cases, or_left, or_right, and_right, true≢false, false_from_ne_true}
use Rattle.std.proofs.lemmas.List.Elements.{Contains-push_cases}
use Rattle.std.proofs.lemmas.Option.{none-some, slice_get_within}
use Rattle.op_name.specs.declared.memory.Memory.{Memory}
use Rattle.op_name.specs.declared.member.Member.{Member}
use Rattle.op_name.specs.Members.{member_eq, target_of}
use Rattle.context_vector.specs.Contexts.{ContextData}
use Rattle.context_diff.specs.Operations.{OpData, member_of, context_of, is_original, IsWellFormed}
use Rattle.context_diff.specs.Histories.{is_known, context_of_all, IsNext, IsValid}
use Rattle.context_diff.specs.declared.op.Op.{Op}
use Rattle.context_diff.specs.Ops.{data_of, op_eq}
use Rattle.context_diff.proofs.CallerLemmas.{complete, op_eq_decides, contains_cases, contains_here, contains_later, contains_none}
use Rattle.causal_gate.specs.Waiting.{IsReady, IsFirstReady, NoneReady, NamesAgree}
use Rattle.site_answers.specs.declared.verdict.Verdict.{Verdict}
use Rattle.site_answers.specs.declared.verdict.Verdict.TheVariants.{Repeat, Forged, Waits, NotClosed, PlaceOut, Integrated}
use Rattle.cot_site.specs.Verdicts.{is_repeat, is_other, lacked, verdict_of, ready_verdict, IsVerdict}
use Rattle.cot_site.specs.States.{State, held, after_verdict, is_ready, first_ready, without_waiting, delivered_again, released_at, released}
use Rattle.cot_site.specs.Sites.{AllFormed}
use Rattle.cot_site.proofs.Lacking.{nothing_lacked, lacked_none}
use Rattle.cot_site.proofs.Cases.{same_any}
use Rattle.cot_site.proofs.Verdicts.{pick, formed_context, verdict_holds, integrated_next}
use Rattle.cot_site.proofs.Releases.{IsFirstAt, FirstAnswer, first_answer, ready_not_waits}
use Rattle.cot_site.proofs.Covers.{none_true}

-- ---- without one of them

any_remove : {A : Type 0} (p : A → Bool) (xs : List A) (i : ℕ) (x : A) → slice_get xs i ≡ Some x → p x ≡ false
    → list_any p (remove xs i) ≡ list_any p xs
any_remove p [] zero x at lacks = refl
any_remove p [] (suc i) x at lacks = refl
any_remove p (y ∷ ys) zero x at lacks =
    let same : y ≡ x = cc in
    ap (λ b. b || list_any p ys) (sym (ap p same ∙ lacks))
any_remove p (y ∷ ys) (suc i) x at lacks = ap (λ b. p y || b) (any_remove p ys i x at lacks)

not_other : (o : OpData) → is_other o o ≡ false
not_other o = and_right (member_eq (member_of o) (member_of o)) (not (op_eq o o)) (ap not ((op_eq_decides o o).1 refl))

-- the verdict, by whether another of the name waits
abbrev verdict_by : List OpData → OpData → Bool → Verdict
verdict_by h o b =
    pick (is_repeat h o) (is_original o && (list_any (is_other o) h || b)) (lacked h (context_of o)) (target_of (member_of o))
    (ready_verdict h o)

-- the verdict on one that waits is the same whether it is among the others or not
pub verdict_alone : (h w : List OpData) (i : ℕ) (o : OpData) → slice_get w i ≡ Some o → verdict_of h w o ≡ verdict_of h (remove w i) o
verdict_alone h w i o at = ap (verdict_by h o) (sym (any_remove (is_other o) w i o at (not_other o)))

left_in : (xs : List OpData) (i : ℕ) (x : OpData) → Contains (remove xs i) x → Contains xs x
left_in [] zero x c = absurd (contains_none x c)
left_in [] (suc i) x c = absurd (contains_none x c)
left_in (y ∷ ys) zero x c = contains_later y ys x c
left_in (y ∷ ys) (suc i) x c =
    elim (contains_cases y (remove ys i) x c) [
      | inl same ↦ subst (λ z. Contains (y ∷ ys) z) same (contains_here y ys)
      | inr later ↦ contains_later y ys x (left_in ys i x later)
    ]

pub removed_formed : (w : List OpData) (i : ℕ) → AllFormed w → AllFormed (remove w i)
removed_formed w i all o at = all o (left_in w i o at)

-- ---- with one more

pub held_formed : (w : List OpData) (o : OpData) → AllFormed w → IsWellFormed o → AllFormed (w ++ o ∷ [])
held_formed w o all formed x at =
    elim (Contains-push_cases w o x at) [ inl old ↦ all x old | inr same ↦ subst IsWellFormed same formed ]

pub held_new : (w : List OpData) (o : OpData) (added : Bool) → (added ≡ false) ↔ Contains w o
    → (if added then w ++ o ∷ [] else w) ≡ held w o
held_new w o true new =
    let apart : list_any (op_eq o) w ≡ false = false_from_ne_true (list_any (op_eq o) w) (λ e. true≢false (new.1 ((same_any o w).0 e))) in
    ap (λ (b : Bool). if b then w else w ++ o ∷ []) (sym apart)
held_new w o false new = ap (λ (b : Bool). if b then w else w ++ o ∷ []) (sym ((same_any o w).1 (new.0 refl)))

-- an operation that waits shares its name with none that waits already
pub waits_agree : (h w : List OpData) (o : OpData) (m : Member) → IsValid h → IsWellFormed o → verdict_of h w o ≡ Waits m → NamesAgree w o
waits_agree h w o m valid formed e x n at named is =
    let verdict : IsVerdict h w o (Waits m) = subst (IsVerdict h w o) e (verdict_holds h w valid o formed) in
    elim (cases_Bool (op_eq x o)) [
      | inl same ↦ (op_eq_decides x o).0 same
      | inr other ↦
          absurd (verdict.0.no_forgery n (record {
            name = is;
            known = inr (record {
              other = x;
              there = at;
              same_name = named;
              differs = λ s. true≢false (sym ((op_eq_decides x o).1 s) ∙ other);
            });
          }))
    ]

-- ---- what is ready

pub ready_decides : (h : List OpData) → IsValid h → (o : OpData) → IsWellFormed o → Decides (is_ready h o) (IsReady (context_of_all h) o)
ready_decides h valid o formed =
    let w = complete h valid in
    let is = formed_context o formed in (
      λ e. elim (or_cases (is_known h (member_of o)) (is_none (lacked h (context_of o))) e) [
        | inl known ↦ inl (w.holds (member_of o) ∙ known)
        | inr there ↦ inr (λ m at. w.holds m ∙ nothing_lacked h w (context_of o) is (none_true (lacked h (context_of o)) there) m at)
      ],
      λ ready. from ready,
    )
  where
    from : IsReady (context_of_all h) o → is_ready h o ≡ true
    from (inl there) =
        or_left (is_known h (member_of o)) (is_none (lacked h (context_of o))) (sym ((complete h valid).holds (member_of o)) ∙ there)
    from (inr within) =
        or_right (is_known h (member_of o)) (is_none (lacked h (context_of o)))
        (ap (λ r. is_none r) (lacked_none h (complete h valid) (context_of o) (formed_context o formed)
        (λ m at. sym ((complete h valid).holds m) ∙ within m at)))

pub got_there : (w : List OpData) (i : ℕ) (o : OpData) → slice_get w i ≡ Some o → Contains w o
got_there [] i o at = absurd (none_got i o at)
  where
    none_got : (j : ℕ) (p : OpData) → slice_get {X = OpData} [] j ≡ Some p → ⊥
    none_got zero p e = cc
    none_got (suc j) p e = cc
got_there (x ∷ xs) zero o at = let same : x ≡ o = cc in subst (λ z. Contains (x ∷ xs) z) same (contains_here x xs)
got_there (x ∷ xs) (suc i) o at = contains_later x xs o (got_there xs i o at)

module _ (h : List OpData) (valid : IsValid h) (w : List OpData) (all : AllFormed w) where
  -- the place that a pool finds is that of the definition
  same_first : (i j : ℕ) → IsFirstAt h w i → IsFirstReady (context_of_all h) w j → i ≡ j
  same_first i j a b =
      elim (cases_lt i j) [
        | inl less ↦ absurd (b.first i a.op less a.at ((ready_decides h valid a.op (all a.op a.there)).0 a.ready))
        | inr from ↦
            elim (cases_lt j i) [
              | inl less ↦
                  let there = got_there w j b.op b.there in
                  absurd (true≢false (sym ((ready_decides h valid b.op (all b.op there)).1 b.ready) ∙ a.first j b.op less b.there))
              | inr back ↦ omega arith
            ]
      ]

  found_by : (r : Option ℕ) → (IsNone r ↔ NoneReady (context_of_all h) w) → IfSome r (IsFirstReady (context_of_all h) w) → (q : Option ℕ)
      → FirstAnswer h w q → r ≡ q
  found_by None none first q (inl (i, is, found)) =
      absurd (none.0 refl found.op found.there ((ready_decides h valid found.op (all found.op found.there)).0 found.ready))
  found_by None none first q (inr (is, _)) = sym is
  found_by (Some j) none first q (inl (i, is, found)) = ap (λ k. Some k) (sym (same_first i j found first)) ∙ sym is
  found_by (Some j) none first q (inr (is, nothing)) =
      let there = got_there w j first.op first.there in
      absurd (true≢false (sym ((ready_decides h valid first.op (all first.op there)).1 first.ready) ∙ nothing first.op there))

  pub ready_found : (r : Option ℕ) → (IsNone r ↔ NoneReady (context_of_all h) w) → IfSome r (IsFirstReady (context_of_all h) w)
      → r ≡ first_ready h w
  ready_found r none first = found_by r none first (first_ready h w) (first_answer h w)

-- one operation stands at a place
pub one_at : (w : List OpData) (i : ℕ) (o p : OpData) → slice_get w i ≡ Some p → slice_get w i ≡ Some o → p ≡ o
one_at w i o p at there =
    let same : Some p ≡ Some o = sym at ∙ there in
    cc

-- the verdict on the one at a place
pub judged_at : (h w : List OpData) (i : ℕ) (o p : OpData) (v : Verdict) → slice_get w i ≡ Some p → v ≡ verdict_of h w p
    → slice_get w i ≡ Some o → v ≡ verdict_of h (remove w i) o
judged_at h w i o p v at is there = is ∙ (ap (verdict_of h w) (one_at w i o p at there) ∙ verdict_alone h w i o there)

pub formed_at : (w : List OpData) (i : ℕ) (o : OpData) → AllFormed w → slice_get w i ≡ Some o → IsWellFormed o
formed_at w i o all at = all o (got_there w i o at)

-- ---- a release

-- any other verdict changes nothing
pub quiet : (v : Verdict) (o : OpData) (s : State) → ¬ (v ≡ Integrated) → ((m : Member) → ¬ (v ≡ Waits m)) → after_verdict v o s ≡ s
quiet Repeat o s p q = refl
quiet (Forged n) o s p q = refl
quiet (Waits m) o s p q = absurd (q m refl)
quiet (NotClosed k) o s p q = refl
quiet (PlaceOut k n) o s p q = refl
quiet Integrated o s p q = absurd (p refl)

pub first_is_ready : (h w : List OpData) (i : ℕ) → first_ready h w ≡ Some i → (o : OpData) → slice_get w i ≡ Some o → is_ready h o ≡ true
first_is_ready h w i first o at = from (first_answer h w)
  where
    from : FirstAnswer h w (first_ready h w) → is_ready h o ≡ true
    from (inl (j, is, found)) =
        let same : Some j ≡ Some i = sym is ∙ first in
        let ji : j ≡ i = cc in
        let both : Some found.op ≡ Some o = sym found.at ∙ (ap (slice_get w) ji ∙ at) in
        let oo : found.op ≡ o = cc in
        subst (λ x. is_ready h x ≡ true) oo found.ready
    from (inr (is, nothing)) = absurd (none-some i (sym is ∙ first))

pub first_within : (h w : List OpData) (i : ℕ) → first_ready h w ≡ Some i → i < length w
first_within h w i first = from (first_answer h w)
  where
    from : FirstAnswer h w (first_ready h w) → i < length w
    from (inl (j, is, found)) =
        let same : Some j ≡ Some i = sym is ∙ first in
        let ji : j ≡ i = cc in
        slice_get_within w i found.op (ap (slice_get w) (sym ji) ∙ found.at)
    from (inr (is, nothing)) = absurd (none-some i (sym is ∙ first))

-- what a release is, where the place is the first ready one
pub release_is : (s : State) (i : ℕ) (o : OpData) → first_ready s.history s.waiting ≡ Some i → slice_get s.waiting i ≡ Some o
    → released s ≡ Some (delivered_again (without_waiting s i) o)
release_is s i o first at = ap (released_at s) first ∙ ap (option_map (delivered_again (without_waiting s i))) at

pub release_none : (s : State) → first_ready s.history s.waiting ≡ None → released s ≡ None
release_none s first = ap (released_at s) first

-- the state after the verdict on a ready one that isn't integrated
pub ready_quiet : (h w : List OpData) (i : ℕ) (o p : OpData) (v : Verdict) (s : State) → IsValid h → AllFormed w → slice_get w i ≡ Some p
    → is_ready h p ≡ true → v ≡ verdict_of h (remove w i) p → ¬ (v ≡ Integrated) → after_verdict v o s ≡ s
ready_quiet h w i o p v s valid all at ready is other =
    quiet v o s other (λ m e. ready_not_waits h (remove w i) p m valid (formed_at w i p all at) ready (sym is ∙ e))

-- what a pool that held an operation has
pub held_all : (w : List OpData) (o : OpData) (added : Bool) (v : List OpData) → AllFormed w → IsWellFormed o
    → v ≡ (if added then w ++ o ∷ [] else w) → AllFormed v
held_all w o true v all formed is = subst AllFormed (sym is) (held_formed w o all formed)
held_all w o false v all formed is = subst AllFormed (sym is) all

-- what stands at a place, as a copy of it
pub copied : (w : List OpData) (i : ℕ) (p : OpData) (r : Result Op Memory) → slice_get w i ≡ Some p → IfOk r (λ o. data_of o ≡ p)
    → IfOk r (λ o. slice_get w i ≡ Some (data_of o))
copied w i p (Ok o) at same = at ∙ ap (λ x. Some x) (sym same)
copied w i p (Err e) at same = tt

-- one that waits and gets the verdict of an integrated one may come next
pub ready_integrated : (h w : List OpData) (i : ℕ) (o : OpData) (v : Verdict) → IsValid h → AllFormed w → slice_get w i ≡ Some o
    → ((p : OpData) → slice_get w i ≡ Some p → v ≡ verdict_of h (remove w i) p) → v ≡ Integrated → IsNext h o
ready_integrated h w i o v valid all at is integrated =
    integrated_next h (remove w i) o valid (formed_at w i o all at) (sym (is o at) ∙ integrated)

-- ---- the first one that is ready, as a release finds it

module _ (s : State) (valid : IsValid s.history) (all : AllFormed s.waiting) (have : ContextData) (w : List OpData)
    (is_have : have ≡ context_of_all s.history) (is_waiting : w ≡ s.waiting) (r : Option ℕ) (none : IsNone r ↔ NoneReady have w)
    (first : IfSome r (IsFirstReady have w)) where
  pub found_first : r ≡ first_ready s.history s.waiting
  found_first =
      let whole : IsNone r ↔ NoneReady (context_of_all s.history) s.waiting =
      subst (λ (c : ContextData). IsNone r ↔ NoneReady c s.waiting) is_have
      (subst (λ (os : List OpData). IsNone r ↔ NoneReady have os) is_waiting none) in
      let least : IfSome r (IsFirstReady (context_of_all s.history) s.waiting) =
      subst (λ (c : ContextData). IfSome r (IsFirstReady c s.waiting)) is_have
      (subst (λ (os : List OpData). IfSome r (IsFirstReady have os)) is_waiting first) in
      ready_found s.history valid s.waiting all r whole least
