-- What a binary search finds among pairs whose keys rise.
use Rattle.std.proofs.Common.{◌≡◌, ℕ, zero, suc, ◌<◌, ◌≤◌, Bool, true, List, [], ◌∷◌, length, get_or, if◌then◌else◌, Result, Ok, Err, IfOk, IfErr, refl, subst, ◌∙◌, inl, inr, arith}
use Rattle.std.specs.Prelude.{◌==◌, nat_lt}
use Rattle.std.specs.List.Sorted.{IsSearchInRange, IsBinarySearchResult, IsNonDecreasingBy}
use Rattle.std.specs.declared.cmp.Ordering.{Ordering}
use Rattle.std.specs.declared.cmp.Ordering.TheVariants.{Less, Equal, Greater}
use Rattle.std.specs.Ordering.{nat_cmp, ordering_index}
use Rattle.std.proofs.lemmas.Bool.{cases_lt, cases_order, eq-eqb, ne_eqb, lt-ltb, le-ltb}
use Rattle.op_name.specs.Order.{IsOrder}
use Rattle.op_name.specs.NameData.{NameData, name_eq, name_lt, name_cmp}
use Rattle.op_name.proofs.CallerLemmas.{cases_by_order}
use Rattle.context_vector.specs.Code.Places.{IsPlace, IsGap}
use Rattle.context_vector.proofs.Keyed.{IsRising, later_key}

-- what a comparison answers in an order
abbrev pub answer_of : Bool → Bool → Ordering
answer_of less equal = if less then Less else if equal then Equal else Greater

module _ {K : Type 0} (eq lt : K → K → Bool) (order : IsOrder eq lt) (cmp : K → K → Ordering)
    (cmp_is : (a b : K) → cmp a b ≡ answer_of (lt a b) (eq a b)) where
  less_answer : (a b : K) → lt a b ≡ true → cmp a b ≡ Less
  less_answer a b less = cmp_is a b ∙ rw less refl

  greater_answer : (a b : K) → lt b a ≡ true → cmp a b ≡ Greater
  greater_answer a b more =
      cases_by_order eq lt order a b _
      (λ is e e' l l'. cc)
      (λ e e' l l'. cc)
      (λ e e' l l'. cmp_is a b ∙ rw (l, e) refl)

  is_less : (a b : K) → cmp a b ≡ Less → lt a b ≡ true
  is_less a b answer =
      cases_by_order eq lt order a b _
      (λ is e e' l l'. let other : cmp a b ≡ Equal = cmp_is a b ∙ rw (l, e) refl in cc)
      (λ e e' l l'. l)
      (λ e e' l l'. let other : cmp a b ≡ Greater = greater_answer a b l' in cc)

  is_greater : (a b : K) → cmp a b ≡ Greater → lt b a ≡ true
  is_greater a b answer =
      cases_by_order eq lt order a b _
      (λ is e e' l l'. let other : cmp a b ≡ Equal = cmp_is a b ∙ rw (l, e) refl in cc)
      (λ e e' l l'. let other : cmp a b ≡ Less = less_answer a b l in cc)
      (λ e e' l l'. l')

  is_equal : (a b : K) → cmp a b ≡ Equal → a ≡ b
  is_equal a b answer =
      cases_by_order eq lt order a b _
      (λ is e e' l l'. is)
      (λ e e' l l'. let other : cmp a b ≡ Less = less_answer a b l in cc)
      (λ e e' l l'. let other : cmp a b ≡ Greater = greater_answer a b l' in cc)

  answers_rise : (a b k : K) → lt a b ≡ true → ordering_index (cmp a k) ≤ ordering_index (cmp b k)
  answers_rise a b k less =
      cases_by_order eq lt order a k _
      (λ is e e' l l'. rw (cmp_is a k, l, e, greater_answer b k (subst (λ x. lt x b ≡ true) is less)) (omega arith))
      (λ e e' l l'. rw (less_answer a k l) (omega arith))
      (λ e e' l l'. rw (greater_answer a k l', greater_answer b k (order.transitive k a b l' less)) (omega arith))

  keys_rise : (ps : List (K × ℕ)) → IsRising eq lt ps → (i j : ℕ) (d : K × ℕ) → i < j → j < length ps
      → lt (get_or ps i d).0 (get_or ps j d).0 ≡ true
  keys_rise [] rising i j d less within = absurd (omega arith)
  keys_rise (p ∷ ps) rising i zero d less within = absurd (omega arith)
  keys_rise (p ∷ ps) rising zero (suc j) d less within = later_key eq lt order p.0 ps rising.1 j d (omega arith)
  keys_rise (p ∷ ps) rising (suc i) (suc j) d less within = keys_rise ps rising.2 i j d (omega arith) (omega arith)

  all_rise : (ps : List (K × ℕ)) → IsRising eq lt ps → (k : K) → IsNonDecreasingBy (λ (p : K × ℕ). ordering_index (cmp p.0 k)) ps
  all_rise ps rising k i j d le within =
      elim (cases_lt i j) [
        | inl less ↦ answers_rise (get_or ps i d).0 (get_or ps j d).0 k (keys_rise ps rising i j d less within)
        | inr more ↦ let same : i ≡ j =
            omega arith in subst (λ x. ordering_index (cmp (get_or ps i d).0 k) ≤ ordering_index (cmp (get_or ps x d).0 k)) same
            (omega arith)
      ]

  -- a binary search ends at the key, or at the gap for it
  pub searched : (ps : List (K × ℕ)) → IsRising eq lt ps → (k : K) (r : Result ℕ ℕ) → IsSearchInRange r (length ps)
      → IsBinarySearchResult (λ (p : K × ℕ). cmp p.0 k) ps r → IfOk r (IsPlace ps k) × IfErr r (IsGap lt ps k)
  searched ps rising k (Ok at) within equal = (record { within = within; key = λ d. is_equal _ k (equal d) }, tt)
  searched ps rising k (Err at) within parted =
      let parts = parted (all_rise ps rising k) in (
        tt,
        record {
          within = within;
          before = λ j d less. is_less _ k (parts.0 j d (omega arith) less);
          after = λ j d from less. is_greater _ k (parts.1 j d from less);
        },
      )

-- the comparisons of numbers and of names
pub number_answers : (a b : ℕ) → nat_cmp a b ≡ answer_of (nat_lt a b) (a == b)
number_answers a b = refl

pub name_answers : (a b : NameData) → name_cmp a b ≡ answer_of (name_lt a b) (name_eq a b)
name_answers a b =
    elim (cases_order a.site b.site) [
      | inl one ↦ rw (eq-eqb a.site b.site one, le-ltb a.site b.site (omega arith)) refl
      | inr (inl less) ↦ rw (lt-ltb a.site b.site less) refl
      | inr (inr more) ↦ rw (le-ltb a.site b.site (omega arith), ne_eqb a.site b.site (omega arith)) refl
    ]
