-- The mark of a list after each change of it.
use Rattle.std.proofs.Common.{◌≡◌, ℕ, ◌+◌, ◌*◌, ◌/◌, ◌%◌, ◌<◌, ◌≤◌, ◌^◌, ◌≢◌, true, false, List, [], ◌∷◌, length, refl, sym, ap, subst, ◌∙◌, inl, inr, arith}
use Rattle.std.proofs.lemmas.Bool.{cases_order, eq-eqb, ne_eqb}
use Rattle.std.proofs.lemmas.Nat.{mod_below, shr_below}
use Rattle.op_name.specs.NameData.{NameData, name_eq, name_lt}
use Rattle.op_name.proofs.CallerLemmas.{name_order, cases_by_order}
use Rattle.context_vector.specs.Contexts.{entry_in, put_entry, AreEntries}
use Rattle.context_vector.specs.Vectors.{without_name}
use Rattle.context_vector.specs.Equality.{entry_eq, list_eq_decides}
use lib.Pointwise.{pointwise}
use Rattle.context_vector.specs.Marks.{spread, folded, weight, mark_of, laid}
use Rattle.context_vector.proofs.Keyed.{value_after}
use Rattle.context_vector.proofs.Entries.{entry_is, entries_after, length_at_most}

pub weight_none : (n : NameData) → weight n 0 ≡ 0
unfolding weight
weight_none n = refl

pub weight_some : (n : NameData) (g : ℕ) → g ≢ 0
    → weight n g ≡ spread (folded (spread (n.site * 68719476736 + n.number * 65536 + g))) / 2 ^ 31
unfolding weight
weight_some n g some = rw (ne_eqb g 0 some) refl

-- a name before the first of a list isn't in it
pub absent_before : (n : NameData) (e : NameData × ℕ) (es : List (NameData × ℕ)) → AreEntries (e ∷ es) → name_lt n e.0 ≡ true
    → entry_in es n ≡ 0
absent_before n e es are less = entry_is es n ∙ value_after name_eq name_lt name_order n es (entries_after n (e ∷ es) less are).1

pub mark_put : (n : NameData) (g : ℕ) (es : List (NameData × ℕ)) → AreEntries es
    → mark_of (put_entry n g es) + weight n (entry_in es n) ≡ mark_of es + weight n g
mark_put n g [] are = omega (arith, weight_none n)
mark_put n g (e ∷ es) are =
    cases_by_order name_eq name_lt name_order e.0 n _
    (λ is q q' l l'. rw q (subst (λ x. weight n g + mark_of es + weight n e.1 ≡ weight x e.1 + mark_of es + weight n g) (sym is)
    (omega arith)))
    (λ q q' l l'. rw (q, l') (omega (arith, mark_put n g es are.4)))
    (λ q q' l l'. rw (q, l', absent_before n e es are l') (omega (arith, weight_none n)))

pub mark_without : (n : NameData) (es : List (NameData × ℕ)) → mark_of (without_name n es) + weight n (entry_in es n) ≡ mark_of es
mark_without n [] = omega (arith, weight_none n)
mark_without n (e ∷ es) =
    cases_by_order name_eq name_lt name_order e.0 n _
    (λ is q q' l l'. rw q (subst (λ x. mark_of es + weight n e.1 ≡ weight x e.1 + mark_of es) (sym is) (omega arith)))
    (λ q q' l l'. rw q (omega (arith, mark_without n es)))
    (λ q q' l l'. rw q (omega (arith, mark_without n es)))

-- what a name has added is a part of the mark
pub weight_within : (n : NameData) (es : List (NameData × ℕ)) → weight n (entry_in es n) ≤ mark_of es
weight_within n [] = omega (arith, weight_none n)
weight_within n (e ∷ es) =
    cases_by_order name_eq name_lt name_order e.0 n _
    (λ is q q' l l'. rw q (subst (λ x. weight n e.1 ≤ weight x e.1 + mark_of es) (sym is) (omega arith)))
    (λ q q' l l'. rw q (omega (arith, weight_within n es)))
    (λ q q' l l'. rw q (omega (arith, weight_within n es)))

spread_below : (x : ℕ) → spread x < 2 ^ 64
unfolding spread
spread_below x = mod_below (x * 11400714819323198485) (2 ^ 64) (omega arith)

pub weight_below : (n : NameData) (g : ℕ) → weight n g < 8589934592
unfolding weight
weight_below n g =
    elim (cases_order g 0) [
      | inl none ↦ rw (eq-eqb g 0 none) (omega arith)
      | inr other ↦ rw (ne_eqb g 0 (omega arith))
          (shr_below (spread (folded (spread (n.site * 68719476736 + n.number * 65536 + g)))) 33 31 (spread_below _))
    ]

mark_by_length : (es : List (NameData × ℕ)) → mark_of es ≤ 8589934592 * length es
mark_by_length [] = omega arith
mark_by_length (e ∷ es) = omega (arith, mark_by_length es, weight_below e.0 e.1)

-- marks are far from the greatest number of 64 bits
pub mark_below : (es : List (NameData × ℕ)) → AreEntries es → mark_of es < 9223372036854775808
mark_below es are = omega (arith, mark_by_length es, length_at_most es are)

-- lists with different marks are different
pub marks_differ : (es fs : List (NameData × ℕ)) → mark_of es ≢ mark_of fs → pointwise entry_eq es fs ≡ false
marks_differ es fs differ =
    elim (pointwise entry_eq es fs) as (λ b. pointwise entry_eq es fs ≡ b → b ≡ false) [
      | true ↦ λ same. absurd (differ (ap mark_of ((list_eq_decides es fs).0 same)))
      | false ↦ λ e. refl
    ] refl

pub laid_is : (m site count : ℕ) → laid m (site, count) ≡ (spread (folded m) + (site * 2 ^ 32 + count)) % 2 ^ 64
unfolding laid
laid_is m site count = refl
