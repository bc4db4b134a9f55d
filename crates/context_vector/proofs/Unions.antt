-- The members of a context, one site and one name after the other.
use Rattle.std.proofs.Common.{◌≡◌, ℕ, ◌+◌, Bool, true, false, List, [], ◌∷◌, drop, Some, refl, sym, ap, subst, ◌∙◌, inl, inr, arith}
use Rattle.std.specs.Prelude.{◌||◌, slice_get}
use Rattle.std.proofs.lemmas.Option.{none-some, same_Some}
use Rattle.std.proofs.lemmas.Bool.{cases_order, eq-eqb, ne_eqb}
use Rattle.std.proofs.lemmas.Bool.Decides.{nat_tests}
use Rattle.op_name.specs.declared.member.Member.{Member}
use Rattle.op_name.specs.declared.member.Member.TheVariants.{Original, Group}
use Rattle.op_name.specs.NameData.{NameData, name_eq, name_lt}
use Rattle.context_vector.specs.Contexts.{entry_in, has, AreCounts, AreEntries}
use Rattle.op_name.proofs.CallerLemmas.{name_order, cases_by_order}
use Rattle.context_vector.specs.Vectors.{up_to}
use Rattle.context_vector.specs.Code.Lists.{of_counts, of_entries}
use Rattle.context_vector.proofs.Keyed.{value_after, AllAfter}
use Rattle.context_vector.proofs.Entries.{entry_is, entries_after}
use Rattle.context_vector.proofs.Members.{among}
use Rattle.context_vector.proofs.Sets.{original, none_counted}

none_among : (j : ℕ) → among 0 j ≡ false
none_among j = grind (arith, nat_tests)

or_false : (x : Bool) → (x || false) ≡ x
or_false true = refl
or_false false = refl

pub or_assoc : (x y z : Bool) → ((x || y) || z) ≡ (x || (y || z))
or_assoc true y z = refl
or_assoc false y z = refl

-- the first site's originals, and those of the others
first_site : (low : ℕ) (p : ℕ × ℕ) (ps : List (ℕ × ℕ)) → AreCounts low (p ∷ ps)
    → (y : Member) → has (of_counts (p ∷ ps)) y ≡ (up_to y (original p.0 p.1) || has (of_counts ps) y)
first_site low p ps are (Group n g) = refl
first_site low p ps are (Original n) =
    elim (cases_order p.0 n.site) [
      | inl one ↦
          let none = none_counted (p.0 + 1) n.site ps (omega arith) are.4 in
          rw (eq-eqb p.0 n.site one, eq-eqb n.site p.0 (sym one), none, none_among n.number) (sym (or_false (among p.1 n.number)))
      | inr other ↦ rw (ne_eqb p.0 n.site (omega arith), ne_eqb n.site p.0 (omega arith)) refl
    ]

pub sites_step : (low : ℕ) (ps : List (ℕ × ℕ)) → AreCounts low ps → (p : ℕ × ℕ) → slice_get ps 0 ≡ Some p
    → (y : Member) → has (of_counts ps) y ≡ (up_to y (original p.0 p.1) || has (of_counts (drop 1 ps)) y)
sites_step low [] are p is y = absurd (none-some p is)
sites_step low (q ∷ ps) are p is y =
    let split = first_site low q ps are y in
    split ∙ ap (λ (r : ℕ × ℕ). up_to y (original r.0 r.1) || has (of_counts ps) y) (same_Some q p is)

-- the first name's groups, and those of the others
none_entered : (n : NameData) (es : List (NameData × ℕ)) → AreEntries es → (e : NameData × ℕ) → AreEntries (e ∷ es)
    → e.0 ≡ n → entry_in es n ≡ 0
none_entered n es are e are' one =
    let after = subst (λ x. AllAfter name_eq name_lt x es) one (entries_after e.0 es are'.3 are) in
    entry_is es n ∙ value_after name_eq name_lt name_order n es after

first_name : (e : NameData × ℕ) (es : List (NameData × ℕ)) → AreEntries (e ∷ es)
    → (y : Member) → has (of_entries (e ∷ es)) y ≡ (up_to y (Group e.0 e.1) || has (of_entries es) y)
first_name e es are (Original n) = refl
first_name e es are (Group n g) =
    cases_by_order name_eq name_lt name_order e.0 n _
    (λ one q q' l l'. rw (q, q', none_entered n es are.4 e are one, none_among g) (sym (or_false (among e.1 g))))
    (λ q q' l l'. rw (q, q') refl)
    (λ q q' l l'. rw (q, q') refl)

pub names_step : (es : List (NameData × ℕ)) → AreEntries es → (x : NameData × ℕ) → slice_get es 0 ≡ Some x
    → (y : Member) → has (of_entries es) y ≡ (up_to y (Group x.0 x.1) || has (of_entries (drop 1 es)) y)
names_step [] are x is y = absurd (none-some x is)
names_step (e ∷ es) are x is y =
    let split = first_name e es are y in
    split ∙ ap (λ (z : NameData × ℕ). up_to y (Group z.0 z.1) || has (of_entries es) y) (same_Some e x is)

-- one more step of a union: what was added, and what is left
pub union_step : (before after step rest left all : Bool)
    → after ≡ (before || step) → rest ≡ (step || left) → (before || rest) ≡ all → (after || left) ≡ all
union_step before after step rest left all added split whole =
    ap (λ t. t || left) added ∙ (or_assoc before step left ∙ (ap (λ t. before || t) (sym split) ∙ whole))
