-- The base context of a member as a context has what it has as a test.
use Rattle.std.proofs.Common.{◌≡◌, ℕ, ◌+◌, ◌-◌, true, inl, inr, List, refl, ap, sym, ◌∙◌, arith}
use Rattle.std.specs.Prelude.{◌&&◌, ◌||◌, nat_lt, if◌then◌else◌}
use Rattle.std.proofs.lemmas.Bool.Decides.{nat_tests}
use Rattle.std.proofs.lemmas.Bool.{cases_Bool, cases_lt}
use Rattle.op_name.specs.declared.member.Member.{Member}
use Rattle.op_name.specs.declared.member.Member.TheVariants.{Original, Group}
use Rattle.op_name.specs.NameData.{NameData, name_eq}
use Rattle.context_vector.specs.Contexts.{ContextData, has, count_of, entry_of, raised}
use Rattle.context_diff.specs.Operations.{OpData}
use Rattle.context_diff.specs.Histories.{is_known}
use Rattle.context_diff.specs.Bases.{original_context, is_below, base_has, base_context_of}
use Rattle.context_diff.proofs.Names.{name_same}
use Rattle.context_diff.proofs.Raising.{has_raised, entry_put, has_group}
use Rattle.context_diff.proofs.Complete.{IsComplete}
use Rattle.context_diff.proofs.Histories.{original_facts, group_facts, own_alone}

-- an original knows no groups of itself
pub no_entry : (h : List OpData) → IsComplete h → (t : NameData) → is_known h (Original t) ≡ true → entry_of (original_context h t) t ≡ 0
no_entry h w t known =
    elim (cases_lt 0 (entry_of (original_context h t) t)) [
      | inl some ↦
          let facts = original_facts h w t known in
          let there =
          facts.stray t (entry_of (original_context h t) t)
          (has_group (original_context h t) t (entry_of (original_context h t) t) some (omega arith)) in
          let less = own_alone h w t known t refl there in
          absurd (omega arith)
      | inr none ↦ omega arith
    ]

-- the context with its original and the groups below g
below_value : (c : ContextData) (t : NameData) (g : ℕ) → t.number ≡ count_of c t.site + 1 → entry_of c t ≡ 0 → (y : Member)
    → has (if nat_lt 1 g then raised (raised c (Original t)) (Group t (g - 1)) else raised c (Original t)) y ≡ (has c y || is_below t g y)
below_value c t g next none (Original x) =
    elim (cases_Bool (nat_lt 1 g)) [
      | inl more ↦ rw more (has_raised c (Original t) next (Original x))
      | inr one ↦ rw one (has_raised c (Original t) next (Original x))
    ]
below_value c t g next none (Group x k) =
    elim (cases_Bool (name_eq t x)) [
      | inl same ↦
          let entry : entry_of c t ≡ entry_of c x = ap (entry_of c) (name_same t x same) in
          elim (cases_Bool (nat_lt 1 g)) [
            | inl more ↦ rw more (rw (entry_put t (g - 1) c.entries x) (rw same (grind (arith, nat_tests))))
            | inr one ↦ rw one (rw same (grind (arith, nat_tests)))
          ]
      | inr other ↦
          elim (cases_Bool (nat_lt 1 g)) [
            | inl more ↦ rw more (rw (entry_put t (g - 1) c.entries x) (rw other (grind (arith, nat_tests))))
            | inr one ↦ rw one (rw other (grind (arith, nat_tests)))
          ]
    ]

pub base_value : (h : List OpData) → IsComplete h → (m : Member) → is_known h m ≡ true → (y : Member)
    → has (base_context_of h m) y ≡ base_has h m y
base_value h w (Original n) known y = sym (ap (λ b. b && has (original_context h n) y) known)
base_value h w (Group t g) known y =
    let target = (group_facts h w t g known).target in
    let next : t.number ≡ count_of (original_context h t) t.site + 1 = sym (original_facts h w t target).own in
    below_value (original_context h t) t g next (no_entry h w t target) y
    ∙ sym (ap (λ b. b && (has (original_context h t) y || is_below t g y)) known)
