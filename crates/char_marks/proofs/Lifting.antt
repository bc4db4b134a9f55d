-- Generations that a set of members lifts.
use Rattle.std.proofs.Common.{◌≡◌, ℕ, ◌<◌, ◌≤◌, Bool, true, false, if◌then◌else◌, List, inl, inr, ap, sym, ◌∙◌, arith}
use Rattle.std.specs.Prelude.{◌&&◌, ◌||◌, nat_le}
use Rattle.std.proofs.lemmas.Bool.{cases_Bool, cases_order}
use Rattle.std.proofs.lemmas.Bool.Decides.{nat_tests}
use Rattle.op_name.specs.NameData.{NameData, IsName, name_eq}
use Rattle.op_name.specs.declared.member.Member.{Member}
use Rattle.op_name.specs.declared.member.Member.TheVariants.{Group}
use Rattle.op_name.specs.declared.member.TheConstants.{GENERATIONS}
use Rattle.op_name.proofs.CallerLemmas.{name_same}
use Rattle.context_vector.specs.Contexts.{ContextData, IsContext, entry_in, has}
use Rattle.context_vector.specs.Vectors.{up_to}
use Rattle.context_vector.proofs.CallerLemmas.{entry_put}
use Rattle.char_marks.specs.Marks.{lifted}
use Rattle.char_marks.proofs.Runs.{lifted_less, lifted_entries, same_entries}

-- whether a generation is among the first v
abbrev among : ℕ → ℕ → Bool
among v k = nat_le 1 k && nat_le k v

-- numbers with the same ones up to them are one
same_by_tests : (a b : ℕ) → ((k : ℕ) → among a k ≡ among b k) → a ≡ b
same_by_tests a b same = elim (cases_order a b) [
  | inl e ↦ e
  | inr (inl less) ↦
      let there = sym (same b) in
      absurd (grind (arith, nat_tests))
  | inr (inr more) ↦
      let there = same a in
      absurd (grind (arith, nat_tests))
]

name_swap : (n m : NameData) → name_eq m n ≡ name_eq n m
name_swap n m = grind (arith, nat_tests)

hit_among : (v g k : ℕ) → v < g → (among v k || (true && among g k)) ≡ among g k
hit_among v g k lt = grind (arith, nat_tests)

miss_among : (v g k : ℕ) → (among v k || (false && among g k)) ≡ among v k
miss_among v g k = grind (arith, nat_tests)

pub lifted_by : (n : NameData) (g : ℕ) (old new : ContextData) → IsContext old → IsContext new → IsName n.site n.number → g ≤ GENERATIONS
    → entry_in old.entries n < g
    → ((y : Member) → has new y ≡ (has old y || up_to y (Group n g)))
    → new.entries ≡ lifted n g old.entries
lifted_by n g old new is is' name most less members =
    same_entries new.entries (lifted n g old.entries) is'.entries (lifted_entries n g old.entries name most is.entries) each
  where
    put : (m : NameData) → entry_in (lifted n g old.entries) m ≡ (if name_eq n m then g else entry_in old.entries m)
    put m = ap (λ (l : List (NameData × ℕ)). entry_in l m) (lifted_less n g old.entries less) ∙ entry_put n g old.entries m

    each : (m : NameData) → entry_in new.entries m ≡ entry_in (lifted n g old.entries) m
    each m = elim (cases_Bool (name_eq n m)) [
      | inl hit ↦
          let low : entry_in old.entries m < g =
          (let same : entry_in old.entries n ≡ entry_in old.entries m = ap (entry_in old.entries) (name_same n m hit) in
          omega (arith, less, same)) in
          same_by_tests (entry_in new.entries m) g (λ k.
          members (Group m k)
          ∙ (ap (λ (b : Bool). among (entry_in old.entries m) k || (b && among g k)) (name_swap n m ∙ hit)
          ∙ hit_among (entry_in old.entries m) g k low))
          ∙ sym (put m ∙ ap (λ (b : Bool). if b then g else entry_in old.entries m) hit)
      | inr miss ↦
          same_by_tests (entry_in new.entries m) (entry_in old.entries m) (λ k.
          members (Group m k)
          ∙ (ap (λ (b : Bool). among (entry_in old.entries m) k || (b && among g k)) (name_swap n m ∙ miss)
          ∙ miss_among (entry_in old.entries m) g k))
          ∙ sym (put m ∙ ap (λ (b : Bool). if b then g else entry_in old.entries m) miss)
    ]
