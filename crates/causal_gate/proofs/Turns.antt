-- The originals right before those that wait: one comes or goes with its operation.
use Rattle.std.proofs.Common.{◌≡◌, ℕ, zero, suc, ◌≤◌, ◌+◌, Bool, true, false, not, inl, inr, List, [], ◌∷◌, ◌++◌, refl, ap, sym, subst₂, ◌∙◌, length, remove, arith}
use Rattle.std.specs.Prelude.{Option, Some, None, IsTrue, slice_get}
use Rattle.std.proofs.lemmas.Bool.{false≢true}
use Rattle.op_name.specs.declared.member.Member.TheVariants.{Original}
use Rattle.op_name.specs.NameData.{NameData}
use Rattle.context_vector.specs.Contexts.{ContextData, count_of, has}
use Rattle.context_vector.proofs.CallerLemmas.{has_original, original_counted}
use Rattle.context_diff.specs.Operations.{OpData, context_of}
use Rattle.causal_gate.specs.Hints.{IsRightBefore, IsBefore, AreBefore}
use Rattle.causal_gate.specs.Waiting.{IsReady}

pub befores_length : (os : List OpData) (ns : List (Option NameData)) → AreBefore os ns → length ns ≡ length os
befores_length [] [] are = refl
befores_length [] (n ∷ ns) are = absurd are
befores_length (o ∷ os) [] are = absurd are
befores_length (o ∷ os) (n ∷ ns) are = ap suc (befores_length os ns are.1)

pub befores_push : (os : List OpData) (ns : List (Option NameData)) (o : OpData) (n : Option NameData) → AreBefore os ns → IsBefore o n
    → AreBefore (os ++ o ∷ []) (ns ++ n ∷ [])
befores_push [] [] o n are is = (is, tt)
befores_push [] (k ∷ ks) o n are is = absurd are
befores_push (x ∷ xs) [] o n are is = absurd are
befores_push (x ∷ xs) (k ∷ ks) o n are is = (are.0, befores_push xs ks o n are.1 is)

pub befores_remove : (os : List OpData) (ns : List (Option NameData)) (i : ℕ) → AreBefore os ns → AreBefore (remove os i) (remove ns i)
befores_remove [] [] zero are = tt
befores_remove [] [] (suc i) are = tt
befores_remove [] (n ∷ ns) i are = absurd are
befores_remove (o ∷ os) [] i are = absurd are
befores_remove (o ∷ os) (n ∷ ns) zero are = are.1
befores_remove (o ∷ os) (n ∷ ns) (suc i) are = (are.0, befores_remove os ns i are.1)

-- the name at a place is one for the operation there
pub before_here : (os : List OpData) (ns : List (Option NameData)) (i : ℕ) (n : Option NameData) (o : OpData) → AreBefore os ns
    → slice_get ns i ≡ Some n → slice_get os i ≡ Some o → IsBefore o n
before_here [] ns i n o are at there = let never : None ≡ Some o = there in cc
before_here (x ∷ xs) [] i n o are at there = absurd are
before_here (x ∷ xs) (k ∷ ks) zero n o are at there =
    let same : k ≡ n = cc in
    let is : x ≡ o = cc in
    subst₂ (λ (y : OpData) (m : Option NameData). IsBefore y m) is same are.0
before_here (x ∷ xs) (k ∷ ks) (suc i) n o are at there = before_here xs ks i n o are.1 at there

-- where it is missing, the operation there isn't ready
pub before_waits : (os : List OpData) (ns : List (Option NameData)) (i : ℕ) (n : NameData) (o : OpData) (have : ContextData)
    → AreBefore os ns → slice_get ns i ≡ Some (Some n) → slice_get os i ≡ Some o → has have (Original n) ≡ false → ¬ IsReady have o
before_waits os ns i n o have are at there missing =
    λ ready. false≢true (sym missing ∙ before_here os ns i (Some n) o are at there have ready)

-- a set with an original has the one of its site right before it
earlier : (have : ContextData) (b n : NameData) → b.site ≡ n.site → b.number + 1 ≡ n.number → 1 ≤ b.number → has have (Original n) ≡ true
    → has have (Original b) ≡ true
earlier have b n site number least there =
    let counted = (original_counted have n there).1 in
    let same : count_of have b.site ≡ count_of have n.site = ap (count_of have) site in
    has_original have b least (omega (arith, counted, same, number))

-- the original right before an operation, where the context has it, is such a name
pub before_is : (o : OpData) (b : NameData) → IsRightBefore b o → has (context_of o) (Original b) ≡ true → IsBefore o (Some b)
before_is o b right named = λ have ready. elim ready [
  | inl there ↦ earlier have b right.name right.site right.number right.least (ap (has have) (sym right.is) ∙ there)
  | inr within ↦ within (Original b) named
]

pub not_there : (b : Bool) → IsTrue (not b) → b ≡ false
not_there true h = let e : false ≡ true = h in absurd (false≢true e)
not_there false h = refl
