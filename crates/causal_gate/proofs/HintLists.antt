-- Hints beside the operations that wait: one is set, comes or goes with its operation.
use Rattle.std.proofs.Common.{◌≡◌, ℕ, zero, suc, true, List, [], ◌∷◌, ◌++◌, refl, ap, sym, ◌∙◌, length, remove, slice_set, IfSome}
use Rattle.std.specs.Prelude.{Option, Some, None, slice_get}
use Rattle.op_name.specs.declared.member.Member.{Member}
use Rattle.context_vector.specs.Contexts.{ContextData, has}
use Rattle.context_diff.specs.Operations.{OpData, context_of}
use Rattle.causal_gate.specs.Hints.{IsHint, AreHints}
use Rattle.causal_gate.specs.Waiting.{context_at}

pub hints_length : (os : List OpData) (hs : List (Option Member)) → AreHints os hs → length hs ≡ length os
hints_length [] [] are = refl
hints_length [] (h ∷ hs) are = absurd are
hints_length (o ∷ os) [] are = absurd are
hints_length (o ∷ os) (h ∷ hs) are = ap suc (hints_length os hs are.1)

pub hints_push : (os : List OpData) (hs : List (Option Member)) (o : OpData) (h : Option Member) → AreHints os hs → IsHint o h
    → AreHints (os ++ o ∷ []) (hs ++ h ∷ [])
hints_push [] [] o h are is = (is, tt)
hints_push [] (k ∷ ks) o h are is = absurd are
hints_push (x ∷ xs) [] o h are is = absurd are
hints_push (x ∷ xs) (k ∷ ks) o h are is = (are.0, hints_push xs ks o h are.1 is)

pub hints_remove : (os : List OpData) (hs : List (Option Member)) (i : ℕ) → AreHints os hs → AreHints (remove os i) (remove hs i)
hints_remove [] [] zero are = tt
hints_remove [] [] (suc i) are = tt
hints_remove [] (h ∷ hs) i are = absurd are
hints_remove (o ∷ os) [] i are = absurd are
hints_remove (o ∷ os) (h ∷ hs) zero are = are.1
hints_remove (o ∷ os) (h ∷ hs) (suc i) are = (are.0, hints_remove os hs i are.1)

-- a hint of the list is a member of the context at its place
pub hint_there : (os : List OpData) (hs : List (Option Member)) (i : ℕ) (m : Member) → AreHints os hs → slice_get hs i ≡ Some (Some m)
    → has (context_at os i) m ≡ true
hint_there [] [] i m are at = let never : None ≡ Some (Some m) = at in cc
hint_there [] (h ∷ hs) i m are at = absurd are
hint_there (o ∷ os) [] i m are at = absurd are
hint_there (o ∷ os) (None ∷ hs) zero m are at = let never : Some None ≡ Some (Some m) = at in cc
hint_there (o ∷ os) (Some k ∷ hs) zero m are at = let same : k ≡ m = cc in ap (has (context_of o)) (sym same) ∙ are.0
hint_there (o ∷ os) (h ∷ hs) (suc i) m are at = hint_there os hs i m are.1 at

pub hint_some : (os : List OpData) (hs : List (Option Member)) (i : ℕ) (h : Option Member) → AreHints os hs → slice_get hs i ≡ Some h
    → IfSome h (λ m. has (context_at os i) m ≡ true)
hint_some os hs i None are at = tt
hint_some os hs i (Some m) are at = hint_there os hs i m are at

hint_is : (c : ContextData) (o : OpData) (h : Option Member) → c ≡ context_of o → IfSome h (λ m. has c m ≡ true) → IsHint o h
hint_is c o None same there = tt
hint_is c o (Some m) same there = ap (λ (d : ContextData). has d m) (sym same) ∙ there

-- a hint of the operation at this place takes the place of the one that is there
pub hints_put : (os : List OpData) (hs : List (Option Member)) (i : ℕ) (h : Option Member) → AreHints os hs
    → IfSome h (λ m. has (context_at os i) m ≡ true) → AreHints os (slice_set hs i h)
hints_put [] [] i h are is = tt
hints_put [] (k ∷ ks) i h are is = absurd are
hints_put (x ∷ xs) [] i h are is = absurd are
hints_put (x ∷ xs) (k ∷ ks) zero h are is = (hint_is (context_of x) x h refl is, are.1)
hints_put (x ∷ xs) (k ∷ ks) (suc i) h are is = (are.0, hints_put xs ks i h are.1 is)
