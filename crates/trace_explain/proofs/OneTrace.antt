-- The listing rule leaves no choice.
use Rattle.std.proofs.Common.{◌≡◌, List, [], ◌∷◌, ◌++◌, sym, ap, subst, ◌∙◌}
use Rattle.std.specs.Prelude.{Option, Some, None}
use Rattle.op_name.specs.declared.member.Member.{Member}
use Rattle.context_diff.specs.Operations.{OpData}
use Rattle.form_cache.specs.Keys.{KeyData}
use Rattle.trace_explain.specs.declared.line.TraceLine.{TraceLine}
use Rattle.trace_explain.specs.declared.listing.Listed.{Listed}
use Rattle.trace_explain.specs.Listings.{ListingData, IsLastBetween, IsTraceOf, Lists, left_of, over_of, stepped, with_step}
use Rattle.trace_explain.specs.Listings.Lists.{there, at_base, by_step}
use Rattle.trace_explain.proofs.Turned.{same_Some}

not_both : {A : Type 0} {o : Option A} (x : A) → o ≡ Some x → o ≡ None → ⊥
not_both x e f = cc

pub last_once : {A : Type 0} (xs ys : List A) (x y : A) → xs ++ x ∷ [] ≡ ys ++ y ∷ [] → x ≡ y
last_once [] [] x y e = cc
last_once [] (b ∷ []) x y e = cc
last_once [] (b ∷ (c ∷ cs)) x y e = cc
last_once (a ∷ []) [] x y e = cc
last_once (a ∷ (b ∷ bs)) [] x y e = cc
last_once (a ∷ xs) (b ∷ ys) x y e = let tails : xs ++ x ∷ [] ≡ ys ++ y ∷ [] = cc in last_once xs ys x y tails

last_member : (h : List OpData) (k : KeyData) (x y : Member) → IsLastBetween h k x → IsLastBetween h k y → y ≡ x
last_member h k x y a b = last_once b.earlier a.earlier y x (sym b.last ∙ a.last)

module _ (h : List OpData) where
  pub once : {l : ListingData} {k : KeyData} {n m : ListingData} {a b : Listed} → Lists h l k n a → Lists h l k m b → (n ≡ m) × (a ≡ b)
  once {a = a} {b = b} (there e p) (there f q) = (p ∙ sym q, same_Some a b (sym e ∙ f))
  once {a = a} (there e p) (at_base none c q r) = absurd (not_both a e none)
  once {a = a} (there e p) (by_step x one two left over none c last f g q r) = absurd (not_both a e none)
  once {b = b} (at_base none c p r) (there f q) = absurd (not_both b f none)
  once (at_base none c p r) (at_base none' c' q t) = (p ∙ sym q, r ∙ sym t)
  once (at_base none c p r) (by_step x one two left over none' c' last f g q t) = absurd (c' c)
  once {b = b} (by_step x one two left over none c last f g p r) (there e q) = absurd (not_both b e none)
  once (by_step x one two left over none c last f g p r) (at_base none' c' q t) = absurd (c c')
  once {l = l} {k = k} (by_step x one two left over none c last f g p r) (by_step y one' two' left' over' none' c' last' f' g' q t) =
      let same : y ≡ x = last_member h k x y last last' in
      let left_same = once f (subst (λ (z : Member). Lists h l (left_of k z) one' left') same f') in
      let over_same =
      once g (subst (λ (s : ListingData). Lists h s (over_of k x) two' over') (sym left_same.0)
      (subst (λ (z : Member). Lists h one' (over_of k z) two' over') same g')) in (
        p ∙ ((λ i. with_step h (over_same.0 i) k (left_same.1 i) (over_same.1 i)) ∙ sym q),
        r
            ∙ ((λ i. stepped h (over_same.0 i) (left_same.1 i) (over_same.1 i)) ∙ sym t),
      )

pub one_trace_of : (h : List OpData) (m : Member) (ls ks : List TraceLine) → IsTraceOf h m ls → IsTraceOf h m ks → ls ≡ ks
one_trace_of h m ls ks a b = a.lines_are ∙ (ap (λ (l : ListingData). l.lines) (once h a.listed b.listed).0 ∙ sym b.lines_are)
