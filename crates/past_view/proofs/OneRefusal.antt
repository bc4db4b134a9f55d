-- A set of members is refused for one reason, and none that is closed is.
use Rattle.std.proofs.Common.{◌≡◌, ◌≢◌, ℕ, ◌≤◌, Bool, true, false, List, [], ◌∷◌, Some, None, inl, inr, refl, sym, ap, ◌∙◌, subst, arith, if◌then◌else◌}
use Rattle.std.proofs.lemmas.Bool.{cases_Bool, both_ways, cases_lt}
use Rattle.op_name.specs.NameData.{NameData, name_eq}
use Rattle.op_name.specs.declared.member.Member.{Member}
use Rattle.op_name.specs.declared.member.Member.TheVariants.{Original, Group}
use Rattle.op_name.specs.Members.{member_eq, member_lt}
use Rattle.op_name.proofs.CallerLemmas.{member_same, member_total, name_itself}
use Rattle.context_vector.specs.Contexts.{ContextData, HasNoStray, IsContext, AreEntries, has, entry_in}
use Rattle.context_diff.specs.Operations.{OpData}
use Rattle.context_diff.specs.Histories.{LacksNothing, LacksFirst, is_known}
use Rattle.context_diff.specs.Books.{IsFirstOpenSite}
use Rattle.context_diff.specs.ClosedContexts.{IsClosedContext}
use Rattle.context_diff.proofs.CallerLemmas.{has_group}
use Rattle.past_view.specs.declared.past.AtBad.{AtBad}
use Rattle.past_view.specs.declared.past.AtBad.TheVariants.{Unknown, Stray, NotClosed, Memory}
use Rattle.past_view.specs.Pasts.{first_stray, IsRefusal}

-- one member is lacked first
lacked_once : (h : List OpData) (c : ContextData) (m n : Member) → LacksFirst h c m → LacksFirst h c n → m ≡ n
lacked_once h c m n f g = elim (cases_Bool (member_eq m n)) [
  | inl same ↦ member_same m n same
  | inr other ↦
      absurd (both_ways (member_lt n m) (f.first n g.named g.missing) (member_total m n other (g.first m f.named f.missing)))
]

lacks_nothing : (h : List OpData) (c : ContextData) (m : Member) → LacksNothing h c → LacksFirst h c m → ⊥
lacks_nothing h c m none f = both_ways (is_known h m) f.missing (none m f.named)

-- a first stray name has an entry, and no original
stray_entered : (c : ContextData) (es : List (NameData × ℕ)) (n : NameData) → AreEntries es → first_stray c es ≡ Some n
    → (1 ≤ entry_in es n) × (has c (Original n) ≡ false)
stray_entered c [] n are e = let none : None ≡ Some n = e in cc
stray_entered c (y ∷ ys) n are e = elim (cases_Bool (has c (Original y.0))) [
  | inl there ↦
      let later : first_stray c ys ≡ Some n = sym (ap (λ (b : Bool). if b then first_stray c ys else Some y.0) there) ∙ e in
      let rest = stray_entered c ys n are.4 later in
      elim (cases_Bool (name_eq y.0 n)) [
        | inl same ↦ let here : entry_in (y ∷ ys) n ≡ y.1 = ap (λ (b : Bool). if b then y.1 else entry_in ys n) same in
            (omega (arith, here, are.1), rest.1)
        | inr other ↦ let skip : entry_in (y ∷ ys) n ≡ entry_in ys n = ap (λ (b : Bool). if b then y.1 else entry_in ys n) other in
            (omega (arith, skip, rest.0), rest.1)
      ]
  | inr out ↦
      let found : Some y.0 ≡ Some n = sym (ap (λ (b : Bool). if b then first_stray c ys else Some y.0) out) ∙ e in
      let is : y.0 ≡ n = cc in
      let most : 1 ≤ entry_in (y ∷ ys) y.0 =
      elim (cases_Bool (name_eq y.0 y.0)) [
        | inl same ↦ let here : entry_in (y ∷ ys) y.0 ≡ y.1 = ap (λ (b : Bool). if b then y.1 else entry_in ys y.0) same in
            omega (arith, here, are.1)
        | inr other ↦ absurd (both_ways (name_eq y.0 y.0) other (name_itself y.0))
      ] in
      subst (λ (m : NameData). (1 ≤ entry_in (y ∷ ys) m) × (has c (Original m) ≡ false)) is (most, out)
]

no_stray_found : (c : ContextData) (n : NameData) → IsContext c → HasNoStray c → first_stray c c.entries ≡ Some n → ⊥
no_stray_found c n is none found =
    let s = stray_entered c c.entries n is.entries found in
    let there : has c (Group n (entry_in c.entries n)) ≡ true = has_group c n (entry_in c.entries n) s.0 (omega arith) in
    both_ways (has c (Original n)) s.1 (none n (entry_in c.entries n) there)

open_once : (h : List OpData) (c : ContextData) (s r : ℕ) → IsFirstOpenSite h c s → IsFirstOpenSite h c r → s ≡ r
open_once h c s r a b = elim (cases_lt s r) [
  | inl below ↦ absurd (a.open_site (b.first s below))
  | inr other ↦ elim (cases_lt r s) [ inl below ↦ absurd (b.open_site (a.first r below)) | inr same ↦ omega (arith, other, same) ]
]

module _ (h : List OpData) (c : ContextData) (is : IsContext c) where
  -- a closed set isn't refused
  pub closed_accepted : (why : AtBad) → why ≢ Memory → IsClosedContext h c → IsRefusal h c why → ⊥
  closed_accepted (Unknown m) known closed r = lacks_nothing h c m closed.ready r
  closed_accepted (Stray n) known closed r = no_stray_found c n is closed.stray r.1
  closed_accepted (NotClosed s) known closed r = r.2.open_site (closed.closed s)
  closed_accepted Memory known closed r = known refl

  -- a set is refused for one reason
  pub one_refusal : (why other : AtBad) → why ≢ Memory → other ≢ Memory → IsRefusal h c why → IsRefusal h c other → why ≡ other
  one_refusal (Unknown m) (Unknown n) k l r q = ap (λ (x : Member). Unknown x) (lacked_once h c m n r q)
  one_refusal (Unknown m) (Stray n) k l r q = absurd (lacks_nothing h c m q.0 r)
  one_refusal (Unknown m) (NotClosed s) k l r q = absurd (lacks_nothing h c m q.0 r)
  one_refusal (Unknown m) Memory k l r q = absurd (l refl)
  one_refusal (Stray n) (Unknown m) k l r q = absurd (lacks_nothing h c m r.0 q)
  one_refusal (Stray n) (Stray m) k l r q =
      let same : Some n ≡ Some m = sym r.1 ∙ q.1 in let is : n ≡ m = cc in ap (λ (x : NameData). Stray x) is
  one_refusal (Stray n) (NotClosed s) k l r q = absurd (no_stray_found c n is q.1 r.1)
  one_refusal (Stray n) Memory k l r q = absurd (l refl)
  one_refusal (NotClosed s) (Unknown m) k l r q = absurd (lacks_nothing h c m r.0 q)
  one_refusal (NotClosed s) (Stray n) k l r q = absurd (no_stray_found c n is r.1 q.1)
  one_refusal (NotClosed s) (NotClosed t) k l r q = ap (λ (x : ℕ). NotClosed x) (open_once h c s t r.2 q.2)
  one_refusal (NotClosed s) Memory k l r q = absurd (l refl)
  one_refusal Memory other k l r q = absurd (k refl)
