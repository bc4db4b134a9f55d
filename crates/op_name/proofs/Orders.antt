-- Names and members: `name_eq` and `member_eq` decide equality, `name_lt` is a total order, and of two members that differ one is before
-- the other.
use Rattle.std.proofs.Common.{◌≡◌, ◌≢◌, ℕ, Bool, true, false, inl, inr, refl, ap, sym, subst, ◌∙◌, arith}
use Rattle.std.proofs.lemmas.Bool.{false≢true, false_from_ne_true, cases_Bool}
use Rattle.std.specs.Prelude.{◌==◌, nat_lt, ◌⊎◌}
use Rattle.std.proofs.lemmas.Bool.Decides.{nat_tests}
use Rattle.op_name.specs.declared.member.Member.{Member}
use Rattle.op_name.specs.declared.member.Member.TheVariants.{Original, Group}
use Rattle.op_name.specs.Order.{IsOrder}
use Rattle.op_name.specs.NameData.{NameData, name_eq, name_lt}
use Rattle.op_name.specs.Members.{member_eq, member_lt}

-- numbers are ordered by their value
pub number_order : IsOrder {K = ℕ} (λ a b. a == b) nat_lt
number_order = record {
  same = λ a b e. grind (arith, nat_tests);
  itself = λ a. grind (arith, nat_tests);
  irreflexive = λ a. grind (arith, nat_tests);
  transitive = λ a b c e f. grind (arith, nat_tests);
  total = λ a b e f. grind (arith, nat_tests);
}

-- a name is its site and its number
pub same_parts : (a b : NameData) → a.site ≡ b.site → a.number ≡ b.number → a ≡ b
same_parts a b p q = λ i. record { site = p i; number = q i }

pub name_same : (a b : NameData) → name_eq a b ≡ true → a ≡ b
name_same a b e = same_parts a b (grind (arith, nat_tests)) (grind (arith, nat_tests))

pub name_itself : (a : NameData) → name_eq a a ≡ true
name_itself a = grind (arith, nat_tests)

pub name_irreflexive : (a : NameData) → name_lt a a ≡ false
name_irreflexive a = grind (arith, nat_tests)

pub name_transitive : (a b c : NameData) → name_lt a b ≡ true → name_lt b c ≡ true → name_lt a c ≡ true
name_transitive a b c e f = grind (arith, nat_tests)

pub name_total : (a b : NameData) → name_eq a b ≡ false → name_lt a b ≡ false → name_lt b a ≡ true
name_total a b e f = grind (arith, nat_tests)

pub name_less_other : (a b : NameData) → name_lt a b ≡ true → name_eq a b ≡ false
name_less_other a b less = grind (arith, nat_tests)

pub name_order : IsOrder name_eq name_lt
name_order =
    record { same = name_same; itself = name_itself; irreflexive = name_irreflexive; transitive = name_transitive; total = name_total }

pub member_same : (a b : Member) → member_eq a b ≡ true → a ≡ b
member_same (Original n) (Original m) e = ap (λ x. Original x) (name_same n m e)
member_same (Original n) (Group m h) e = cc
member_same (Group n g) (Original m) e = cc
member_same (Group n g) (Group m h) e =
    let names : name_eq n m ≡ true = grind (arith, nat_tests) in
    let generations : g ≡ h = grind (arith, nat_tests) in
    ap (λ x. Group x g) (name_same n m names) ∙ ap (λ x. Group m x) generations

pub member_itself : (a : Member) → member_eq a a ≡ true
member_itself (Original n) = name_itself n
member_itself (Group n g) = grind (arith, nat_tests)

pub member_apart : (a b : Member) → a ≢ b → member_eq a b ≡ false
member_apart a b apart = false_from_ne_true (member_eq a b) (λ e. apart (member_same a b e))

pub member_other : (a b : Member) → member_eq a b ≡ false → a ≢ b
member_other a b e is = false≢true (sym e ∙ (ap (member_eq a) (sym is) ∙ member_itself a))

pub member_cases : (a b : Member) → (a ≡ b) ⊎ (a ≢ b)
member_cases a b = elim (cases_Bool (member_eq a b)) [ inl e ↦ inl (member_same a b e) | inr e ↦ inr (member_other a b e) ]

pub member_total : (a b : Member) → member_eq a b ≡ false → member_lt a b ≡ false → member_lt b a ≡ true
member_total (Original a) (Original b) e f = name_total a b e f
member_total (Original a) (Group b h) e f = cc
member_total (Group a g) (Original b) e f = refl
member_total (Group a g) (Group b h) e f = grind (arith, nat_tests)

-- one of two values comes first, or they are one
pub cases_by_order : {K : Type 0} (eq lt : K → K → Bool) → IsOrder eq lt → (a b : K) (P : Type 0)
    → (a ≡ b → eq a b ≡ true → eq b a ≡ true → lt a b ≡ false → lt b a ≡ false → P)
    → (eq a b ≡ false → eq b a ≡ false → lt a b ≡ true → lt b a ≡ false → P)
    → (eq a b ≡ false → eq b a ≡ false → lt a b ≡ false → lt b a ≡ true → P) → P
cases_by_order {K} eq lt order a b P one before after =
    elim (eq a b) as (λ v. eq a b ≡ v → P) [
      | true ↦ λ e.
          let is : a ≡ b = order.same a b e in
          one is e (subst (λ x. eq x a ≡ true) is (order.itself a)) (subst (λ x. lt a x ≡ false) is (order.irreflexive a))
          (subst (λ x. lt x a ≡ false) is (order.irreflexive a))
      | false ↦ λ e. apart e
    ] refl
  where
    other : eq a b ≡ false → eq b a ≡ false
    other e = elim (eq b a) as (λ v. eq b a ≡ v → v ≡ false) [
      | true ↦ λ f. absurd (false≢true (sym e ∙ subst (λ x. eq x b ≡ true) (order.same b a f) (order.itself b)))
      | false ↦ λ f. refl
    ] refl

    not_both : lt a b ≡ true → lt b a ≡ true → ⊥
    not_both e f = false≢true (sym (order.irreflexive a) ∙ order.transitive a b a e f)

    apart : eq a b ≡ false → P
    apart e = elim (lt a b) as (λ v. lt a b ≡ v → P) [
      | true ↦ λ f. before e (other e) f
          (elim (lt b a) as (λ v. lt b a ≡ v → v ≡ false) [ true ↦ λ g. absurd (not_both f g) | false ↦ λ g. refl ] refl)
      | false ↦ λ f. after e (other e) f (order.total a b e f)
    ] refl
