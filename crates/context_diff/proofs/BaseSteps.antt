-- Base contexts as they are gathered: an original's context, raised by the original and by the group before.
use Rattle.std.proofs.Common.{◌≡◌, ℕ, ◌+◌, ◌-◌, ◌<◌, ◌≤◌, Bool, true, inl, inr, List, ap, sym, subst, ◌∙◌, arith}
use Rattle.std.specs.Prelude.{◌&&◌, ◌||◌, ◌==◌}
use Rattle.std.proofs.lemmas.Bool.Decides.{nat_tests}
use Rattle.std.proofs.lemmas.Bool.{cases_Bool, cases_lt, lt-ltb, le-ltb}
use Rattle.op_name.specs.declared.member.Member.{Member}
use Rattle.op_name.specs.declared.member.Member.TheVariants.{Original, Group}
use Rattle.op_name.specs.declared.member.TheConstants.{GENERATIONS}
use Rattle.op_name.specs.NameData.{NameData, IsName}
use Rattle.context_vector.specs.Contexts.{ContextData, IsContext, has, count_of, raised}
use Rattle.context_diff.specs.Operations.{OpData, inserting, deleting, undoing, member_of, IsWellFormed}
use Rattle.context_diff.specs.Histories.{is_known}
use Rattle.context_vector.specs.Vectors.{up_to}
use Rattle.context_vector.proofs.CallerLemmas.{raised_is_context, same_context}
use Rattle.context_diff.specs.Bases.{original_context, is_below, base_has, base_context_of}
use Rattle.context_diff.proofs.Known.{holder}
use Rattle.context_diff.proofs.Complete.{IsComplete}
use Rattle.context_diff.proofs.Histories.{original_facts, group_facts}
use Rattle.context_diff.proofs.BaseValues.{base_value}

-- up to an original: it and the earlier ones of its site, which it knew
with_original : (h : List OpData) → IsComplete h → (t : NameData) → is_known h (Original t) ≡ true → (y : Member)
    → (has (original_context h t) y || up_to y (Original t)) ≡ (has (original_context h t) y || is_below t 1 y)
with_original h w t known (Original x) =
    let facts = original_facts h w t known in
    let c = original_context h t in
    elim (cases_Bool (x.site == t.site)) [
      | inl same ↦
          let is : x.site ≡ t.site = grind (arith, nat_tests) in
          let counts : count_of c x.site ≡ count_of c t.site = ap (count_of c) is in
          let number : 1 ≤ t.number = facts.number in
          let own : count_of c t.site + 1 ≡ t.number = facts.own in
          grind (arith, nat_tests)
      | inr other ↦ grind (arith, nat_tests)
    ]
with_original h w t known (Group x g) = grind (arith, nat_tests)

-- up to the group before: the groups below this one
with_groups : (t : NameData) (g : ℕ) → 1 < g → (b : Bool) (y : Member)
    → ((b || is_below t 1 y) || up_to y (Group t (g - 1))) ≡ (b || is_below t g y)
with_groups t g more b (Original x) = grind (arith, nat_tests)
with_groups t g more b (Group x k) = grind (arith, nat_tests)

below_one : (t : NameData) (g : ℕ) → 1 ≤ g → g ≤ 1 → (y : Member) → is_below t 1 y ≡ is_below t g y
below_one t g low high y = ap (λ k. is_below t k y) (let e : 1 ≡ g = omega arith in e)

-- the first group of an original knows it and what it knew
pub first_group : (h : List OpData) → IsComplete h → (t : NameData) (g : ℕ) → is_known h (Group t g) ≡ true → g ≤ 1 → (b c d : ContextData)
    → b ≡ original_context h t → ((y : Member) → has c y ≡ (has b y || up_to y (Original t))) → (y : Member)
    → has c y ≡ base_has h (Group t g) y
first_group h w t g known low b c d is raised_has y =
    let facts = group_facts h w t g known in
    raised_has y
    ∙ (ap (λ (x : ContextData). has x y || up_to y (Original t)) is
    ∙ (with_original h w t facts.target y
    ∙ (ap (λ x. has (original_context h t) y || x) (below_one t g facts.generation low y)
    ∙ sym (ap (λ x. x && (has (original_context h t) y || is_below t g y)) known))))

pub later_group : (h : List OpData) → IsComplete h → (t : NameData) (g : ℕ) → is_known h (Group t g) ≡ true → 1 < g → (b c d : ContextData)
    → b ≡ original_context h t → ((y : Member) → has c y ≡ (has b y || up_to y (Original t)))
    → ((y : Member) → has d y ≡ (has c y || up_to y (Group t (g - 1))))
    → (y : Member) → has d y ≡ base_has h (Group t g) y
later_group h w t g known more b c d is raised_has again y =
    let facts = group_facts h w t g known in
    again y
    ∙ (ap (λ x. x || up_to y (Group t (g - 1)))
    (raised_has y ∙ (ap (λ (x : ContextData). has x y || up_to y (Original t)) is ∙ with_original h w t facts.target y))
    ∙ (with_groups t g more (has (original_context h t) y) y
    ∙ sym (ap (λ x. x && (has (original_context h t) y || is_below t g y)) known)))

-- a member of a history names a site and a number in their ranges
name_range : (o : OpData) → IsWellFormed o → (n : NameData) → member_of o ≡ Original n → IsName n.site n.number
name_range (inserting m p text c) f n is = let same : m ≡ n = cc in subst (λ (x : NameData). IsName x.site x.number) same f.in_range.0
name_range (deleting m p c) f n is = let same : m ≡ n = cc in subst (λ (x : NameData). IsName x.site x.number) same f.in_range.0
name_range (undoing a t g c) f n is = cc

generation_range : (o : OpData) → IsWellFormed o → (t : NameData) (g : ℕ) → member_of o ≡ Group t g → g ≤ GENERATIONS
generation_range (inserting m p text c) f t g is = cc
generation_range (deleting m p c) f t g is = cc
generation_range (undoing a u k c) f t g is = let same : k ≡ g = cc in omega (arith, f.in_range.3)

pub base_is_context : (h : List OpData) → IsComplete h → (m : Member) → is_known h m ≡ true → IsContext (base_context_of h m)
base_is_context h w (Original n) known = (original_facts h w n known).form
base_is_context h w (Group t g) known =
    let facts = group_facts h w t g known in
    let of_target = holder h (Original t) facts.target in
    let range = name_range of_target.op (w.formed of_target.op of_target.there) t of_target.is in
    let held = holder h (Group t g) known in
    let high = generation_range held.op (w.formed held.op held.there) t g held.is in
    let inner = raised_is_context (original_context h t) (Original t) (original_facts h w t facts.target).form range tt range.2 in
    elim (cases_lt 1 g) [
      | inl more ↦ rw (lt-ltb 1 g more)
          (raised_is_context (raised (original_context h t) (Original t)) (Group t (g - 1)) inner range (omega arith) (omega arith))
      | inr one ↦ rw (le-ltb 1 g one) inner
    ]

-- a context that has what the base context has is the base context
pub base_is : (h : List OpData) → IsComplete h → (m : Member) → is_known h m ≡ true → (d : ContextData) → IsContext d
    → ((y : Member) → has d y ≡ base_has h m y) → d ≡ base_context_of h m
base_is h w m known d form members =
    same_context d (base_context_of h m) form (base_is_context h w m known) (λ y. members y ∙ sym (base_value h w m known y))
