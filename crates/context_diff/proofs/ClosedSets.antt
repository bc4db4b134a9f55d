-- Base contexts of a valid history: each is closed and holds only earlier members; and closed contexts are the closed sets.
use Rattle.std.proofs.Common.{◌≡◌, ℕ, ◌-◌, ◌<◌, ◌≤◌, Bool, true, ◌⊎◌, inl, inr, List, refl, ap, sym, subst, ◌∙◌, arith}
use Rattle.std.specs.Prelude.{◌&&◌, ◌||◌, nat_le, nat_lt}
use Rattle.std.proofs.lemmas.Bool.{cases_lt, and_parts, and_from, or_cases, or_left, or_right, leb-true, ltb-true, le-leb, lt-ltb}
use Rattle.op_name.specs.declared.member.Member.{Member}
use Rattle.op_name.specs.declared.member.Member.TheVariants.{Original, Group}
use Rattle.op_name.specs.NameData.{NameData, name_eq}
use Rattle.op_name.proofs.CallerLemmas.{same_parts}
use Rattle.context_vector.specs.Contexts.{ContextData, Within, has, count_of}
use Rattle.context_diff.specs.Operations.{OpData}
use Rattle.context_diff.specs.Histories.{is_known}
use Rattle.context_diff.specs.Bases.{original_context, is_below, base_has}
use Rattle.context_diff.specs.ClosedContexts.{IsClosedContext}
use Rattle.context_diff.proofs.Names.{name_same, name_itself}
use Rattle.context_diff.proofs.Raising.{has_original, has_number, has_group, has_generation}
use Rattle.context_diff.proofs.Known.{known_member}
use Rattle.context_diff.proofs.Complete.{IsComplete}
use Rattle.context_diff.proofs.Histories.{original_facts, context_is, group_facts, own_alone, holds_last, context_chain}

-- a set of members of the history that holds, with each member, all that it was made after
pub record IsClosedSet (h : List OpData) (c : Member → Bool) : Type 0 where
  pub known : (m : Member) → c m ≡ true → is_known h m ≡ true
  pub closed : (m y : Member) → c m ≡ true → base_has h m y ≡ true → c y ≡ true

-- with each group of an original the set has the original
abbrev pub HasNoStraySet : (Member → Bool) → Type 0
HasNoStraySet c = (t : NameData) (g : ℕ) → c (Group t g) ≡ true → c (Original t) ≡ true

-- what a base context holds: of an original what it knew, of a group what its original knew, that original, and the groups before
pub base_original : (h : List OpData) (n : NameData) (y : Member) → base_has h (Original n) y ≡ true
    → (is_known h (Original n) ≡ true) × (has (original_context h n) y ≡ true)
base_original h n y e = let parts = and_parts (is_known h (Original n)) (has (original_context h n) y) e in (parts.0, parts.1)

pub below_cases : (t : NameData) (g : ℕ) (y : Member) → is_below t g y ≡ true
    → (y ≡ Original t) ⊎ ((k : ℕ) × (y ≡ Group t k) × (1 ≤ k) × (k < g))
below_cases t g (Original n) e = inl (ap (λ x. Original x) (sym (name_same t n e)))
below_cases t g (Group n k) e =
    let parts = and_parts (name_eq t n) (nat_le 1 k && nat_lt k g) e in
    let bounds = and_parts (nat_le 1 k) (nat_lt k g) parts.1 in
    inr (k, ap (λ x. Group x k) (sym (name_same t n parts.0)), leb-true 1 k bounds.0, ltb-true k g bounds.1)

pub below_original : (t : NameData) (g : ℕ) → is_below t g (Original t) ≡ true
below_original t g = name_itself t

pub below_group : (t : NameData) (g k : ℕ) → 1 ≤ k → k < g → is_below t g (Group t k) ≡ true
below_group t g k low high =
    and_from (name_eq t t) (nat_le 1 k && nat_lt k g) (name_itself t)
    (and_from (nat_le 1 k) (nat_lt k g) (le-leb 1 k low) (lt-ltb k g high))

pub record InGroupBase (h : List OpData) (t : NameData) (g : ℕ) (y : Member) : Type 0 where
  pub known : is_known h (Group t g) ≡ true
  pub cases : (has (original_context h t) y ≡ true) ⊎ ((y ≡ Original t) ⊎ ((k : ℕ) × (y ≡ Group t k) × (1 ≤ k) × (k < g)))

pub base_group : (h : List OpData) (t : NameData) (g : ℕ) (y : Member) → base_has h (Group t g) y ≡ true → InGroupBase h t g y
base_group h t g y e =
    let parts = and_parts (is_known h (Group t g)) (has (original_context h t) y || is_below t g y) e in
    record {
      known = parts.0;
      cases = elim (or_cases (has (original_context h t) y) (is_below t g y) parts.1) [
        | inl seen ↦ inl seen
        | inr below ↦ inr (below_cases t g y below)
      ];
    }

pub in_original : (h : List OpData) (n : NameData) (y : Member) → is_known h (Original n) ≡ true → has (original_context h n) y ≡ true
    → base_has h (Original n) y ≡ true
in_original h n y known seen = and_from (is_known h (Original n)) (has (original_context h n) y) known seen

pub in_group : (h : List OpData) (t : NameData) (g : ℕ) (y : Member) → is_known h (Group t g) ≡ true → has (original_context h t) y ≡ true
    → base_has h (Group t g) y ≡ true
in_group h t g y known seen =
    and_from (is_known h (Group t g)) (has (original_context h t) y || is_below t g y) known
    (or_left (has (original_context h t) y) (is_below t g y) seen)

pub in_group_below : (h : List OpData) (t : NameData) (g : ℕ) (y : Member) → is_known h (Group t g) ≡ true → is_below t g y ≡ true
    → base_has h (Group t g) y ≡ true
in_group_below h t g y known below =
    and_from (is_known h (Group t g)) (has (original_context h t) y || is_below t g y) known
    (or_right (has (original_context h t) y) (is_below t g y) below)

-- a group knows its original
pub group_has_target : (h : List OpData) (t : NameData) (g : ℕ) → is_known h (Group t g) ≡ true → base_has h (Group t g) (Original t) ≡ true
group_has_target h t g known = in_group_below h t g (Original t) known (below_original t g)

-- a closed context holds what each of its originals knew
pub holds_original : (h : List OpData) → IsComplete h → (v : ContextData) → IsClosedContext h v → (n : NameData) → has v (Original n) ≡ true
    → Within (original_context h n) v
holds_original h w v closed n there =
    let range = has_number v n there in
    let last : NameData = record { site = n.site; number = count_of v n.site } in
    let low : 1 ≤ count_of v n.site = omega (arith, range.0, range.1) in
    let from_last = holds_last h v closed.ready closed.closed last low refl in
    let last_there : has v (Original last) ≡ true = has_original v last low (omega arith) in
    let last_known = closed.ready (Original last) last_there in
    elim (cases_lt n.number (count_of v n.site)) [
      | inl less ↦
          let chain = context_chain h w (count_of v n.site - n.number - 1) n last last_known refl range.0 (omega arith) in
          λ m e. from_last m (chain m e)
      | inr more ↦
          let same : n ≡ last = same_parts n last refl (omega (arith, range.1)) in
          subst (λ (x : NameData). Within (original_context h x) v) (sym same) from_last
    ]

group_in : (v : ContextData) (t : NameData) (g k : ℕ) → has v (Group t g) ≡ true → 1 ≤ k → k ≤ g → has v (Group t k) ≡ true
group_in v t g k e low high = let range = has_generation v t g e in has_group v t k low (omega (arith, range.1))

closed_at : (h : List OpData) → IsComplete h → (v : ContextData) → IsClosedContext h v → (m y : Member) → has v m ≡ true
    → base_has h m y ≡ true → has v y ≡ true
closed_at h w v closed (Original n) y there e = holds_original h w v closed n there y (base_original h n y e).1
closed_at h w v closed (Group t g) y there e =
    let target = closed.stray t g there in
    elim (base_group h t g y e).cases [
      | inl seen ↦ holds_original h w v closed t target y seen
      | inr (inl is) ↦ subst (λ (x : Member). has v x ≡ true) (sym is) target
      | inr (inr below) ↦ subst (λ (x : Member). has v x ≡ true) (sym below.1)
          (group_in v t g below.0 there below.2 (omega (arith, below.3)))
    ]

-- a closed context is a closed set of members
pub closed_set : (h : List OpData) → IsComplete h → (v : ContextData) → IsClosedContext h v → IsClosedSet h (has v)
closed_set h w v closed = record { known = closed.ready; closed = closed_at h w v closed }

-- a closed set keeps the original of each of its groups
pub set_has_no_stray : (h : List OpData) (c : Member → Bool) → IsClosedSet h c → HasNoStraySet c
set_has_no_stray h c closed t g there =
    closed.closed (Group t g) (Original t) there (group_has_target h t g (closed.known (Group t g) there))

-- a context that is a closed set of members is closed as the rules on operations say it
pub closed_context : (h : List OpData) → IsComplete h → (v : ContextData) → IsClosedSet h (has v) → IsClosedContext h v
closed_context h w v set = record {
  ready = set.known;
  stray = set_has_no_stray h (has v) set;
  closed = λ s o n at is site number m e.
      let known : is_known h (Original n) ≡ true = ap (is_known h) (sym is) ∙ known_member h o at in
      let low = (original_facts h w n known).number in
      let last : n.number ≡ count_of v n.site = number ∙ ap (count_of v) (sym site) in
      let there : has v (Original n) ≡ true = has_original v n low (omega arith) in
      let seen : has (original_context h n) m ≡ true = ap (λ c. has c m) (context_is h w o n at is known) ∙ e in
      set.closed (Original n) m there (in_original h n m known seen);
}

-- the context of an original is closed
pub original_closed : (h : List OpData) → IsComplete h → (n : NameData) → is_known h (Original n) ≡ true
    → IsClosedSet h (has (original_context h n))
original_closed h w n known =
    let facts = original_facts h w n known in
    closed_set h w (original_context h n) (record { ready = facts.ready; stray = facts.stray; closed = facts.closed })

listed_group : (h : List OpData) → IsComplete h → (t : NameData) (g : ℕ) (y : Member) → InGroupBase h t g y → is_known h y ≡ true
listed_group h w t g y e =
    let group = group_facts h w t g e.known in
    elim e.cases [
      | inl seen ↦ (original_facts h w t group.target).ready y seen
      | inr (inl is) ↦ ap (is_known h) is ∙ group.target
      | inr (inr below) ↦ ap (is_known h) below.1 ∙ group.below below.0 below.2 (omega (arith, below.3))
    ]

-- a base context holds only members of the history
pub base_listed : (h : List OpData) → IsComplete h → (m y : Member) → base_has h m y ≡ true → is_known h y ≡ true
base_listed h w (Original n) y e = let parts = base_original h n y e in (original_facts h w n parts.0).ready y parts.1
base_listed h w (Group t g) y e = listed_group h w t g y (base_group h t g y e)

-- within a base context of a group: what the base context of one of its members holds
group_closed : (h : List OpData) → IsComplete h → (t : NameData) (g : ℕ) (x y : Member) → InGroupBase h t g x → base_has h x y ≡ true
    → base_has h (Group t g) y ≡ true
group_closed h w t g x y e f =
    let group = group_facts h w t g e.known in
    let of_target = original_closed h w t group.target in
    elim e.cases [
      | inl seen ↦ in_group h t g y e.known (of_target.closed x y seen f)
      | inr (inl is) ↦ in_group h t g y e.known (base_original h t y (subst (λ (z : Member). base_has h z y ≡ true) is f)).1
      | inr (inr below) ↦
          let inner = base_group h t below.0 y (subst (λ (z : Member). base_has h z y ≡ true) below.1 f) in
          elim inner.cases [
            | inl seen ↦ in_group h t g y e.known seen
            | inr (inl is) ↦ subst (λ (z : Member). base_has h (Group t g) z ≡ true) (sym is) (group_has_target h t g e.known)
            | inr (inr less) ↦
                subst (λ (z : Member). base_has h (Group t g) z ≡ true) (sym less.1)
                (in_group_below h t g (Group t less.0) e.known (below_group t g less.0 less.2 (omega (arith, less.3, below.3))))
          ]
    ]

-- each base context is closed
pub base_closed : (h : List OpData) → IsComplete h → (m x y : Member) → base_has h m x ≡ true → base_has h x y ≡ true
    → base_has h m y ≡ true
base_closed h w (Original n) x y e f =
    let parts = base_original h n x e in
    in_original h n y parts.0 ((original_closed h w n parts.0).closed x y parts.1 f)
base_closed h w (Group t g) x y e f = group_closed h w t g x y (base_group h t g x e) f

pub base_set : (h : List OpData) → IsComplete h → (m : Member) → IsClosedSet h (base_has h m)
base_set h w m = record { known = base_listed h w m; closed = base_closed h w m }

-- with a group a base context has its original
pub base_stray : (h : List OpData) → IsComplete h → (m : Member) (t : NameData) (g : ℕ) → base_has h m (Group t g) ≡ true
    → base_has h m (Original t) ≡ true
base_stray h w m = set_has_no_stray h (base_has h m) (base_set h w m)

-- the target of a group is none of those that the target knew
no_own_group : (h : List OpData) → IsComplete h → (t : NameData) (g : ℕ) → InGroupBase h t g (Group t g) → ⊥
no_own_group h w t g e =
    let group = group_facts h w t g e.known in
    elim e.cases [
      | inl seen ↦
          let facts = original_facts h w t group.target in
          let less = own_alone h w t group.target t refl (facts.stray t g seen) in
          omega arith
      | inr (inl is) ↦ cc
      | inr (inr below) ↦
          let is : Group t g ≡ Group t below.0 = below.1 in
          let same : g ≡ below.0 = cc in
          omega (arith, below.3)
    ]

-- no member is in its own base context
pub base_itself : (h : List OpData) → IsComplete h → (m : Member) → base_has h m m ≡ true → ⊥
base_itself h w (Original n) e =
    let parts = base_original h n (Original n) e in
    let less = own_alone h w n parts.0 n refl parts.1 in
    omega arith
base_itself h w (Group t g) e = no_own_group h w t g (base_group h t g (Group t g) e)
