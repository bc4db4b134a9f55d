-- A valid history is a causal family, and its closed contexts are closed sets of that family.
use Rattle.std.proofs.Common.{◌≡◌, ℕ, zero, suc, ◌+◌, ◌<◌, ◌≤◌, Bool, true, List, [], ◌∷◌, ◌++◌, ◌⊎◌, inl, inr, refl, sym, subst, arith}
use Rattle.std.proofs.lemmas.Bool.{both_ways, cases_lt}
use Rattle.op_name.specs.NameData.{NameData}
use Rattle.op_name.specs.declared.member.Member.{Member}
use Rattle.op_name.specs.declared.member.Member.TheVariants.{Original, Group}
use Rattle.op_name.specs.Members.{IsMember}
use Rattle.context_vector.specs.Contexts.{ContextData, has, count_of, entry_of, IsNextMember}
use Rattle.context_diff.specs.Operations.{OpData, member_of}
use Rattle.context_diff.specs.Histories.{members_in, is_known, IsValid}
use Rattle.context_diff.specs.Bases.{original_context, base_has}
use Rattle.context_diff.proofs.CallerLemmas.{known_in, in_known, IsClosedSet, has_number, has_original, has_generation, has_group, shifted, IsComplete, complete, original_facts, group_facts, own_earlier, base_closed, base_listed, closed_set, closed_context, in_original, in_group_below, below_group, members_apart, not_later}
use Rattle.transform_rec.specs.Lists.{AreApart}
use Rattle.transform_rec.specs.Family.{IsCausal, IsCausalFamily, IsClosed, IsSound}
use Rattle.transform_rec.specs.Histories.{family_in, MayBeAddedTo}

-- ---- a history as a family

apart_behind : (b os : List OpData) → IsValid (b ++ os) → AreApart (members_in os)
apart_behind b [] v = tt
apart_behind b (o ∷ os) v = (
  (λ y i e. both_ways (is_known os (member_of o)) (members_apart b o os v).1
      (subst (λ (x : Member). is_known os x ≡ true) (sym e) (in_known os y i))),
  apart_behind (b ++ (o ∷ [])) os (subst IsValid (sym (shifted b o os)) v),
)

causal_behind : (b os : List OpData) → IsValid (b ++ os) → IsCausal (base_has (b ++ os)) (members_in os)
causal_behind b [] v = tt
causal_behind b (o ∷ os) v = (
  (λ z i. not_later b o os v z (in_known (o ∷ os) z i)),
  subst (λ (k : List OpData). IsCausal (base_has k) (members_in os)) (shifted b o os)
      (causal_behind (b ++ (o ∷ [])) os (subst IsValid (sym (shifted b o os)) v)),
)

pub history_causal : {F : Type 0} (h : List OpData) (form : Member → F) → IsValid h → IsCausalFamily (family_in h form)
history_causal h form v = record {
  distinct = apart_behind [] h v;
  causal = causal_behind [] h v;
  listed = λ m x i e. known_in h x (base_listed h (complete h v) m x e);
  closed = λ m x i e y k. base_closed h (complete h v) m x y e k;
}

-- ---- closed contexts

pub set_closed : {F : Type 0} (h : List OpData) (form : Member → F) (c : Member → Bool) → IsClosedSet h c → IsClosed (family_in h form) c
set_closed h form c s = record { listed = λ x e. known_in h x (s.known x e); closed = λ x e y k. s.closed x y e k }

pub closed_is_set : {F : Type 0} (h : List OpData) (form : Member → F) (c : Member → Bool) → IsClosed (family_in h form) c → IsClosedSet h c
closed_is_set h form c s = record { known = λ x e. in_known h x (s.listed x e); closed = λ x y e k. s.closed x e y k }

-- where a member may be added to a context, it may be added to the set of its members
pub added_sound : {F : Type 0} (h : List OpData) (form : Member → F) → IsValid h → (c : ContextData) (m : Member) → MayBeAddedTo h c m
    → IsSound (family_in h form) m (has c)
added_sound h form v c m a = record {
  listed = known_in h m a.known;
  covers = a.covers;
  set = set_closed h form (has c) (closed_set h (complete h v) c (record { ready = a.ready; stray = a.stray; closed = a.closed }));
  lacks = a.lacks;
}

pub sound_added : {F : Type 0} (h : List OpData) (form : Member → F) → IsValid h → (c : ContextData) (m : Member)
    → IsSound (family_in h form) m (has c) → MayBeAddedTo h c m
sound_added h form v c m s =
    let r = closed_context h (complete h v) c (closed_is_set h form (has c) s.set) in
    record { known = in_known h m s.listed; ready = r.ready; closed = r.closed; stray = r.stray; covers = s.covers; lacks = s.lacks }

-- ---- the next member

pub known_generation : (h : List OpData) → IsValid h → (m : Member) → is_known h m ≡ true → IsMember m
known_generation h v (Original n) known = tt
known_generation h v (Group t g) known = (group_facts h (complete h v) t g known).generation

next_original : (h : List OpData) → IsComplete h → (c : ContextData) (n : NameData) → MayBeAddedTo h c (Original n)
    → (count_of (original_context h n) n.site ≡ 0) ⊎ (1 ≤ count_of (original_context h n) n.site)
    → count_of (original_context h n) n.site ≤ count_of c n.site
next_original h w c n a (inl z) = omega arith
next_original h w c n a (inr low) =
    let facts = original_facts h w n a.known in
    let last : NameData = record { site = n.site; number = count_of (original_context h n) n.site } in
    let less : last.number < n.number = let own = facts.own in omega arith in
    let seen = own_earlier h w n a.known last refl low less in
    let there = a.covers (Original last) (in_original h n (Original last) a.known seen) in
    (has_number c last there).1

zero_or_more : (n : ℕ) → (n ≡ 0) ⊎ (1 ≤ n)
zero_or_more zero = inl refl
zero_or_more (suc n) = inr (omega arith)

pub at_most_or_more : (a b : ℕ) → (a ≤ b) ⊎ (b < a)
at_most_or_more a b = elim (cases_lt b a) [ inl h ↦ inr h | inr h ↦ inl h ]

-- the groups of a name below one that may be added are there
group_least : (h : List OpData) (c : ContextData) (t : NameData) (g : ℕ) → MayBeAddedTo h c (Group t g) → 1 ≤ g → g ≤ entry_of c t + 1
group_least h c t zero a low = omega arith
group_least h c t (suc zero) a low = omega arith
group_least h c t (suc (suc k)) a low =
    let below =
    in_group_below h t (suc (suc k)) (Group t (suc k)) a.known (below_group t (suc (suc k)) (suc k) (omega arith) (omega arith)) in
    let there = has_generation c t (suc k) (a.covers (Group t (suc k)) below) in
    let high = there.1 in
    omega arith

-- a member that may be added to a context is the next of its site or its name
pub added_next : (h : List OpData) → IsValid h → (c : ContextData) (m : Member) → MayBeAddedTo h c m → IsNextMember c m
added_next h v c (Original n) a =
    let w = complete h v in
    let facts = original_facts h w n a.known in
    let least = next_original h w c n a (zero_or_more (count_of (original_context h n) n.site)) in
    let own = facts.own in
    let low = facts.number in
    let most : n.number ≤ count_of c n.site → ⊥ =
    λ (high : n.number ≤ count_of c n.site). both_ways (has c (Original n)) a.lacks (has_original c n low high) in
    elim (at_most_or_more n.number (count_of c n.site)) [ inl high ↦ absurd (most high) | inr more ↦ omega arith ]
added_next h v c (Group t g) a =
    let w = complete h v in
    let group = group_facts h w t g a.known in
    let low = group.generation in
    let most : g ≤ entry_of c t → ⊥ = λ (high : g ≤ entry_of c t). both_ways (has c (Group t g)) a.lacks (has_group c t g low high) in
    let least : g ≤ entry_of c t + 1 = group_least h c t g a low in
    elim (at_most_or_more g (entry_of c t)) [ inl high ↦ absurd (most high) | inr more ↦ omega arith ]
