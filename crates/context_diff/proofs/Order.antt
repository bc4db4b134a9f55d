-- The order of a valid history: each member stands once, and behind its base context.
use Rattle.std.proofs.Common.{◌≡◌, ℕ, true, false, inl, inr, List, [], ◌∷◌, ◌++◌, refl, ap, sym, ◌∙◌, arith}
use Rattle.std.specs.Prelude.{◌||◌, ◌&&◌}
use Rattle.std.proofs.lemmas.Bool.{or_right, false≢true, or_from, false_from_ne_true}
use Rattle.op_name.specs.declared.member.Member.{Member}
use Rattle.op_name.specs.declared.member.Member.TheVariants.{Original, Group}
use Rattle.op_name.specs.NameData.{NameData}
use Rattle.op_name.specs.Members.{member_eq}
use Rattle.context_vector.specs.Contexts.{ContextData, has}
use Rattle.context_diff.specs.Operations.{OpData, inserting, deleting, undoing, member_of}
use Rattle.context_diff.specs.Histories.{is_known, IsNext, IsValid, IsValidAfter}
use Rattle.context_diff.specs.Bases.{original_context, is_below, base_has}
use Rattle.context_diff.proofs.Names.{member_same, member_itself}
use Rattle.context_diff.proofs.Raising.{has_group}
use Rattle.context_diff.proofs.Known.{known_push, known_on, context_on, context_behind, context_here}
use Rattle.context_diff.proofs.Valid.{valid_before, valid_parts}
use Rattle.context_diff.proofs.Complete.{IsComplete, complete}
use Rattle.context_diff.proofs.Histories.{original_facts, group_facts}
use Rattle.context_diff.proofs.ClosedSets.{base_original, base_group, base_listed, InGroupBase}

-- a member that is there comes no second time
pub later_new_after : (b os : List OpData) (m : Member) → is_known b m ≡ true → IsValidAfter b os → is_known os m ≡ false
later_new_after b [] m known v = refl
later_new_after b (p ∷ ps) m known v =
    or_from (member_eq (member_of p) m) (is_known ps m)
    (false_from_ne_true (member_eq (member_of p) m)
    (λ e. false≢true (sym v.0.new ∙ (ap (is_known b) (member_same (member_of p) m e) ∙ known))))
    (later_new_after (b ++ p ∷ []) ps m (known_on b (p ∷ []) m known) v.1)

pub later_new : (b os : List OpData) (m : Member) → IsValid (b ++ os) → is_known b m ≡ true → is_known os m ≡ false
later_new b os m v known = later_new_after b os m known (valid_parts b os v).1

pub known_end : (h : List OpData) (o : OpData) → is_known (h ++ o ∷ []) (member_of o) ≡ true
known_end h o =
    known_push h o (member_of o) ∙ or_right (is_known h (member_of o)) (member_eq (member_of o) (member_of o)) (member_itself (member_of o))

-- each member of a valid history stands there once
pub members_apart : (b : List OpData) (o : OpData) (os : List OpData) → IsValid (b ++ o ∷ os)
    → (is_known b (member_of o) ≡ false) × (is_known os (member_of o) ≡ false)
members_apart b o os v =
    let both = valid_before b o os v in
    let rest = (valid_parts b (o ∷ os) v).1 in
    (both.1.new, later_new_after (b ++ o ∷ []) os (member_of o) (known_end b o) rest.1)

earlier_group : (b : List OpData) (a : ℕ) (t : NameData) (g : ℕ) (c : ContextData) (os : List OpData) → IsComplete b
    → IsNext b (undoing a t g c) → (y : Member) → InGroupBase (b ++ undoing a t g c ∷ os) t g y → is_known b y ≡ true
earlier_group b a t g c os w next y e =
    let target = next.ready (Original t) next.formed.target.0 in
    elim e.cases [
      | inl seen ↦ (original_facts b w t target).ready y (ap (λ d. has d y) (sym (context_on b (undoing a t g c ∷ os) t target)) ∙ seen)
      | inr (inl is) ↦ ap (is_known b) is ∙ target
      | inr (inr below) ↦ ap (is_known b) below.1
          ∙ next.ready (Group t below.0) (has_group c t below.0 below.2 (omega (arith, below.3, next.formed.target.1)))
    ]

earlier_original : (b : List OpData) (o : OpData) (os : List OpData) (n : NameData) → member_of o ≡ Original n → IsNext b o → (y : Member)
    → base_has (b ++ o ∷ os) (Original n) y ≡ true → is_known b y ≡ true
earlier_original b o os n is next y e =
    let new : is_known b (Original n) ≡ false = ap (is_known b) (sym is) ∙ next.new in
    let context = context_behind b (o ∷ os) n new ∙ context_here o os n is in
    next.ready y (ap (λ d. has d y) (sym context) ∙ (base_original (b ++ o ∷ os) n y e).1)

earlier_at : (b : List OpData) (o : OpData) (os : List OpData) → IsComplete b → IsNext b o → (y : Member)
    → base_has (b ++ o ∷ os) (member_of o) y ≡ true → is_known b y ≡ true
earlier_at b (inserting n p text c) os w next y e = earlier_original b (inserting n p text c) os n refl next y e
earlier_at b (deleting n p c) os w next y e = earlier_original b (deleting n p c) os n refl next y e
earlier_at b (undoing a t g c) os w next y e = earlier_group b a t g c os w next y (base_group (b ++ undoing a t g c ∷ os) t g y e)

-- the base context of a member stands before it
pub earlier : (b : List OpData) (o : OpData) (os : List OpData) → IsValid (b ++ o ∷ os) → (y : Member)
    → base_has (b ++ o ∷ os) (member_of o) y ≡ true → is_known b y ≡ true
earlier b o os v y e =
    let both = valid_before b o os v in
    earlier_at b o os (complete b both.0) both.1 y e

-- neither the member itself nor one behind it is in its base context
pub not_later : (b : List OpData) (o : OpData) (os : List OpData) → IsValid (b ++ o ∷ os) → (z : Member) → is_known (o ∷ os) z ≡ true
    → base_has (b ++ o ∷ os) (member_of o) z ≡ false
not_later b o os v z behind =
    false_from_ne_true (base_has (b ++ o ∷ os) (member_of o) z)
    (λ e. false≢true (sym (later_new b (o ∷ os) z v (earlier b o os v z e)) ∙ behind))

-- what comes behind changes no base context of a member that is there
pub base_on : (b os : List OpData) → IsComplete b → (m : Member) → is_known b m ≡ true → (y : Member)
    → base_has (b ++ os) m y ≡ base_has b m y
base_on b os w (Original n) known y =
    let p : is_known (b ++ os) (Original n) ≡ is_known b (Original n) = known_on b os (Original n) known ∙ sym known in
    let q : has (original_context (b ++ os) n) y ≡ has (original_context b n) y = ap (λ d. has d y) (context_on b os n known) in
    λ i. p i && q i
base_on b os w (Group t g) known y =
    let target = (group_facts b w t g known).target in
    let p : is_known (b ++ os) (Group t g) ≡ is_known b (Group t g) = known_on b os (Group t g) known ∙ sym known in
    let q : has (original_context (b ++ os) t) y ≡ has (original_context b t) y = ap (λ d. has d y) (context_on b os t target) in
    λ i. p i && (q i || is_below t g y)

-- the members of a first part know only members of that part
pub base_within : (b os : List OpData) → IsComplete b → (m y : Member) → is_known b m ≡ true → base_has (b ++ os) m y ≡ true
    → is_known b y ≡ true
base_within b os w m y known e = base_listed b w m y (sym (base_on b os w m known y) ∙ e)
