-- The operations of a history and the members that they are.
use Rattle.std.proofs.Common.{◌≡◌, ℕ, ◌≤◌, true, List, [], ◌∷◌, ◌++◌, inl, inr, refl, ap, sym, subst, arith}
use Rattle.std.specs.Prelude.{Contains}
use Rattle.op_name.specs.declared.member.Member.{Member}
use Rattle.op_name.specs.declared.member.Member.TheVariants.{Original, Group}
use Rattle.op_name.specs.NameData.{NameData}
use Rattle.context_vector.specs.Contexts.{ContextData}
use Rattle.context_diff.specs.Operations.{OpData, member_of}
use Rattle.context_diff.specs.Histories.{members_in, is_known, cells_in, IsNext, IsValid, IsValidAfter}
use Rattle.context_diff.proofs.CallerLemmas.{in_known, contains_cases, contains_here, contains_later, contains_none, shifted, complete, group_facts}
use Rattle.ttf_form.specs.Families.{IsIn}

-- the library's word for an element of a list says the same
pub in_contains : {A : Type 0} (x : A) (xs : List A) → IsIn x xs → Contains xs x
in_contains x [] i = absurd i
in_contains {A} x (y ∷ ys) (inl e) = subst (λ (z : A). Contains (z ∷ ys) x) e (contains_here x ys)
in_contains x (y ∷ ys) (inr i) = contains_later y ys x (in_contains x ys i)

pub contains_in : {A : Type 0} (x : A) (xs : List A) → Contains xs x → IsIn x xs
contains_in x [] c = absurd (contains_none x c)
contains_in x (y ∷ ys) c = elim (contains_cases y ys x c) [ inl e ↦ inl (sym e) | inr after ↦ inr (contains_in x ys after) ]

pub member_listed : (o : OpData) (h : List OpData) → IsIn o h → IsIn (member_of o) (members_in h)
member_listed o [] i = absurd i
member_listed o (p ∷ ps) (inl e) = inl (ap member_of e)
member_listed o (p ∷ ps) (inr i) = inr (member_listed o ps i)

pub listed_member : (m : Member) (h : List OpData) → IsIn m (members_in h) → (o : OpData) × IsIn o h × (member_of o ≡ m)
listed_member m [] i = absurd i
listed_member m (p ∷ ps) (inl e) = (p, inl refl, sym e)
listed_member m (p ∷ ps) (inr i) = let r = listed_member m ps i in (r.0, inr r.1, r.2)

-- an operation of the list is known by its member
pub known_as : (o : OpData) (m : Member) (h : List OpData) → IsIn o h → member_of o ≡ m → is_known h m ≡ true
known_as o m h i e = subst (λ (x : Member). is_known h x ≡ true) e (in_known h (member_of o) (member_listed o h i))

-- with a group a valid history has its original
pub target_known : (h : List OpData) → IsValid h → (t : NameData) (g : ℕ) → is_known h (Group t g) ≡ true → is_known h (Original t) ≡ true
target_known h v t g known = (group_facts h (complete h v) t g known).target

-- an operation of a valid history, with what stands before and after it
pub record IsPlacedIn (h : List OpData) (o : OpData) : Type 0 where
  pub before : List OpData
  pub after : List OpData
  pub whole : h ≡ before ++ (o ∷ after)
  pub next : IsNext before o

placed_after : (b os : List OpData) → IsValidAfter b os → (o : OpData) → IsIn o os → IsPlacedIn (b ++ os) o
placed_after b [] v o i = absurd i
placed_after b (p ∷ ps) v o (inl e) =
    record { before = b; after = ps; whole = ap (λ (q : OpData). b ++ (q ∷ ps)) (sym e); next = subst (IsNext b) (sym e) v.0 }
placed_after b (p ∷ ps) v o (inr i) = subst (λ (h : List OpData). IsPlacedIn h o) (shifted b p ps) (placed_after (b ++ (p ∷ [])) ps v.1 o i)

pub placed_in : (h : List OpData) → IsValid h → (o : OpData) → IsIn o h → IsPlacedIn h o
placed_in h v o i = placed_after [] h v o i

-- a longer list has as many cells of a context, or more
pub cells_behind : (h k : List OpData) (c : ContextData) → cells_in h c ≤ cells_in (h ++ k) c
cells_behind [] k c = omega arith
cells_behind (o ∷ os) k c = let rest = cells_behind os k c in omega arith
