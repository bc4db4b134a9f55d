-- Forms on their way from the base context of their member to a greater set, and the stack of those that wait for one another.
use Rattle.std.specs.Prelude.{◌≡◌, ℕ, ◌≤◌, Bool, true, false, List, [], ◌∷◌, length, drop, reverse}
use Rattle.op_name.specs.declared.member.Member.{Member}
use Rattle.context_vector.specs.Contexts.{has}
use Rattle.context_diff.specs.Operations.{OpData}
use Rattle.context_diff.specs.Histories.{members_in}
use Rattle.context_diff.specs.Bases.{base_has}
use Rattle.ttf_form.specs.Families.{IsIn}
use Rattle.form_cache.specs.Keys.{KeyData}
use Rattle.transform_rec.specs.Sets.{IsSubset, SameSet, plus, plus_all}
use Rattle.transform_rec.specs.Family.{Family, IsSound}
use Rattle.transform_rec.specs.Derived.{Derived}
use Rattle.transform_rec.specs.Executing.{IsCausalFrom}
use Rattle.transform_rec.specs.Histories.{members_alone}
use Rattle.transform_rec.specs.declared.pending.Pending.{Pending}

-- f is a derived form of m at C, and the rest may be added to C one after the other, which gives T, a set without m
pub record IsOnWay {F : Type 0} (over : F → F → F) (b : Family F) (m : Member) (T C : Member → Bool) (f : F) (rest : List Member) : Type 0
  where
    pub derived : Derived over b m C f
    pub path : IsCausalFrom b C rest
    pub whole : SameSet (plus_all C rest) T
    pub lacks : T m ≡ false

-- m may be added to C, and the rest to C one after the other, which gives T
pub record IsWayBack {F : Type 0} (b : Family F) (m : Member) (T C : Member → Bool) (rest : List Member) : Type 0 where
  pub sound : IsSound b m C
  pub path : IsCausalFrom b C rest
  pub whole : SameSet (plus_all C rest) T

-- a walk back through a history that has come to its place i: the members taken, the last one last, are out of the context at which it
-- began, and what is left of that from this place on is in the base context of the member
pub record IsWalk (h : List OpData) (from at : KeyData) (taken : List Member) (i : ℕ) : Type 0 where
  pub near : i ≤ length (members_in h)
  pub member : at.member ≡ from.member
  pub back : IsWayBack (members_alone h) from.member (has from.context) (has at.context) (reverse taken)
  pub late : (y : Member) → has at.context y ≡ true → IsIn y (drop i (members_in h)) → base_has h from.member y ≡ true

-- each member of C is one of D, and D has one that C lacks
pub record IsProperSubset (C D : Member → Bool) : Type 0 where
  pub within : IsSubset C D
  pub more : Member
  pub there : D more ≡ true
  pub lacking : C more ≡ false

module _ {F : Type 0} (over : F → F → F) (b : Family F) where
  -- the pair's form is on its way to T
  abbrev pub IsPending : (Member → Bool) → Pending F → Type 0
  IsPending T p = IsOnWay over b p.at.member T (has p.at.context) p.form (reverse p.rest.items)

  -- the pair waits for the form of x at its context, and has the rest before it then
  abbrev pub IsWaiting : (Member → Bool) → Member → Pending F → Type 0
  IsWaiting T x p = IsOnWay over b p.at.member T (has p.at.context) p.form (x ∷ reverse p.rest.items)

  -- the pair q is p after x was added to its context, on p's way
  pub record IsStep (x : Member) (p q : Pending F) : Type 0 where
    pub member : q.at.member ≡ p.at.member
    pub context : SameSet (has q.at.context) (plus (has p.at.context) x)
    pub rest : q.rest.items ≡ p.rest.items
    pub way : (T : Member → Bool) → IsWaiting T x p → IsPending T q

  -- the pair q is on the way of x to the context of p, which waits for it; that context is a part of p's target
  pub record IsBegun (x : Member) (p q : Pending F) : Type 0 where
    pub member : q.at.member ≡ x
    pub way : IsPending (has p.at.context) q
    pub smaller : (T : Member → Bool) → IsWaiting T x p → IsProperSubset (has p.at.context) T

  -- the member of the first pair of the stack, or this one where it is empty
  abbrev pub first : List (Pending F) → Member → Member
  first [] m = m
  first (p ∷ ps) m = p.at.member

  -- each pair of the stack, on its way to its target, waits for the form of the next pair's member at its context, the last
  -- one for m; that context is the target of the next pair, and P holds of the last target
  abbrev pub IsChain : ((Member → Bool) → Type 0) → (Member → Bool) → List (Pending F) → Member → Type 0
  IsChain P T [] m = P T
  IsChain P T (p ∷ ps) m = IsWaiting T (first ps m) p × IsChain P (has p.at.context) ps m
