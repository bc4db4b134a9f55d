-- What a history lacks of another.
use Rattle.std.proofs.Common.{◌≡◌, Bool, true, false, inl, inr, List, [], ◌∷◌, ◌++◌, refl, ap, sym, subst, ◌∙◌, not}
use Rattle.std.specs.Prelude.{Contains, ◌||◌, ◌&&◌}
use Rattle.std.proofs.lemmas.Bool.{cases_Bool}
use Rattle.op_name.specs.declared.member.Member.{Member}
use Rattle.op_name.specs.Members.{member_eq}
use Rattle.context_diff.specs.Operations.{OpData, member_of}
use Rattle.context_diff.specs.Histories.{is_known}
use Rattle.context_diff.proofs.CallerLemmas.{member_same, contains_cases, contains_here, contains_later, known_append}
use Rattle.peer_exchange.specs.Joins.{unseen, joined}

pub unseen_append : (k : Member → Bool) (os ps : List OpData) → unseen k (os ++ ps) ≡ unseen k os ++ unseen k ps
unseen_append k [] ps = refl
unseen_append k (o ∷ os) ps =
    elim (cases_Bool (k (member_of o))) [
      | inl seen ↦ rw seen (unseen_append k os ps)
      | inr new ↦ rw new (ap (λ xs. o ∷ xs) (unseen_append k os ps))
    ]

-- after one more operation
pub unseen_old : (k : Member → Bool) (os : List OpData) (o : OpData) → k (member_of o) ≡ true → unseen k (os ++ o ∷ []) ≡ unseen k os ++ []
unseen_old k os o seen = unseen_append k os (o ∷ []) ∙ rw seen refl

pub unseen_new : (k : Member → Bool) (os : List OpData) (o : OpData) → k (member_of o) ≡ false
    → unseen k (os ++ o ∷ []) ≡ unseen k os ++ o ∷ []
unseen_new k os o new = unseen_append k os (o ∷ []) ∙ rw new refl

-- the members of what is lacking
pub unseen_known : (k : Member → Bool) (os : List OpData) (m : Member) → is_known (unseen k os) m ≡ (is_known os m && not (k m))
unseen_known k [] m = refl
unseen_known k (o ∷ os) m =
    let rest = unseen_known k os m in
    elim (cases_Bool (k (member_of o))) [
      | inl seen ↦ elim (cases_Bool (member_eq (member_of o) m)) [
        | inl same ↦
            let too : k m ≡ true = ap k (sym (member_same (member_of o) m same)) ∙ seen in
            rw (seen, same) (rest ∙ rw too (and_no (is_known os m)))
        | inr other ↦ rw (seen, other) rest
      ]
      | inr new ↦ elim (cases_Bool (member_eq (member_of o) m)) [
        | inl same ↦
            let too : k m ≡ false = ap k (sym (member_same (member_of o) m same)) ∙ new in
            rw (new, same, too) refl
        | inr other ↦ rw (new, other) rest
      ]
    ]
  where
    and_no : (b : Bool) → (b && false) ≡ false
    and_no true = refl
    and_no false = refl

pub unseen_contains : (k : Member → Bool) (os : List OpData) (o : OpData) → Contains (unseen k os) o → Contains os o
unseen_contains k [] o c = c
unseen_contains k (p ∷ ps) o c =
    elim (cases_Bool (k (member_of p))) [
      | inl seen ↦ let in_rest : Contains (unseen k ps) o = rw seen at c in contains_later p ps o (unseen_contains k ps o in_rest)
      | inr new ↦
          let in_all : Contains (p ∷ unseen k ps) o = rw new at c in
          elim (contains_cases p (unseen k ps) o in_all) [
            | inl is ↦ subst (λ (x : OpData). Contains (p ∷ ps) x) is (contains_here p ps)
            | inr later ↦ contains_later p ps o (unseen_contains k ps o later)
          ]
    ]

-- the members of a join are those of both
either : (a b : Bool) → (a || (b && not a)) ≡ (a || b)
either true b = refl
either false true = refl
either false false = refl

pub known_joined : (h p : List OpData) (m : Member) → is_known (joined h p) m ≡ (is_known h m || is_known p m)
known_joined h p m =
    known_append h (unseen (is_known h) p) m ∙ (ap (λ b. is_known h m || b) (unseen_known (is_known h) p m)
    ∙ either (is_known h m) (is_known p m))

-- of what is known nothing is lacking
pub unseen_nothing : (k : Member → Bool) (os : List OpData) → ((o : OpData) → Contains os o → k (member_of o) ≡ true) → unseen k os ≡ []
unseen_nothing k [] all = refl
unseen_nothing k (o ∷ os) all = rw (all o (contains_here o os)) (unseen_nothing k os (λ p at. all p (contains_later o os p at)))

-- only the members matter
pub unseen_same : (j k : Member → Bool) (os : List OpData) → ((m : Member) → j m ≡ k m) → unseen j os ≡ unseen k os
unseen_same j k [] same = refl
unseen_same j k (o ∷ os) same = rw (same (member_of o)) (elim (cases_Bool (k (member_of o))) [
  | inl seen ↦ rw seen (unseen_same j k os same)
  | inr new ↦ rw new (ap (λ xs. o ∷ xs) (unseen_same j k os same))
])
