-- The form of a member at a set, and the forms of a list of members, as functions of the family alone.
use Rattle.std.proofs.Common.{ℕ, zero, suc, not, ◌&&◌, Bool, false, List, [], ◌∷◌, ◌⊎◌, inl, inr, ◌≡◌}
use Rattle.op_name.specs.declared.member.Member.{Member}
use Rattle.transform_rec.specs.Sets.{plus, minus}
use Rattle.ttf_form.specs.Families.{IsIn}
use Rattle.transform_rec.specs.Family.{Family, size}
use Rattle.transform_rec.proofs.Lists.{LastOf, last_of}

module _ {F : Type 0} (over : F → F → F) (b : Family F) where
  -- the members of C outside of m's base context: there is none, or the last one of the family's list
  abbrev pub Difference : Member → (Member → Bool) → Type 0
  Difference m C =
      ((z : Member) → IsIn z b.members → (C z && not (b.context m z)) ≡ false) ⊎ LastOf (λ y. C y && not (b.context m y)) b.members

  abbrev pub difference : (m : Member) (C : Member → Bool) → Difference m C
  difference m C = last_of (λ y. C y && not (b.context m y)) b.members

  -- the base form, or the inclusion of the last member's form, by the forms at the set without it
  abbrev pub computed_by : (Member → (Member → Bool) → F) → (m : Member) (C : Member → Bool) → Difference m C → F
  computed_by rest m C (inl n) = b.form m
  computed_by rest m C (inr l) = over (rest m (minus C l.it)) (rest l.it (minus C l.it))

  -- the form of m at C, if C has n members at most
  abbrev pub computed : ℕ → Member → (Member → Bool) → F
  computed zero m C = b.form m
  computed (suc n) m C = computed_by (λ x D. computed n x D) m C (difference m C)

  -- the forms of a list of members, each at C with those before it
  abbrev pub computed_forms : List Member → (Member → Bool) → List F
  computed_forms [] C = []
  computed_forms (x ∷ xs) C = computed (size b C) x C ∷ computed_forms xs (plus C x)
