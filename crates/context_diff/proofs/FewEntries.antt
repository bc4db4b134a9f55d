-- A history's context has no more entries than the history has operations.
use Rattle.std.proofs.Common.{ℕ, ◌+◌, ◌≤◌, true, false, List, [], ◌∷◌, length, if◌then◌else◌, arith}
use Rattle.op_name.specs.declared.member.Member.{Member}
use Rattle.op_name.specs.declared.member.Member.TheVariants.{Original, Group}
use Rattle.op_name.specs.NameData.{NameData, name_eq, name_lt}
use Rattle.context_vector.specs.Contexts.{ContextData, empty, raised, put_entry}
use Rattle.context_diff.specs.Operations.{OpData, member_of}
use Rattle.context_diff.specs.Histories.{context_after, context_of_all}

-- a put name is there already, or is one more
put_few : (n : NameData) (g : ℕ) (es : List (NameData × ℕ)) → length (put_entry n g es) ≤ length es + 1
put_few n g [] = omega arith
put_few n g (e ∷ es) =
    elim (name_eq e.0 n) as (λ t. length (if t then (n, g) ∷ es else if name_lt n e.0 then (n, g) ∷ (e ∷ es) else e ∷ put_entry n g es)
    ≤ length (e ∷ es) + 1) [
      | true ↦ omega arith
      | false ↦ elim (name_lt n e.0) as (λ t. length (if t then (n, g) ∷ (e ∷ es) else e ∷ put_entry n g es) ≤ length (e ∷ es) + 1) [
        | true ↦ omega arith
        | false ↦ omega (arith, put_few n g es)
      ]
    ]

raised_few : (c : ContextData) (m : Member) → length (raised c m).entries ≤ length c.entries + 1
raised_few c (Original n) = omega arith
raised_few c (Group n g) = put_few n g c.entries

after_few : (c : ContextData) (h : List OpData) → length (context_after c h).entries ≤ length c.entries + length h
after_few c [] = omega arith
after_few c (o ∷ os) = omega (arith, after_few (raised c (member_of o)) os, raised_few c (member_of o))

-- a history names no more originals that were undone than it has operations
pub named_few : (h : List OpData) → length (context_of_all h).entries ≤ length h
named_few h = omega (arith, after_few empty h)
