-- Generations added up.
use Rattle.std.proofs.Common.{◌≡◌, ℕ, ◌*◌, ◌≤◌, List, [], ◌∷◌, length, Some, ap, arith}
use Rattle.std.specs.List.{slice_get}
use Rattle.op_name.specs.NameData.{NameData}
use Rattle.op_name.specs.declared.member.TheConstants.{GENERATIONS}
use Rattle.context_vector.specs.Contexts.{AreEntries}
use Rattle.checkpoint_codec.specs.Spelled.{sum_of}

-- the first is one of them
pub first_in_sum : (es : List (NameData × ℕ)) (e : NameData × ℕ) → Some e ≡ slice_get es 0 → e.1 ≤ sum_of es
first_in_sum [] e there = absurd cc
first_in_sum (x ∷ xs) e there =
    let same : e ≡ x = cc in
    let generation : e.1 ≡ x.1 = ap (λ (y : NameData × ℕ). y.1) same in
    omega (arith, generation)

-- each is at most the greatest generation
pub sum_bounded : (es : List (NameData × ℕ)) → AreEntries es → sum_of es ≤ GENERATIONS * length es
sum_bounded [] are = omega arith
sum_bounded (e ∷ es) are = let rest = sum_bounded es are.4 in omega (arith, are.2, rest)
