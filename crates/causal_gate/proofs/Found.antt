-- What a walk over the waiting operations tells of the whole list.
use Rattle.std.proofs.Common.{◌≡◌, ℕ, suc, ◌<◌, true, false, ◌||◌, List, [], ◌∷◌, refl, sym, ap, ◌∙◌, length, arith}
use Rattle.std.specs.Prelude.{Some, slice_get}
use Rattle.op_name.specs.declared.member.Member.{Member}
use Rattle.op_name.specs.Members.{member_eq}
use Rattle.context_diff.specs.Operations.{OpData, member_of}
use Rattle.context_diff.specs.Histories.{is_known}
use Rattle.context_diff.proofs.CallerLemmas.{known_member}
use Rattle.causal_gate.proofs.Places.{contains_at}

-- an operation of the list that is the member
pub known_at : (os : List OpData) (i : ℕ) (o : OpData) (m : Member) → slice_get os i ≡ Some o → member_of o ≡ m → is_known os m ≡ true
known_at os i o m at is = ap (is_known os) (sym is) ∙ known_member os o (contains_at os i o at)

-- no operation of the list is the member
pub known_nowhere : (os : List OpData) (m : Member)
    → ((i : ℕ) (o : OpData) → i < length os → slice_get os i ≡ Some o → member_eq (member_of o) m ≡ false) → is_known os m ≡ false
known_nowhere [] m others = refl
known_nowhere (x ∷ xs) m others =
    let here = others 0 x (omega arith) refl in
    let later = known_nowhere xs m (λ i o within at. others (suc i) o (omega (arith, within)) at) in
    λ i. here i || later i
