-- Keys as contracts see them, and their equality as a test.
use Rattle.std.specs.Prelude.{◌≡◌, Bool, true, ◌&&◌}
use Rattle.std.proofs.Common.{sym, subst}
use Rattle.std.specs.Bool.{Decides}
use Rattle.std.specs.Cmp.{IsEquivalence, IsPartialEquivalence, decided, partial_equiv_from_equiv, first_so, second_so}
use Rattle.op_name.specs.declared.member.Member.{Member}
use Rattle.op_name.specs.Members.{member_eq}
use Rattle.op_name.proofs.CallerLemmas.{member_same, member_itself}
use Rattle.context_vector.specs.Contexts.{ContextData}
use Rattle.context_vector.specs.Equality.{context_eq, context_eq_decides}

-- a member with a set of members
pub record KeyData : Type 0 where
  pub member : Member
  pub context : ContextData

-- the same member and the same set
abbrev pub key_eq : KeyData → KeyData → Bool
key_eq k l = member_eq k.member l.member && context_eq k.context l.context

both : (x y : Bool) → x ≡ true → y ≡ true → (x && y) ≡ true
both x y e f = subst (λ t. (t && y) ≡ true) (sym e) f

-- the test decides equality of keys
pub key_eq_decides : (k l : KeyData) → Decides (key_eq k l) (k ≡ l)
key_eq_decides k l =
    let contexts = context_eq_decides k.context l.context in (
      λ e.
          let members = member_same k.member l.member (first_so (member_eq k.member l.member) (context_eq k.context l.context) e) in
          let sets = contexts.0 (second_so (member_eq k.member l.member) (context_eq k.context l.context) e) in
          λ i. record { member = members i; context = sets i },
      λ e. subst (λ (x : KeyData). key_eq k x ≡ true) e
          (both _ _ (member_itself k.member) ((context_eq_decides k.context k.context).1 (λ i. k.context))),
    )

pub key_equiv : IsEquivalence key_eq
key_equiv = decided key_eq key_eq_decides

pub key_per : IsPartialEquivalence key_eq
key_per = partial_equiv_from_equiv key_equiv
