-- The derived equality of members is the one of contracts.
use Rattle.std.proofs.Common.{◌≡◌, ℕ, Bool, List, rules, sym, ap, ◌∙◌}
use Rattle.std.specs.Prelude.{Option, if◌then◌else◌}
use Rattle.std.specs.Map.{lookup}
use Rattle.op_name.specs.declared.member.Member.{Member}
use Rattle.op_name.specs.declared.member.Member.TheVariants.{Original, Group}
use Rattle.op_name.specs.Members.{member_eq}
use Rattle.op_name.specs.contracts.member.MemberPartialEq.TheImpl.{eq-value}

pub derived_eq : (m k : Member) → eq-value.it m k ≡ member_eq m k
derived_eq (Original n) (Original x) = search rules
derived_eq (Original n) (Group x h) = search rules
derived_eq (Group n g) (Original x) = search rules
derived_eq (Group n g) (Group x h) = search rules

-- so is a look-up
pub by_member : (m : Member) (es : List (Member × ℕ)) → lookup (eq-value.it m) es ≡ lookup (member_eq m) es
by_member m es = ap (λ (t : Member → Bool). lookup t es) (λ i. λ (x : Member). derived_eq m x i)

-- also after a change under one member
pub changed_by_member : (es new : List (Member × ℕ)) (k : Member) (w : Option ℕ)
    → ((q : Member) → lookup (eq-value.it q) new ≡ (if eq-value.it k q then w else lookup (eq-value.it q) es))
    → (q : Member) → lookup (member_eq q) new ≡ (if member_eq k q then w else lookup (member_eq q) es)
changed_by_member es new k w change q = sym (by_member q new) ∙ change q ∙ (λ i. if derived_eq k q i then w else by_member q es i)
