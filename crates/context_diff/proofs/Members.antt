-- The members of a valid history are a context.
use Rattle.std.proofs.Common.{◌≡◌, Bool, true, false, List, refl, ap, sym, subst, ◌∙◌, not, ◌++◌, [], ◌∷◌}
use Rattle.std.specs.Prelude.{◌&&◌, ◌||◌}
use Rattle.op_name.specs.declared.member.Member.{Member}
use Rattle.op_name.specs.declared.member.Member.TheVariants.{Original, Group}
use Rattle.op_name.specs.Members.{member_eq, IsMember}
use Rattle.context_vector.specs.Contexts.{ContextData, IsContext, raised, has}
use Rattle.context_diff.specs.Operations.{OpData, inserting, deleting, undoing, member_of, IsWellFormed, is_original}
use Rattle.context_diff.specs.Histories.{is_known, context_of_all, IsNext, IsValid, members_in}
use Rattle.context_vector.proofs.CallerLemmas.{raised_is_context, same_context}
use Rattle.context_diff.proofs.Names.{member_same}
use Rattle.context_diff.proofs.Raising.{has_raised}
use Rattle.context_diff.proofs.Valid.{by_pushes}
use Rattle.context_diff.proofs.Complete.{complete, next_member, context_push}
use Rattle.op_name.specs.NameData.{NameData}

pub members-append : (h k : List OpData) → members_in (h ++ k) ≡ members_in h ++ members_in k
members-append [] k = refl
members-append (o ∷ os) k = ap (λ (ms : List Member). member_of o ∷ ms) (members-append os k)

-- the member of a well formed operation is in its range
pub formed_member : (o : OpData) → IsWellFormed o → IsMember (member_of o)
formed_member (inserting n p text c) f = tt
formed_member (deleting n p c) f = tt
formed_member (undoing a t g c) f = f.in_range.2

-- the member of an insert or of a delete is its own name
pub original_name : (o : OpData) → is_original o ≡ true → (n : NameData) × (member_of o ≡ Original n)
original_name (inserting n p text c) is = (n, refl)
original_name (deleting n p c) is = (n, refl)
original_name (undoing a t g c) is = cc

-- and an operation with such a member is an insert or a delete
pub named_original : (o : OpData) (n : NameData) → member_of o ≡ Original n → is_original o ≡ true
named_original (inserting m p text c) n is = refl
named_original (deleting m p c) n is = refl
named_original (undoing a t g c) n is = cc

pub raised_by : (c : ContextData) (o : OpData) → IsContext c → IsWellFormed o → IsContext (raised c (member_of o))
raised_by c (inserting n p text d) is f = raised_is_context c (Original n) is f.in_range.0 tt f.in_range.0.2
raised_by c (deleting n p d) is f = raised_is_context c (Original n) is f.in_range.0 tt f.in_range.0.2
raised_by c (undoing a t g d) is f = raised_is_context c (Group t g) is f.in_range.1 f.in_range.2 f.in_range.3

pub all_is_context : (h : List OpData) → IsValid h → IsContext (context_of_all h)
all_is_context h v =
    by_pushes (λ k. IsContext (context_of_all k)) (record { counts = tt; entries = tt }) (λ k o valid was next.
    subst IsContext (sym (context_push k o)) (raised_by (context_of_all k) o was next.formed)) h v

-- a context that was raised by a next operation and then lacks its member again is the context before
pub lowered_back : (h : List OpData) (o : OpData) (c d : ContextData) (m : Member) → IsValid h → IsNext h o → m ≡ member_of o
    → c ≡ raised (context_of_all h) (member_of o) → IsContext d → ((y : Member) → has d y ≡ (has c y && not (member_eq m y)))
    → d ≡ context_of_all h
lowered_back h o c d m v next is was form members =
    let a = context_of_all h in
    let w = complete h v in
    let raised_has = has_raised a (member_of o) (next_member h a o w.holds next) in
    same_context d a form (all_is_context h v) (λ y.
    members y ∙ ((λ i. has (was i) y && not (member_eq (is i) y))
    ∙ ((ap (λ b. b && not (member_eq (member_of o) y)) (raised_has y)) ∙ back y)))
  where
    apart : (a b : Bool) → (b ≡ true → a ≡ false) → ((a || b) && not b) ≡ a
    apart true true f = sym (f refl)
    apart true false f = refl
    apart false true f = refl
    apart false false f = refl

    back : (y : Member) → ((has (context_of_all h) y || member_eq (member_of o) y) && not (member_eq (member_of o) y))
        ≡ has (context_of_all h) y
    back y = apart (has (context_of_all h) y) (member_eq (member_of o) y) (λ e.
        (complete h v).holds y ∙ (ap (is_known h) (sym (member_same (member_of o) y e)) ∙ next.new))
