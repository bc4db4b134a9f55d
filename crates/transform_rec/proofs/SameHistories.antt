-- Histories with the same operations have the same members, base contexts and forms.
use Rattle.std.proofs.Common.{◌≡◌, ℕ, true, ◌&&◌, ◌||◌, List, inl, inr, sym, ap, ap₂, subst, ◌∙◌, arith}
use Rattle.std.proofs.lemmas.Bool.{cases_Bool}
use Rattle.op_name.specs.NameData.{NameData}
use Rattle.op_name.specs.declared.member.Member.{Member}
use Rattle.op_name.specs.declared.member.Member.TheVariants.{Original, Group}
use Rattle.context_vector.specs.Contexts.{ContextData, has}
use Rattle.context_diff.specs.Operations.{OpData}
use Rattle.context_diff.specs.Histories.{is_known, generation_in, context_of_all, IsValid, Same}
use Rattle.context_diff.specs.Bases.{original_context, is_before, is_below, base_has}
use Rattle.context_diff.proofs.CallerLemmas.{has_generation, has_group, known_member, original_holder, complete, generation_is, group_facts, context_is, known_in, in_known, named_original}
use Rattle.transform_rec.specs.Derived.{Holds}
use Rattle.transform_rec.specs.Histories.{family_in, SameOperationsSameForm}
use Rattle.transform_rec.proofs.Forms.{derived_moves}
use Rattle.std.specs.Cmp.{both_ways as same_bool}

same_turned : (h k : List OpData) → Same h k → (t : NameData) → is_known h (Original t) ≡ true → generation_in k t ≡ generation_in h t
same_turned h k s t e = sym (s.generations t e)

original_forth : (h k : List OpData) → Same h k → (n : NameData) → is_known h (Original n) ≡ true → is_known k (Original n) ≡ true
original_forth h k s n e =
    let held = original_holder h n e in
    subst (λ (m : Member). is_known k m ≡ true) held.is
    (known_member k held.op ((s.originals held.op (named_original held.op n held.is)).0 held.there))

original_back : (h k : List OpData) → Same h k → (n : NameData) → is_known k (Original n) ≡ true → is_known h (Original n) ≡ true
original_back h k s n e =
    let held = original_holder k n e in
    subst (λ (m : Member). is_known h m ≡ true) held.is
    (known_member h held.op ((s.originals held.op (named_original held.op n held.is)).1 held.there))

-- a group at a generation that the other history reaches
group_there : (h k : List OpData) → IsValid h → IsValid k → (t : NameData) (g : ℕ) → generation_in h t ≡ generation_in k t
    → is_known h (Group t g) ≡ true → is_known k (Group t g) ≡ true
group_there h k v u t g e known =
    let range = has_generation (context_of_all h) t g ((complete h v).holds (Group t g) ∙ known) in
    let low = range.0 in
    let high = range.1 in
    let here = generation_is h v t in
    let there = generation_is k u t in
    sym ((complete k u).holds (Group t g)) ∙ has_group (context_of_all k) t g low (omega arith)

pub known_forth : (h k : List OpData) → IsValid h → IsValid k → Same h k → (m : Member) → is_known h m ≡ true → is_known k m ≡ true
known_forth h k v u s (Original n) e = original_forth h k s n e
known_forth h k v u s (Group t g) e = group_there h k v u t g (s.generations t (group_facts h (complete h v) t g e).target) e

pub known_back : (h k : List OpData) → IsValid h → IsValid k → Same h k → (m : Member) → is_known k m ≡ true → is_known h m ≡ true
known_back h k v u s (Original n) e = original_back h k s n e
known_back h k v u s (Group t g) e =
    let target = original_back h k s t (group_facts k (complete k u) t g e).target in
    group_there k h u v t g (sym (s.generations t target)) e

pub same_known : (h k : List OpData) → IsValid h → IsValid k → Same h k → (m : Member) → is_known h m ≡ is_known k m
same_known h k v u s m = same_bool (is_known h m) (is_known k m) (known_forth h k v u s m) (known_back h k v u s m)

pub same_original_context : (h k : List OpData) → IsValid k → Same h k → (n : NameData) → is_known h (Original n) ≡ true
    → original_context h n ≡ original_context k n
same_original_context h k u s n e =
    let held = original_holder h n e in
    held.context ∙ sym (context_is k (complete k u) held.op n ((s.originals held.op (named_original held.op n held.is)).0 held.there)
    held.is (original_forth h k s n e))

same_before : (h k : List OpData) → IsValid h → IsValid k → Same h k → (m y : Member) → is_known h m ≡ true
    → is_before h m y ≡ is_before k m y
same_before h k v u s (Original n) y e = ap (λ (c : ContextData). has c y) (same_original_context h k u s n e)
same_before h k v u s (Group t g) y e =
    ap (λ (c : ContextData). has c y || is_below t g y) (same_original_context h k u s t (group_facts h (complete h v) t g e).target)

pub same_base : (h k : List OpData) → IsValid h → IsValid k → Same h k → (m y : Member) → base_has h m y ≡ base_has k m y
same_base h k v u s m y =
    let known = same_known h k v u s m in
    elim (cases_Bool (is_known h m)) [
      | inl e ↦ ap₂ (λ a b. a && b) known (same_before h k v u s m y e)
      | inr e ↦
          ap (λ b. b && is_before h m y) e ∙ ap (λ b. b && is_before k m y) (sym (sym known ∙ e))
    ]

pub same_holds : {F : Type 0} (h k : List OpData) (form other : Member → F) → IsValid h → IsValid k → Same h k
    → ((x : Member) → is_known h x ≡ true → form x ≡ other x) → Holds (family_in h form) (family_in k other)
same_holds h k form other v u s f = record {
  members = λ x i. known_in k x (known_forth h k v u s x (in_known h x i));
  context = λ x i y. same_base h k v u s x y;
  form = λ x i. f x (in_known h x i);
}

pub same_holds_back : {F : Type 0} (h k : List OpData) (form other : Member → F) → IsValid h → IsValid k → Same h k
    → ((x : Member) → is_known h x ≡ true → form x ≡ other x) → Holds (family_in k other) (family_in h form)
same_holds_back h k form other v u s f = record {
  members = λ x i. known_in h x (known_back h k v u s x (in_known k x i));
  context = λ x i y. sym (same_base h k v u s x y);
  form = λ x i. sym (f x (known_back h k v u s x (in_known k x i)));
}

pub same_operations_same_form : {F : Type 0} (over : F → F → F) → SameOperationsSameForm over
same_operations_same_form over h k form other v u s e m C f o = (
  derived_moves over (family_in h form) (family_in k other) (same_holds h k form other v u s e) m C f o.0,
  λ g dg. o.1 g (derived_moves over (family_in k other) (family_in h form) (same_holds_back h k form other v u s e) m C g dg),
)
