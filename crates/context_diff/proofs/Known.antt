-- Which members a history has, and which operation is the member.
use Rattle.std.proofs.Common.{◌≡◌, Bool, true, false, ◌⊎◌, inl, inr, List, [], ◌∷◌, ◌++◌, refl, ap, sym, ◌∙◌, arith, append-nil}
use Rattle.std.specs.Prelude.{Contains, ◌||◌, if◌then◌else◌}
use Rattle.std.proofs.lemmas.Bool.{or_cases, or_left, or_right, cases_Bool, false≢true}
use Rattle.std.proofs.lemmas.List.Elements.{Contains-append_left, Contains-append_right, Contains-append_cases, Contains-push, Contains-push_cases}
use Rattle.op_name.specs.declared.member.Member.{Member}
use Rattle.op_name.specs.declared.member.Member.TheVariants.{Original}
use Rattle.op_name.specs.NameData.{NameData}
use Rattle.op_name.specs.Members.{member_eq}
use Rattle.op_name.specs.Lists.{IsIn}
use Rattle.context_vector.specs.Contexts.{empty}
use Rattle.context_diff.specs.Operations.{OpData, member_of, context_of}
use Rattle.context_diff.specs.Histories.{members_in, is_known}
use Rattle.context_diff.specs.Bases.{original_context}
use Rattle.context_diff.proofs.Names.{member_same, member_itself}

pub contains_cases : {X : Type 0} (y : X) (ys : List X) (x : X) → Contains (y ∷ ys) x → (y ≡ x) ⊎ Contains ys x
contains_cases y ys x c =
    elim (Contains-append_cases (y ∷ []) ys x c) [
      | inl at ↦ elim (Contains-push_cases [] y x at) [ inl none ↦ absurd (omega (arith, none.1)) | inr is ↦ inl is ]
      | inr later ↦ inr later
    ]

pub contains_here : {X : Type 0} (x : X) (xs : List X) → Contains (x ∷ xs) x
contains_here x xs = Contains-append_left (x ∷ []) xs x (Contains-push [] x)

pub contains_later : {X : Type 0} (y : X) (ys : List X) (x : X) → Contains ys x → Contains (y ∷ ys) x
contains_later y ys x c = Contains-append_right (y ∷ []) ys x c

pub contains_none : {X : Type 0} (x : X) → Contains [] x → ⊥
contains_none x c = omega (arith, c.1)

or_assoc : (a b c : Bool) → (a || (b || c)) ≡ ((a || b) || c)
or_assoc true b c = refl
or_assoc false b c = refl

or_none : (a : Bool) → (a || false) ≡ a
or_none true = refl
or_none false = refl

pub known_append : (h k : List OpData) (m : Member) → is_known (h ++ k) m ≡ (is_known h m || is_known k m)
known_append [] k m = refl
known_append (o ∷ os) k m =
    ap (λ b. member_eq (member_of o) m || b) (known_append os k m) ∙ or_assoc (member_eq (member_of o) m) (is_known os m) (is_known k m)

pub known_push : (h : List OpData) (o : OpData) (m : Member) → is_known (h ++ o ∷ []) m ≡ (is_known h m || member_eq (member_of o) m)
known_push h o m = known_append h (o ∷ []) m ∙ ap (λ b. is_known h m || b) (or_none (member_eq (member_of o) m))

-- a history has all that its first part has
pub known_on : (h k : List OpData) (m : Member) → is_known h m ≡ true → is_known (h ++ k) m ≡ true
known_on h k m e = known_append h k m ∙ or_left (is_known h m) (is_known k m) e

pub known_cases : (h k : List OpData) (m : Member) → is_known (h ++ k) m ≡ true → (is_known h m ≡ true) ⊎ (is_known k m ≡ true)
known_cases h k m e = or_cases (is_known h m) (is_known k m) (sym (known_append h k m) ∙ e)

-- each operation of a history is one of its members
pub known_member : (h : List OpData) (o : OpData) → Contains h o → is_known h (member_of o) ≡ true
known_member [] o c = absurd (contains_none o c)
known_member (p ∷ ps) o c =
    elim (contains_cases p ps o c) [
      | inl is ↦ or_left (member_eq (member_of p) (member_of o)) (is_known ps (member_of o))
          (ap (λ x. member_eq (member_of p) (member_of x)) (sym is) ∙ member_itself (member_of p))
      | inr later ↦ or_right (member_eq (member_of p) (member_of o)) (is_known ps (member_of o)) (known_member ps o later)
    ]

-- the members of a history are those of its list
pub known_in : (h : List OpData) (m : Member) → is_known h m ≡ true → IsIn m (members_in h)
known_in [] m e = absurd (false≢true e)
known_in (o ∷ os) m e =
    elim (or_cases (member_eq (member_of o) m) (is_known os m) e) [
      | inl same ↦ inl (sym (member_same (member_of o) m same))
      | inr later ↦ inr (known_in os m later)
    ]

pub in_known : (h : List OpData) (m : Member) → IsIn m (members_in h) → is_known h m ≡ true
in_known [] m i = absurd i
in_known (o ∷ os) m (inl e) =
    or_left (member_eq (member_of o) m) (is_known os m) (ap (λ (x : Member). member_eq x m) (sym e) ∙ member_itself m)
in_known (o ∷ os) m (inr i) = or_right (member_eq (member_of o) m) (is_known os m) (in_known os m i)

-- the operation of a history that is this member
pub record Holds (h : List OpData) (m : Member) : Type 0 where
  pub op : OpData
  pub there : Contains h op
  pub is : member_of op ≡ m

pub holder : (h : List OpData) (m : Member) → is_known h m ≡ true → Holds h m
holder [] m e = absurd (false≢true e)
holder (p ∷ ps) m e =
    elim (or_cases (member_eq (member_of p) m) (is_known ps m) e) [
      | inl same ↦ record { op = p; there = contains_here p ps; is = member_same (member_of p) m same }
      | inr later ↦
          let held = holder ps m later in
          record { op = held.op; there = contains_later p ps held.op held.there; is = held.is }
    ]

-- the operation of a history that is this original, and its context
pub record HoldsOriginal (h : List OpData) (n : NameData) : Type 0 where
  pub op : OpData
  pub there : Contains h op
  pub is : member_of op ≡ Original n
  pub context : original_context h n ≡ context_of op

if_true : {A : Type 0} (b : Bool) (x y : A) → b ≡ true → (if b then x else y) ≡ x
if_true b x y e = ap (λ v. if v then x else y) e

if_false : {A : Type 0} (b : Bool) (x y : A) → b ≡ false → (if b then x else y) ≡ y
if_false b x y e = ap (λ v. if v then x else y) e

pub original_holder : (h : List OpData) (n : NameData) → is_known h (Original n) ≡ true → HoldsOriginal h n
original_holder [] n e = absurd (false≢true e)
original_holder (p ∷ ps) n e =
    elim (cases_Bool (member_eq (member_of p) (Original n))) [
      | inl same ↦ record {
        op = p;
        there = contains_here p ps;
        is = member_same (member_of p) (Original n) same;
        context = if_true (member_eq (member_of p) (Original n)) (context_of p) (original_context ps n) same;
      }
      | inr other ↦
          let later : is_known ps (Original n) ≡ true = sym (ap (λ b. b || is_known ps (Original n)) other) ∙ e in
          let held = original_holder ps n later in
          record {
            op = held.op;
            there = contains_later p ps held.op held.there;
            is = held.is;
            context = if_false (member_eq (member_of p) (Original n)) (context_of p) (original_context ps n) other ∙ held.context;
          }
    ]

-- an original at the head is the one that its name finds
pub context_here : (o : OpData) (os : List OpData) (n : NameData) → member_of o ≡ Original n → original_context (o ∷ os) n ≡ context_of o
context_here o os n is =
    if_true (member_eq (member_of o) (Original n)) (context_of o) (original_context os n)
    (ap (λ m. member_eq m (Original n)) is ∙ member_itself (Original n))

-- what comes behind changes no context that was there
pub context_on : (h k : List OpData) (n : NameData) → is_known h (Original n) ≡ true → original_context (h ++ k) n ≡ original_context h n
context_on [] k n e = absurd (false≢true e)
context_on (p ∷ ps) k n e =
    elim (cases_Bool (member_eq (member_of p) (Original n))) [
      | inl same ↦
          if_true (member_eq (member_of p) (Original n)) (context_of p) (original_context (ps ++ k) n) same
          ∙ sym (if_true (member_eq (member_of p) (Original n)) (context_of p) (original_context ps n) same)
      | inr other ↦
          let later : is_known ps (Original n) ≡ true = sym (ap (λ b. b || is_known ps (Original n)) other) ∙ e in
          ap (λ c. if member_eq (member_of p) (Original n) then context_of p else c) (context_on ps k n later)
    ]

-- behind a part that hasn't the original its context is found in the rest
pub context_behind : (h k : List OpData) (n : NameData) → is_known h (Original n) ≡ false
    → original_context (h ++ k) n ≡ original_context k n
context_behind [] k n e = refl
context_behind (p ∷ ps) k n e =
    elim (cases_Bool (member_eq (member_of p) (Original n))) [
      | inl same ↦ absurd (false≢true (sym e ∙ or_left (member_eq (member_of p) (Original n)) (is_known ps (Original n)) same))
      | inr other ↦
          let later : is_known ps (Original n) ≡ false = sym (ap (λ b. b || is_known ps (Original n)) other) ∙ e in
          if_false (member_eq (member_of p) (Original n)) (context_of p) (original_context (ps ++ k) n) other ∙ context_behind ps k n later
    ]

-- of an original that the history hasn't the context is empty
pub context_none : (h : List OpData) (n : NameData) → is_known h (Original n) ≡ false → original_context h n ≡ empty
context_none h n e = ap (λ (k : List OpData). original_context k n) (sym (append-nil h)) ∙ context_behind h [] n e
