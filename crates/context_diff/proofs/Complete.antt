-- What each valid history keeps from push to push.
use Rattle.std.proofs.Common.{◌≡◌, ℕ, ◌+◌, ◌≤◌, true, false, inl, inr, List, [], ◌∷◌, ◌++◌, refl, ap, sym, subst, ◌∙◌, arith}
use Rattle.std.specs.Prelude.{Contains, ◌||◌}
use Rattle.std.proofs.lemmas.Bool.{false≢true, cases_lt}
use Rattle.std.proofs.lemmas.List.Elements.{Contains-push_cases}
use Rattle.op_name.specs.declared.member.Member.{Member}
use Rattle.op_name.specs.declared.member.Member.TheVariants.{Original, Group}
use Rattle.op_name.specs.NameData.{NameData}
use Rattle.op_name.specs.Members.{member_eq}
use Rattle.context_vector.specs.Contexts.{ContextData, has, count_of, entry_of, empty, raised, IsNextMember}
use Rattle.context_diff.specs.Operations.{OpData, inserting, deleting, undoing, member_of, context_of, is_original, IsWellFormed}
use Rattle.context_diff.specs.Histories.{is_known, context_after, context_of_all, LacksNothing, IsClosed, IsNext, IsValid}
use Rattle.context_diff.proofs.Raising.{has_raised, has_original, has_number, has_group, has_generation, has_empty}
use Rattle.context_diff.proofs.Known.{known_on, known_push, known_member, contains_none}
use Rattle.context_diff.proofs.Valid.{by_pushes}

pub record IsComplete (h : List OpData) : Type 0 where
  pub formed : (o : OpData) → Contains h o → IsWellFormed o
  pub ready : (o : OpData) → Contains h o → LacksNothing h (context_of o)
  pub closed : (o : OpData) → Contains h o → is_original o ≡ true → IsClosed h (context_of o)
  pub holds : (m : Member) → has (context_of_all h) m ≡ is_known h m
  pub one : (o p : OpData) → Contains h o → Contains h p → member_of o ≡ member_of p → o ≡ p

-- the number of a well formed original
pub formed_number : (o : OpData) → IsWellFormed o → (n : NameData) → member_of o ≡ Original n → 1 ≤ n.number
formed_number (inserting m p text c) f n is = let same : m ≡ n = cc in subst (λ (x : NameData). 1 ≤ x.number) same f.in_range.0.1
formed_number (deleting m p c) f n is = let same : m ≡ n = cc in subst (λ (x : NameData). 1 ≤ x.number) same f.in_range.0.1
formed_number (undoing a t g c) f n is = cc

-- a context that names only what a history has counts no further than the history
pub count_within : (h : List OpData) (a c : ContextData) → LacksNothing h c → ((m : Member) → has a m ≡ is_known h m) → (s : ℕ)
    → count_of c s ≤ count_of a s
count_within h a c ready holds s =
    elim (cases_lt 0 (count_of c s)) [
      | inl some ↦
          let last : NameData = record { site = s; number = count_of c s } in
          let there : has c (Original last) ≡ true = has_original c last some (omega arith) in
          (has_number a last (holds (Original last) ∙ ready (Original last) there)).1
      | inr none ↦ omega arith
    ]

pub entry_within : (h : List OpData) (a c : ContextData) → LacksNothing h c → ((m : Member) → has a m ≡ is_known h m) → (t : NameData)
    → entry_of c t ≤ entry_of a t
entry_within h a c ready holds t =
    elim (cases_lt 0 (entry_of c t)) [
      | inl some ↦
          let there : has c (Group t (entry_of c t)) ≡ true = has_group c t (entry_of c t) some (omega arith) in
          (has_generation a t (entry_of c t) (holds (Group t (entry_of c t)) ∙ ready (Group t (entry_of c t)) there)).1
      | inr none ↦ omega arith
    ]

-- an original that knows all earlier ones of its site, and that the history hasn't, is the next of its site
next_original : (h : List OpData) (a c : ContextData) (n : NameData) → LacksNothing h c → ((m : Member) → has a m ≡ is_known h m)
    → 1 ≤ n.number → count_of c n.site + 1 ≡ n.number → is_known h (Original n) ≡ false → n.number ≡ count_of a n.site + 1
next_original h a c n ready holds low own new =
    let within = count_within h a c ready holds n.site in
    elim (cases_lt (count_of a n.site) n.number) [
      | inl above ↦ omega arith
      | inr below ↦ absurd (false≢true (sym new ∙ (sym (holds (Original n)) ∙ has_original a n low below)))
    ]

next_group : (h : List OpData) (a c : ContextData) (t : NameData) (g : ℕ) → LacksNothing h c → ((m : Member) → has a m ≡ is_known h m)
    → 1 ≤ g → entry_of c t + 1 ≡ g → is_known h (Group t g) ≡ false → g ≡ entry_of a t + 1
next_group h a c t g ready holds low target new =
    let within = entry_within h a c ready holds t in
    elim (cases_lt (entry_of a t) g) [
      | inl above ↦ omega arith
      | inr below ↦ absurd (false≢true (sym new ∙ (sym (holds (Group t g)) ∙ has_group a t g low below)))
    ]

-- a next operation is the next of its site or its original, among the members of the history
pub next_member : (h : List OpData) (a : ContextData) (o : OpData) → ((m : Member) → has a m ≡ is_known h m) → IsNext h o
    → IsNextMember a (member_of o)
next_member h a (inserting n p text c) holds next = next_original h a c n next.ready holds next.formed.in_range.0.1 next.formed.own next.new
next_member h a (deleting n p c) holds next = next_original h a c n next.ready holds next.formed.in_range.0.1 next.formed.own next.new
next_member h a (undoing u t g c) holds next = next_group h a c t g next.ready holds next.formed.in_range.2 next.formed.target.1 next.new

pub context_push_after : (c : ContextData) (h : List OpData) (o : OpData)
    → context_after c (h ++ o ∷ []) ≡ raised (context_after c h) (member_of o)
context_push_after c [] o = refl
context_push_after c (p ∷ ps) o = context_push_after (raised c (member_of p)) ps o

-- after one more operation the members are those before, raised by its member
pub context_push : (h : List OpData) (o : OpData) → context_of_all (h ++ o ∷ []) ≡ raised (context_of_all h) (member_of o)
context_push h o = context_push_after empty h o

-- a new operation is in no context that names only what was there
pub closed_on : (h : List OpData) (o : OpData) (c : ContextData) → IsWellFormed o → is_known h (member_of o) ≡ false → LacksNothing h c
    → IsClosed h c → IsClosed (h ++ o ∷ []) c
closed_on h o c formed new ready closed s q n at is site number =
    elim (Contains-push_cases h o q at) [
      | inl old ↦ closed s q n old is site number
      | inr now ↦
          let named : member_of o ≡ Original n = ap member_of now ∙ is in
          let last : n.number ≡ count_of c n.site = number ∙ ap (count_of c) (sym site) in
          let there : has c (Original n) ≡ true = has_original c n (formed_number o formed n named) (omega arith) in
          absurd (false≢true (sym new ∙ (ap (is_known h) named ∙ ready (Original n) there)))
    ]

complete_push : (h : List OpData) (o : OpData) → IsComplete h → IsNext h o → IsComplete (h ++ o ∷ [])
complete_push h o was next =
    let kept : (c : ContextData) → LacksNothing h c → LacksNothing (h ++ o ∷ []) c = λ c r m e. known_on h (o ∷ []) m (r m e) in
    let apart : (p : OpData) → Contains h p → member_of p ≡ member_of o → ⊥ =
    λ p at is. false≢true (sym next.new ∙ (ap (is_known h) (sym is) ∙ known_member h p at)) in
    record {
      formed = λ p at. elim (Contains-push_cases h o p at) [
        | inl old ↦ was.formed p old
        | inr now ↦ subst IsWellFormed now next.formed
      ];
      ready = λ p at. elim (Contains-push_cases h o p at) [
        | inl old ↦ kept (context_of p) (was.ready p old)
        | inr now ↦ subst (λ (x : OpData). LacksNothing (h ++ o ∷ []) (context_of x)) now (kept (context_of o) next.ready)
      ];
      closed = λ p at original. elim (Contains-push_cases h o p at) [
        | inl old ↦ closed_on h o (context_of p) next.formed next.new (was.ready p old) (was.closed p old original)
        | inr now ↦
            let own : is_original o ≡ true = ap is_original now ∙ original in
            subst (λ (x : OpData). IsClosed (h ++ o ∷ []) (context_of x)) now
            (closed_on h o (context_of o) next.formed next.new next.ready (next.closed own))
      ];
      holds = λ m.
          ap (λ c. has c m) (context_push h o)
          ∙ (has_raised (context_of_all h) (member_of o) (next_member h (context_of_all h) o was.holds next) m
          ∙ (ap (λ b. b || member_eq (member_of o) m) (was.holds m) ∙ sym (known_push h o m)));
      one = λ p q at bt is. elim (Contains-push_cases h o p at) [
        | inl old ↦ elim (Contains-push_cases h o q bt) [
          | inl old' ↦ was.one p q old old' is
          | inr now' ↦ absurd (apart p old (is ∙ ap member_of (sym now')))
        ]
        | inr now ↦ elim (Contains-push_cases h o q bt) [
          | inl old' ↦ absurd (apart q old' (sym is ∙ ap member_of (sym now)))
          | inr now' ↦ sym now ∙ now'
        ]
      ];
    }

pub complete : (h : List OpData) → IsValid h → IsComplete h
complete h v =
    by_pushes IsComplete (record {
      formed = λ o at. absurd (contains_none o at);
      ready = λ o at. absurd (contains_none o at);
      closed = λ o at. absurd (contains_none o at);
      holds = has_empty;
      one = λ o p at. absurd (contains_none o at);
    }) (λ b o valid was next. complete_push b o was next) h v
