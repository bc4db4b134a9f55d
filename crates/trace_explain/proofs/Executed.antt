-- The context at which a member is executed, and the form that it is executed in.
use Rattle.std.proofs.Common.{◌≡◌, ◌≢◌, ℕ, zero, suc, ◌+◌, ◌≤◌, Bool, true, false, List, [], ◌∷◌, ◌++◌, length, take, drop, inl, inr, refl, sym, ap, subst, ◌∙◌, append_assoc}
use Rattle.std.specs.Prelude.{Some, slice_get, ◌||◌, if◌then◌else◌}
use Rattle.std.proofs.lemmas.Bool.{cases_Bool, both_ways}
use Rattle.std.proofs.lemmas.List.{drop_all, drop_more, take_more, take-append-drop}
use Rattle.std.proofs.lemmas.Option.{slice_get_within, get_or_from_slice_get}
use Rattle.op_name.specs.declared.member.Member.{Member}
use Rattle.op_name.specs.Members.{member_eq}
use Rattle.op_name.proofs.CallerLemmas.{member_same, member_itself, member_apart}
use Rattle.context_vector.specs.Contexts.{ContextData, IsContext, has, raised, empty, IsNextMember}
use Rattle.context_diff.specs.Operations.{OpData, member_of}
use Rattle.context_diff.specs.Histories.{is_known, members_in, context_of_all, IsValid}
use Rattle.context_diff.proofs.CallerLemmas.{all_is_context, complete, in_known, context_push, next_member, valid_parts, valid_pop, members-append}
use Rattle.ttf_form.specs.Families.{IsIn}
use Rattle.transform_rec.specs.Sets.{none, SameSet, plus, plus_all}
use Rattle.transform_rec.specs.Family.{IsSound}
use Rattle.transform_rec.specs.Executing.{IsCausalFrom}
use Rattle.transform_rec.specs.Histories.{family_in, MayBeAddedTo}
use Rattle.transform_rec.proofs.CallerLemmas.{book_run, causal_parts, history_causal, same_set, sound_added}
use Rattle.undo_group.specs.BaseForms.{base_form}
use Rattle.trace_explain.specs.Traces.{before, context_before}
use Rattle.trace_explain.proofs.Turned.{same_Some}

-- ---- the operations before a member

pub record IsSplit (h : List OpData) (m : Member) : Type 0 where
  pub op : OpData
  pub after : List OpData
  pub whole : h ≡ before h m ++ op ∷ after
  pub is : member_of op ≡ m

pub before_here : (o : OpData) (os : List OpData) (m : Member) → member_eq (member_of o) m ≡ true → before (o ∷ os) m ≡ []
before_here o os m e = ap (λ (b : Bool). if b then [] else o ∷ before os m) e

pub before_later : (o : OpData) (os : List OpData) (m : Member) → member_eq (member_of o) m ≡ false → before (o ∷ os) m ≡ o ∷ before os m
before_later o os m e = ap (λ (b : Bool). if b then [] else o ∷ before os m) e

pub split : (h : List OpData) (m : Member) → is_known h m ≡ true → IsSplit h m
split [] m e = absurd (both_ways false refl e)
split (o ∷ os) m e =
    elim (cases_Bool (member_eq (member_of o) m)) [
      | inl t ↦ record {
        op = o;
        after = os;
        whole = ap (λ (l : List OpData). l ++ o ∷ os) (sym (before_here o os m t));
        is =
            member_same (member_of o) m t;
      }
      | inr t ↦
          let later : is_known os m ≡ true = sym (ap (λ (b : Bool). b || is_known os m) t) ∙ e in
          let r = split os m later in
          record {
            op = r.op;
            after = r.after;
            whole = ap (λ (l : List OpData). o ∷ l) r.whole ∙ ap (λ (l : List OpData). l ++ r.op ∷ r.after) (sym (before_later o os m t));
            is = r.is;
          }
    ]

or_assoc : (a b c : Bool) → ((a || b) || c) ≡ (a || (b || c))
or_assoc true b c = refl
or_assoc false b c = refl

pub all_known : (h : List OpData) (C : Member → Bool) (y : Member) → plus_all C (members_in h) y ≡ (C y || is_known h y)
all_known [] C y = or_nothing (C y)
  where
    or_nothing : (b : Bool) → b ≡ (b || false)
    or_nothing true = refl
    or_nothing false = refl
all_known (o ∷ os) C y = all_known os (plus C (member_of o)) y ∙ or_assoc (C y) (member_eq (member_of o) y) (is_known os y)

before_valid : (h : List OpData) → IsValid h → (m : Member) → is_known h m ≡ true → IsValid (before h m)
before_valid h v m known = let r = split h m known in (valid_parts (before h m) (r.op ∷ r.after) (subst IsValid r.whole v)).0

-- the context before m has the members before m
pub before_set : (h : List OpData) → IsValid h → (m : Member) → is_known h m ≡ true
    → SameSet (plus_all none (members_in (before h m))) (has (context_before h m))
before_set h v m known y = all_known (before h m) none y ∙ sym ((complete (before h m) (before_valid h v m known)).holds y)

pub before_sound : (h : List OpData) → IsValid h → (m : Member) → is_known h m ≡ true
    → IsSound (family_in h (base_form h)) m (has (context_before h m))
before_sound h v m known =
    let r = split h m known in
    let list : members_in h ≡ members_in (before h m) ++ member_of r.op ∷ members_in r.after =
    ap members_in r.whole ∙ members-append (before h m) (r.op ∷ r.after) in
    let run = book_run (family_in h (base_form h)) (history_causal h (base_form h) v) in
    let parts =
    causal_parts (family_in h (base_form h)) (members_in (before h m)) (member_of r.op ∷ members_in r.after) none
    (subst (λ (ms : List Member). IsCausalFrom (family_in h (base_form h)) none ms) list run) in
    subst (λ (C : Member → Bool). IsSound (family_in h (base_form h)) m C) (same_set _ _ (before_set h v m known))
    (subst (λ (x : Member). IsSound (family_in h (base_form h)) x (plus_all none (members_in (before h m)))) r.is parts.1.0)

pub before_added : (h : List OpData) → IsValid h → (m : Member) → is_known h m ≡ true → MayBeAddedTo h (context_before h m) m
before_added h v m known = sound_added h (base_form h) v (context_before h m) m (before_sound h v m known)

pub before_is_context : (h : List OpData) → IsValid h → (m : Member) → is_known h m ≡ true → IsContext (context_before h m)
before_is_context h v m known = all_is_context (before h m) (before_valid h v m known)

-- ---- the walk up to a member

pub record IsUpTo (h : List OpData) (m : Member) (i : ℕ) (c : ContextData) : Type 0 where
  pub context : c ≡ context_of_all (take i h)
  pub front : before h m ≡ take i h ++ before (drop i h) m

pub up_to_first : (h : List OpData) (m : Member) (c : ContextData) → c ≡ empty → IsUpTo h m 0 c
up_to_first h m c e = record { context = e; front = refl }

-- the operation at the place that the walk has come to
pub record IsAt (h : List OpData) (i : ℕ) (x : Member) : Type 0 where
  pub op : OpData
  pub is : member_of op ≡ x
  pub rest : drop i h ≡ op ∷ drop (i + 1) h
  pub more : take (i + 1) h ≡ take i h ++ op ∷ []
  pub whole : h ≡ (take i h ++ op ∷ []) ++ drop (i + 1) h

find_op : (h : List OpData) (i : ℕ) (x : Member) → slice_get (members_in h) i ≡ Some x
    → (o : OpData) × (slice_get h i ≡ Some o) × (member_of o ≡ x)
find_op [] i x e = cc
find_op (o ∷ os) zero x e = (o, refl, same_Some (member_of o) x e)
find_op (o ∷ os) (suc i) x e = find_op os i x e

at_place : (h : List OpData) (i : ℕ) (x : Member) → slice_get (members_in h) i ≡ Some x → IsAt h i x
at_place h i x e =
    let f = find_op h i x e in
    let less = slice_get_within h i f.0 f.1 in
    let same = get_or_from_slice_get h i f.0 f.0 f.1 in
    let more : take (i + 1) h ≡ take i h ++ f.0 ∷ [] = take_more h i f.0 less ∙ ap (λ (o : OpData). take i h ++ o ∷ []) same in
    record {
      op = f.0;
      is = f.2;
      rest = drop_more h i f.0 less ∙ ap (λ (o : OpData). o ∷ drop (i + 1) h) same;
      more = more;
      whole = sym (take-append-drop (i + 1) h) ∙ ap (λ (l : List OpData). l ++ drop (i + 1) h) more;
    }

pub known_at : (h : List OpData) (i : ℕ) (x : Member) → slice_get (members_in h) i ≡ Some x → is_known h x ≡ true
known_at h i x e = in_known h x (in_at (members_in h) i x e)
  where
    in_at : (xs : List Member) (i : ℕ) (x : Member) → slice_get xs i ≡ Some x → IsIn x xs
    in_at [] i x e = cc
    in_at (y ∷ ys) zero x e = inl (sym (same_Some y x e))
    in_at (y ∷ ys) (suc i) x e = inr (in_at ys i x e)

pub up_to_next : (h : List OpData) → IsValid h → (m x : Member) (i : ℕ) (c : ContextData) → slice_get (members_in h) i ≡ Some x
    → IsUpTo h m i c → IsNextMember c x
up_to_next h v m x i c e u =
    let r = at_place h i x e in
    let parts = valid_pop (take i h) r.op (valid_parts (take i h ++ r.op ∷ []) (drop (i + 1) h) (subst IsValid r.whole v)).0 in
    subst (λ (d : ContextData). IsNextMember d x) (sym u.context)
    (subst (λ (y : Member). IsNextMember (context_of_all (take i h)) y) r.is
    (next_member (take i h) (context_of_all (take i h)) r.op (complete (take i h) parts.0).holds parts.1))

pub up_to_more : (h : List OpData) (m x : Member) (i : ℕ) (c d : ContextData) → slice_get (members_in h) i ≡ Some x → x ≢ m → d ≡ raised c x
    → IsUpTo h m i c → IsUpTo h m (i + 1) d
up_to_more h m x i c d e ne p u =
    let r = at_place h i x e in
    let other = member_apart (member_of r.op) m (λ s. ne (sym r.is ∙ s)) in
    record {
      context =
          p ∙ (ap (λ (b : ContextData). raised b x) u.context
          ∙ (ap (λ (y : Member). raised (context_of_all (take i h)) y) (sym r.is)
          ∙ (sym (context_push (take i h) r.op) ∙ ap context_of_all (sym r.more))));
      front = u.front ∙ (ap (λ (l : List OpData). take i h ++ before l m) r.rest
          ∙ (ap (λ (l : List OpData). take i h ++ l) (before_later r.op (drop (i + 1) h) m other)
          ∙ (sym (append_assoc (take i h) (r.op ∷ []) (before (drop (i + 1) h) m))
          ∙ ap (λ (l : List OpData). l ++ before (drop (i + 1) h) m) (sym r.more))));
    }

no_more : {A : Type 0} (xs : List A) → xs ++ [] ≡ xs
no_more [] = refl
no_more {A} (x ∷ xs) = ap (λ (l : List A). x ∷ l) (no_more xs)

up_to_end : (h : List OpData) (m : Member) (i : ℕ) (c : ContextData) → before (drop i h) m ≡ [] → IsUpTo h m i c → c ≡ context_before h m
up_to_end h m i c e u = u.context ∙ ap context_of_all (sym (u.front ∙ (ap (λ (l : List OpData). take i h ++ l) e ∙ no_more (take i h))))

pub up_to_found : (h : List OpData) (m x : Member) (i : ℕ) (c : ContextData) → slice_get (members_in h) i ≡ Some x → x ≡ m → IsUpTo h m i c
    → c ≡ context_before h m
up_to_found h m x i c e s u =
    let r = at_place h i x e in
    let here : member_eq (member_of r.op) m ≡ true = ap (λ (y : Member). member_eq y m) (r.is ∙ s) ∙ member_itself m in
    up_to_end h m i c (ap (λ (l : List OpData). before l m) r.rest ∙ before_here r.op (drop (i + 1) h) m here) u

pub up_to_all : (h : List OpData) (m : Member) (i : ℕ) (c : ContextData) → drop i h ≡ [] → IsUpTo h m i c → c ≡ context_before h m
up_to_all h m i c e u = up_to_end h m i c (ap (λ (l : List OpData). before l m) e) u

pub past_all : (h : List OpData) (i : ℕ) → length h ≤ i → drop i h ≡ []
past_all h i past = drop_all i h past
