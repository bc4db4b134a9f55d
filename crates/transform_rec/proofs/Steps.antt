-- What the steps of the work on the stack need and give, over a history.
use Rattle.std.proofs.Common.{◌≡◌, ◌≢◌, ℕ, ◌+◌, ◌≤◌, Bool, List, [], reverse, sym, ap, subst, ◌∙◌, arith}
use Rattle.op_name.specs.declared.member.Member.{Member}
use Rattle.op_name.specs.Members.{IsMember}
use Rattle.context_vector.specs.Contexts.{ContextData, has, raised, IsNextMember}
use Rattle.context_diff.specs.Histories.{members_in}
use Rattle.context_diff.proofs.CallerLemmas.{has_raised}
use Rattle.form_cache.specs.Keys.{KeyData}
use Rattle.ttf_form.specs.Families.{total_by}
use Rattle.ttf_form.specs.declared.include.TheConstants.{CELLS}
use Rattle.transform_rec.specs.Sets.{SameSet, plus}
use Rattle.transform_rec.specs.Family.{Family}
use Rattle.transform_rec.specs.Derived.{Derived, IsOnlyFormAt, Deriving}
use Rattle.transform_rec.specs.Histories.{family_in, MayBeAddedTo}
use Rattle.transform_rec.specs.declared.pending.Pending.{Pending}
use Rattle.transform_rec.specs.Code.Pending.{IsOnWay, IsPending, IsWaiting, IsStep, IsBegun, IsProperSubset}
use Rattle.transform_rec.proofs.Sets.{plus_here, all_keeps, plus_keeps}
use Rattle.transform_rec.proofs.Forms.{form_moves, form_step, derived_sound, derived_room}
use Rattle.transform_rec.proofs.Uniqueness.{only_form}
use Rattle.transform_rec.proofs.Histories.{sound_added, known_generation, added_next}
use Rattle.transform_rec.proofs.Turns.{Inertness, way_other, way_next, way_pass, way_last}
use Rattle.transform_rec.proofs.Transformations.{OverHistory}

-- a pair after a member was added to its context, as the code leaves it
pub record IsGrown {F : Type 0} (x : Member) (f : F) (p q : Pending F) : Type 0 where
  pub key : q.at ≡ record { member = p.at.member; context = raised p.at.context x }
  pub form : q.form ≡ f
  pub rest : q.rest.items ≡ p.rest.items

pub grown_from : {F : Type 0} (x y : Member) (f : F) (p q : Pending F) → y ≡ x
    → q.at ≡ record { member = p.at.member; context = raised p.at.context y } → q.form ≡ f → q.rest.items ≡ p.rest.items → IsGrown x f p q
grown_from {F} x y f p q e key form rest = subst (λ (z : Member). IsGrown z f p q) e (record { key = key; form = form; rest = rest })

-- the key of the other form, which has the pair's member more
pub turned_key : {F : Type 0} (new key : KeyData) (p : Pending F) (m : Member)
    → new ≡ record { member = key.member; context = raised key.context m } → m ≡ p.at.member → key.context ≡ p.at.context
    → new ≡ record { member = key.member; context = raised p.at.context p.at.member }
turned_key new key p m e is here =
    let Kept : Member → ContextData → Type 0 = λ n c. new ≡ record { member = key.member; context = raised c n } in
    subst (λ (n : Member). Kept n p.at.context) is (subst (λ (c : ContextData). Kept m c) here e)

module _ {F : Type 0} (o : OverHistory F) where
  abbrev family : Family F
  family = family_in o.history o.form

  abbrev deriving_of : Deriving F
  deriving_of = record { inclusion = o.inclusion; laws = o.laws; family = family_in o.history o.form; known = o.known }

  -- the member that is waited for, and the one that waits, may be added to the context
  pub its_added : (T : Member → Bool) (x : Member) (p : Pending F) → IsWaiting o.inclusion.over family T x p
      → MayBeAddedTo o.history p.at.context x
  its_added T x p w = sound_added o.history o.form o.valid p.at.context x w.path.0

  own_added : (T : Member → Bool) (x : Member) (p : Pending F) → IsWaiting o.inclusion.over family T x p
      → MayBeAddedTo o.history p.at.context p.at.member
  own_added T x p w =
      sound_added o.history o.form o.valid p.at.context p.at.member
      (derived_sound deriving_of p.at.member (has p.at.context) p.form w.derived)

  pub its_member : (T : Member → Bool) (x : Member) (p : Pending F) → IsWaiting o.inclusion.over family T x p → IsMember x
  its_member T x p w = known_generation o.history o.valid x (its_added T x p w).known

  pub its_next : (T : Member → Bool) (x : Member) (p : Pending F) → IsWaiting o.inclusion.over family T x p → IsNextMember p.at.context x
  its_next T x p w = added_next o.history o.valid p.at.context x (its_added T x p w)

  pub own_member : (T : Member → Bool) (x : Member) (p : Pending F) → IsWaiting o.inclusion.over family T x p → IsMember p.at.member
  own_member T x p w = known_generation o.history o.valid p.at.member (own_added T x p w).known

  pub own_next : (T : Member → Bool) (x : Member) (p : Pending F) (c : ContextData) → c ≡ p.at.context
      → IsWaiting o.inclusion.over family T x p → IsNextMember c p.at.member
  own_next T x p c e w =
      subst (λ (d : ContextData). IsNextMember d p.at.member) (sym e)
      (added_next o.history o.valid p.at.context p.at.member (own_added T x p w))

  -- a form of a key at the pair's context
  pub form_here : (key : KeyData) (p : Pending F) (k : F) → key.context ≡ p.at.context
      → Derived o.inclusion.over family key.member (has key.context) k → Derived o.inclusion.over family key.member (has p.at.context) k
  form_here key p k e dk = subst (λ (c : ContextData). Derived o.inclusion.over family key.member (has c) k) e dk

  -- either form can be included in the other
  within : (ms : List Member) → ms ≡ members_in o.history → total_by (λ y. o.inclusion.extent (o.form y)) ms ≤ CELLS → (n : ℕ)
      → n ≤ total_by (λ y. o.inclusion.extent (o.form y)) (members_in o.history) → n ≤ CELLS
  within ms e total n less =
      let all : total_by (λ y. o.inclusion.extent (o.form y)) (members_in o.history) ≤ CELLS =
      subst (λ (l : List Member). total_by (λ y. o.inclusion.extent (o.form y)) l ≤ CELLS) e total in
      omega arith

  pub its_room : (ms : List Member) → ms ≡ members_in o.history → total_by (λ y. o.inclusion.extent (o.form y)) ms ≤ CELLS
      → (T : Member → Bool) (x : Member) (p : Pending F) (k : F) → IsWaiting o.inclusion.over family T x p
      → Derived o.inclusion.over family x (has p.at.context) k → o.inclusion.place p.form + o.inclusion.extent k ≤ CELLS
  its_room ms e total T x p k w dk =
      within ms e total (o.inclusion.place p.form + o.inclusion.extent k)
      (derived_room deriving_of p.at.member x (has p.at.context) p.form k w.derived dk)

  pub own_room : (ms : List Member) → ms ≡ members_in o.history → total_by (λ y. o.inclusion.extent (o.form y)) ms ≤ CELLS
      → (T : Member → Bool) (x : Member) (p : Pending F) (k : F) → IsWaiting o.inclusion.over family T x p
      → Derived o.inclusion.over family x (has p.at.context) k → o.inclusion.place k + o.inclusion.extent p.form ≤ CELLS
  own_room ms e total T x p k w dk =
      within ms e total (o.inclusion.place k + o.inclusion.extent p.form)
      (derived_room deriving_of x p.at.member (has p.at.context) k p.form dk w.derived)

  -- the other form of the two, after the inclusion of the pair's
  pub turned_form : (T : Member → Bool) (x : Member) (p : Pending F) (k : F) (key : KeyData) (f : F)
      → IsWaiting o.inclusion.over family T x p → Derived o.inclusion.over family x (has p.at.context) k
      → key ≡ record { member = x; context = raised p.at.context p.at.member } → f ≡ o.inclusion.over k p.form
      → IsOnlyFormAt o.inclusion.over family key.member (has key.context) f
  turned_form T x p k key f w dk e is =
      let m = p.at.member in
      let c = p.at.context in
      let next = added_next o.history o.valid c m (own_added T x p w) in
      let same : SameSet (plus (has c) m) (has (raised c m)) = λ (y : Member). sym (has_raised c m next y) in
      let other : x ≢ m = λ (q : x ≡ m). way_other deriving_of m x T (has c) p.form (reverse p.rest.items) w (sym q) in
      let step = form_step deriving_of x m (has c) k p.form (derived_sound deriving_of m (has c) p.form w.derived) other dk w.derived in
      let only =
      only_form deriving_of x (has (raised c m)) (o.inclusion.over k p.form)
      (form_moves deriving_of x (plus (has c) m) (has (raised c m)) (o.inclusion.over k p.form) same step) in
      let here : IsOnlyFormAt o.inclusion.over family key.member (has key.context) (o.inclusion.over k p.form) =
      subst (λ (l : KeyData). IsOnlyFormAt o.inclusion.over family l.member (has l.context) (o.inclusion.over k p.form)) (sym e) only in
      subst (λ (g : F). IsOnlyFormAt o.inclusion.over family key.member (has key.context) g) (sym is) here

  -- ---- a member more

  grown_set : (T : Member → Bool) (x : Member) (p q : Pending F) (f : F) → IsWaiting o.inclusion.over family T x p → IsGrown x f p q
      → SameSet (has q.at.context) (plus (has p.at.context) x)
  grown_set T x p q f w g y = ap (λ (k : KeyData). has k.context y) g.key ∙ has_raised p.at.context x (its_next T x p w) y

  grown_way : (S : Member → Bool) (x : Member) (p q : Pending F) (f : F) → IsGrown x f p q
      → IsOnWay o.inclusion.over family p.at.member S (has q.at.context) f (reverse p.rest.items) → IsPending o.inclusion.over family S q
  grown_way S x p q f g w =
      let a = subst (λ (l : List Member). IsOnWay o.inclusion.over family p.at.member S (has q.at.context) f (reverse l)) (sym g.rest) w in
      let b = subst (λ (h : F). IsOnWay o.inclusion.over family p.at.member S (has q.at.context) h (reverse q.rest.items)) (sym g.form) a in
      subst (λ (m : Member). IsOnWay o.inclusion.over family m S (has q.at.context) q.form (reverse q.rest.items))
      (sym (ap (λ (k : KeyData). k.member) g.key)) b

  pub step_taken : (T : Member → Bool) (x : Member) (p q : Pending F) (k f : F) → IsWaiting o.inclusion.over family T x p
      → Derived o.inclusion.over family x (has p.at.context) k → f ≡ o.inclusion.over p.form k → IsGrown x f p q
      → IsStep o.inclusion.over family x p q
  step_taken T x p q k f w dk e g = record {
    member = ap (λ (l : KeyData). l.member) g.key;
    context = grown_set T x p q f w g;
    rest = g.rest;
    way = λ S u. grown_way S x p q f g
        (subst (λ (h : F). IsOnWay o.inclusion.over family p.at.member S (has q.at.context) h (reverse p.rest.items)) (sym e)
        (way_next deriving_of p.at.member x S (has p.at.context) (has q.at.context) p.form k (reverse p.rest.items)
        (grown_set T x p q f w g) u dk));
  }

  pub step_passed : (IsInert : F → Type 0) → Inertness o.inclusion.over IsInert → (T : Member → Bool) (x : Member) (p q : Pending F)
      → IsInert (o.form x) → IsWaiting o.inclusion.over family T x p → IsGrown x p.form p q → IsStep o.inclusion.over family x p q
  step_passed IsInert n T x p q inert w g = record {
    member = ap (λ (l : KeyData). l.member) g.key;
    context = grown_set T x p q p.form w g;
    rest = g.rest;
    way = λ S u. grown_way S x p q p.form g
        (way_pass deriving_of IsInert n p.at.member x S (has p.at.context) (has q.at.context) p.form (reverse p.rest.items) inert
        (grown_set T x p q p.form w g) u);
  }

  -- ---- a pair more

  -- the context of a pair that waits is a proper part of its target
  smaller : (T : Member → Bool) (x : Member) (p : Pending F) → IsWaiting o.inclusion.over family T x p → IsProperSubset (has p.at.context) T
  smaller T x p w = record {
    within = λ y h. sym (w.whole y) ∙ all_keeps (reverse p.rest.items) (plus (has p.at.context) x) y (plus_keeps (has p.at.context) x y h);
    more = x;
    there = sym (w.whole x) ∙ all_keeps (reverse p.rest.items) (plus (has p.at.context) x) x (plus_here (has p.at.context) x);
    lacking = w.path.0.lacks;
  }

  pub begun : (x : Member) (p q : Pending F) (key : KeyData) → key ≡ record { member = x; context = p.at.context }
      → q.at.member ≡ key.member → IsPending o.inclusion.over family (has key.context) q → IsBegun o.inclusion.over family x p q
  begun x p q key e is w = record {
    member = is ∙ ap (λ (k : KeyData). k.member) e;
    way = subst (λ (k : KeyData). IsPending o.inclusion.over family (has k.context) q) e w;
    smaller = λ T u. smaller T x p u;
  }

  -- ---- the end

  -- a pair without a rest has the only form of its member at its target, which is its context
  pub form_ended : (T : Member → Bool) (p : Pending F) → p.rest.items ≡ [] → IsPending o.inclusion.over family T p
      → IsOnlyFormAt o.inclusion.over family p.at.member T p.form × SameSet (has p.at.context) T
  form_ended T p e w =
      let ended : IsOnWay o.inclusion.over family p.at.member T (has p.at.context) p.form [] =
      subst (λ (l : List Member). IsOnWay o.inclusion.over family p.at.member T (has p.at.context) p.form (reverse l)) e w in
      (way_last deriving_of p.at.member T (has p.at.context) p.form ended, ended.whole)
