-- A derived form on its way from the base context to a greater set: what is known before each member of the difference is
-- included.
use Rattle.std.proofs.Common.{◌≡◌, ◌≢◌, suc, ◌+◌, ◌≤◌, Bool, true, false, not, ◌&&◌, List, [], ◌∷◌, filter, inl, inr, refl, sym, ap, subst, ◌∙◌, arith}
use Rattle.std.proofs.lemmas.Bool.{cases_Bool, both_ways, and_parts, and_from, not_from_false}
use Rattle.op_name.specs.declared.member.Member.{Member}
use Rattle.ttf_form.specs.Families.{total_by}
use Rattle.transform_rec.specs.Sets.{none, IsSubset, SameSet, plus, plus_all}
use Rattle.transform_rec.specs.Family.{Family, IsClosed, IsSound, size}
use Rattle.transform_rec.specs.Derived.{Derived, IsOnlyFormAt, Deriving}
use Rattle.transform_rec.specs.Derived.Derived.{at_base, by_step}
use Rattle.transform_rec.specs.Executing.{IsCausalFrom}
use Rattle.transform_rec.specs.Code.Pending.{IsOnWay}
use Rattle.transform_rec.proofs.Lists.{in_filter, filter_in}
use Rattle.transform_rec.proofs.Sets.{same_from, all_keeps, all_in, all_cases, sum_within, all_same}
use Rattle.transform_rec.proofs.Families.{base_sound, size_plus}
use Rattle.transform_rec.proofs.Forms.{form_moves, form_step, derived_room, exists}
use Rattle.transform_rec.proofs.Uniqueness.{only_form}
use Rattle.transform_rec.proofs.CausalLists.{causal_moves, causal_part, causal_rest}
use Rattle.transform_rec.proofs.CausalOrders.{book_run}

-- the members of T that C lacks, in the family's order
abbrev pub difference_in : List Member → (Member → Bool) → (Member → Bool) → List Member
difference_in ms C T = filter (λ y. T y && not (C y)) ms

filter_twice : (p q : Member → Bool) (xs : List Member) → filter (λ z. not (q z)) (filter p xs) ≡ filter (λ z. p z && not (q z)) xs
filter_twice p q [] = refl
filter_twice p q (x ∷ xs) =
    let ih = filter_twice p q xs in
    elim (cases_Bool (p x)) [
      | inl h ↦ elim (cases_Bool (q x)) [ inl k ↦ rw (h, k) ih | inr k ↦ rw (h, k) (ap (λ ys. x ∷ ys) ih) ]
      | inr h ↦
          rw h ih
    ]

-- inert forms change no form, and stay inert when others are included in them
pub record Inertness {F : Type 0} (over : F → F → F) (IsInert : F → Type 0) : Type 0 where
  pub law : (a b : F) → IsInert b → over a b ≡ a
  pub kept : (a b : F) → IsInert a → IsInert (over a b)

derived_inert : {F : Type 0} (over : F → F → F) (IsInert : F → Type 0) (b : Family F) → Inertness over IsInert
    → (m : Member) (C : Member → Bool) (f : F) → IsInert (b.form m) → Derived over b m C f → IsInert f
derived_inert over IsInert b n m C f h (at_base i s e) = subst IsInert (sym e) h
derived_inert over IsInert b n m C f h (by_step D x g k i ne l s dg dk e) =
    subst IsInert (sym e) (n.kept g k (derived_inert over IsInert b n m D g h dg))

module _ {F : Type 0} (d : Deriving F) where
  -- a difference of closed sets, in the family's order, may be added one member after the other
  pub difference_run : (C T : Member → Bool) → IsClosed d.family C → IsClosed d.family T → IsSubset C T
      → IsCausalFrom d.family C (difference_in d.family.members C T)
  difference_run C T c t h =
      let part =
      causal_part d.family T t.closed d.family.members none (λ z e. absurd (both_ways false refl e))
      (book_run d.family d.known.causal) in
      let rest =
      causal_rest d.family C (filter T d.family.members) none C c (λ z e. absurd (both_ways false refl e)) (λ z i e. e) (λ z i e. e)
      part in
      subst (λ (l : List Member). IsCausalFrom d.family C l) (filter_twice T C d.family.members) rest

  pub difference_whole : (C T : Member → Bool) → IsClosed d.family T → IsSubset C T
      → SameSet (plus_all C (difference_in d.family.members C T)) T
  difference_whole C T t h =
      same_from (plus_all C (difference_in d.family.members C T)) T
      (λ z e. elim (all_cases (difference_in d.family.members C T) C z e)
      [ inl a ↦ h z a | inr i ↦ (and_parts (T z) (not (C z)) (filter_in (λ y. T y && not (C y)) z d.family.members i).1).0 ])
      (λ z e. elim (cases_Bool (C z)) [
        | inl a ↦ all_keeps (difference_in d.family.members C T) C z a
        | inr a ↦
            all_in (difference_in d.family.members C T) C z
            (in_filter (λ y. T y && not (C y)) z d.family.members (t.listed z e) (and_from (T z) (not (C z)) e (not_from_false (C z) a)))
      ])

  -- at first the form is the base form
  pub way_first : (m : Member) (T C : Member → Bool) → IsSound d.family m T → SameSet C (d.family.context m)
      → IsOnWay d.inclusion.over d.family m T C (d.family.form m) (difference_in d.family.members C T)
  way_first m T C s h =
      let base = base_sound d.family d.known.causal m s.listed in
      let c : IsClosed d.family C =
      record { listed = λ x e. base.set.listed x (sym (h x) ∙ e); closed = λ x e z k. h z ∙ base.set.closed x (sym (h x) ∙ e) z k } in
      let within : IsSubset C T = λ (z : Member) (e : C z ≡ true). s.covers z (sym (h z) ∙ e) in
      record {
        derived = at_base s.listed h refl;
        path = difference_run C T c s.set within;
        whole =
            difference_whole C T s.set within;
        lacks = s.lacks;
      }

  -- the next member may be added, and is another than m
  pub way_sound : (m x : Member) (T C : Member → Bool) (f : F) (rest : List Member) → IsOnWay d.inclusion.over d.family m T C f (x ∷ rest)
      → IsSound d.family x C
  way_sound m x T C f rest w = w.path.0

  pub way_other : (m x : Member) (T C : Member → Bool) (f : F) (rest : List Member) → IsOnWay d.inclusion.over d.family m T C f (x ∷ rest)
      → m ≢ x
  way_other m x T C f rest w e =
      both_ways (T m) w.lacks (sym (w.whole m) ∙ all_in (x ∷ rest) C m (inl e))

  -- it is at a smaller set
  pub way_falls : (m x : Member) (T C : Member → Bool) (f : F) (rest : List Member) → IsOnWay d.inclusion.over d.family m T C f (x ∷ rest)
      → suc (size d.family C) ≤ size d.family T
  way_falls m x T C f rest w =
      let s = w.path.0 in
      let more = size_plus d.family d.known.causal x C s.listed s.lacks in
      let within : IsSubset (plus C x) T = λ (z : Member) (e : plus C x z ≡ true). sym (w.whole z) ∙ all_keeps rest (plus C x) z e in
      let less = sum_within (plus C x) T (λ y. 1) d.family.members within in
      omega arith

  -- and its form can be included
  pub way_room : (m x : Member) (T C : Member → Bool) (f k : F) (rest : List Member) → IsOnWay d.inclusion.over d.family m T C f (x ∷ rest)
      → Derived d.inclusion.over d.family x C k
      → d.inclusion.place f + d.inclusion.extent k ≤ total_by (λ y. d.inclusion.extent (d.family.form y)) d.family.members
  way_room m x T C f k rest w dk = derived_room d m x C f k w.derived dk

  pub way_next : (m x : Member) (T C E : Member → Bool) (f k : F) (rest : List Member) → SameSet E (plus C x)
      → IsOnWay d.inclusion.over d.family m T C f (x ∷ rest) → Derived d.inclusion.over d.family x C k
      → IsOnWay d.inclusion.over d.family m T E (d.inclusion.over f k) rest
  way_next m x T C E f k rest h w dk = record {
    derived =
        form_moves d m (plus C x) E (d.inclusion.over f k) (λ z. sym (h z))
        (form_step d m x C f k w.path.0 (way_other m x T C f rest w) w.derived dk);
    path = causal_moves d.family (plus C x) E rest (λ z. sym (h z)) w.path.1;
    whole = λ z. all_same rest E (plus C x) h z ∙ w.whole z;
    lacks = w.lacks;
  }

  -- an inert member may be added without its form
  pub way_pass : (IsInert : F → Type 0) → Inertness d.inclusion.over IsInert
      → (m x : Member) (T C E : Member → Bool) (f : F) (rest : List Member) → IsInert (d.family.form x) → SameSet E (plus C x)
      → IsOnWay d.inclusion.over d.family m T C f (x ∷ rest) → IsOnWay d.inclusion.over d.family m T E f rest
  way_pass IsInert n m x T C E f rest inert h w =
      let k = exists d x C w.path.0 in
      let same : d.inclusion.over f k.0 ≡ f = n.law f k.0 (derived_inert d.inclusion.over IsInert d.family n x C k.0 inert k.1) in
      subst (λ (g : F). IsOnWay d.inclusion.over d.family m T E g rest) same (way_next m x T C E f k.0 rest h w k.1)

  -- at last it is the only form of m at T
  pub way_last : (m : Member) (T C : Member → Bool) (f : F) → IsOnWay d.inclusion.over d.family m T C f []
      → IsOnlyFormAt d.inclusion.over d.family m T f
  way_last m T C f w = only_form d m T f (form_moves d m C T f w.whole w.derived)
