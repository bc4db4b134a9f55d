-- The first form of a row at the row's set.
use Rattle.std.proofs.Common.{◌≡◌, Bool, true, false, inl, inr, List, [], ◌∷◌, take, sym, ap, subst, ◌∙◌}
use Rattle.std.specs.Prelude.{Option, Some, None, IfSome, slice_get}
use Rattle.std.proofs.lemmas.Bool.{cases_Bool, both_ways}
use Rattle.std.proofs.lemmas.Option.{none-some, same_Some}
use Rattle.op_name.specs.NameData.{NameData}
use Rattle.op_name.specs.declared.member.Member.{Member}
use Rattle.op_name.specs.declared.member.Member.TheVariants.{Original}
use Rattle.ttf_form.specs.Families.{IsIn}
use Rattle.transform_rec.specs.Sets.{IsSubset, plus}
use Rattle.transform_rec.specs.Family.{IsClosed, IsSound}
use Rattle.transform_rec.specs.Derived.{Deriving}
use Rattle.transform_rec.proofs.CallerLemmas.{base_sound, closed_plus, derived_once, derived_sound, plus_cases, plus_keeps}
use Rattle.form_rows.proofs.DerivedForms.{IsForm}
use Rattle.form_rows.specs.Names.{AreNamed}
use Rattle.form_rows.specs.RowSets.{Inertness, RowData, IsRowAt}
use Rattle.form_rows.specs.Kept.{IsFormWith}
use Rattle.form_rows.proofs.Passing.{Row}
use Rattle.form_rows.proofs.Alike.{form_alike}
use Rattle.form_rows.proofs.Cuts.{named_form}

first_of : {F : Type 0} (fs : List F) (f : F) → slice_get fs 0 ≡ Some f → (gs : List F) × (fs ≡ f ∷ gs)
first_of [] f e = absurd (none-some f e)
first_of (g ∷ gs) f e = (gs, ap (λ x. x ∷ gs) (same_Some g f e))

module _ {F : Type 0} (d : Deriving F) (IsInert : F → Type 0) (n : Inertness d.inclusion.over IsInert) where
  -- a form of a member that isn't inert, at a set that has inert members alone beside those of C
  record IsFirstForm (C : Member → Bool) (f : F) : Type 0 where
    member : Member
    set : Member → Bool
    other : IsInert (d.family.form member) → ⊥
    form : IsForm d member set f
    holds : IsSubset C set
    inert : (z : Member) → set z ≡ true → C z ≡ false → IsInert (d.family.form z)

  first_form : (xs : List Member) (C : Member → Bool) (f : F) (fs : List F) → Row d IsInert n C xs (f ∷ fs) → IsFirstForm C f
  first_form [] C f fs r = absurd r
  first_form (x ∷ xs) C f fs (inl a) = first_form xs C f fs a.1
  first_form (x ∷ xs) C f fs (inr (inl q)) =
      let p = first_form xs (plus C x) f fs q.1 in
      record {
        member = p.member;
        set = p.set;
        other = p.other;
        form = p.form;
        holds = λ z i. p.holds z (plus_keeps C x z i);
        inert = λ z i o. elim (cases_Bool (plus C x z)) [
          | inl h ↦ elim (plus_cases C x z h) [
            | inl c ↦ absurd (both_ways (C z) o c)
            | inr e ↦ subst (λ (y : Member). IsInert (d.family.form y)) e q.0.0
          ]
          | inr h ↦ p.inert z i h
        ];
      }
  first_form (x ∷ xs) C f fs (inr (inr r)) =
      record { member = x; set = C; other = r.0.0; form = r.0.1; holds = λ z i. i; inert = λ z i o. absurd (both_ways (C z) o i) }

  at_set : (C : Member → Bool) (f : F) (p : IsFirstForm C f) → IsClosed d.family C → IsSubset (d.family.context p.member) C
      → IsForm d p.member C f
  at_set C f p closed within =
      let there = derived_sound d p.member p.set f p.form in
      let out : C p.member ≡ false =
      elim (cases_Bool (C p.member)) [ inl h ↦ absurd (both_ways (p.set p.member) there.lacks (p.holds p.member h)) | inr o ↦ o ] in
      let here : IsSound d.family p.member C = record { listed = there.listed; covers = within; set = closed; lacks = out } in
      form_alike d IsInert n p.member p.set C f (record { left = p.inert; right = λ z i o. absurd (both_ways (p.set z) o (p.holds z i)) })
      there here p.form

  -- the first form of the row of m's base context with m, where the context of its insert lies in that
  pub first_with : (named : F → Option NameData) → ((a b : F) → named (d.inclusion.over a b) ≡ named a) → AreNamed named IsInert d.family
      → (m : Member) (xs : List Member) (r : RowData F) (f : F) → IsIn m d.family.members
      → IsRowAt d.inclusion.over IsInert d.family (plus (d.family.context m) m) xs r → slice_get r.forms 0 ≡ Some f
      → IsFormWith d.inclusion.over named d.family m f
  first_with named named_over names m xs r f listed at e x is within =
      let C = plus (d.family.context m) m in
      let g = first_of r.forms f e in
      let p = first_form (take r.upto xs) C f g.0 (subst (λ (l : List F). Row d IsInert n C (take r.upto xs) l) g.1 at.row) in
      let there = derived_sound d p.member p.set f p.form in
      let s = names p.member there.listed p.other in
      let name : x ≡ s.name = same_Some x s.name (sym is ∙ (named_form d IsInert n named named_over p.member p.set f p.form ∙ s.says)) in
      let same : p.member ≡ Original x = s.is ∙ ap Original (sym name) in
      let closed = closed_plus d.family m (d.family.context m) (base_sound d.family d.known.causal m listed) in
      let made = at_set C f p closed (subst (λ (y : Member). IsSubset (d.family.context y) C) (sym same) within) in
      let it : IsForm d (Original x) C f = subst (λ (y : Member). IsForm d y C f) same made in
      (it, λ h dh. derived_once d (Original x) C h f dh it)

  pub first_if : (named : F → Option NameData) → ((a b : F) → named (d.inclusion.over a b) ≡ named a) → AreNamed named IsInert d.family
      → (m : Member) (xs : List Member) (r : RowData F) (a : Option F) → IsIn m d.family.members
      → IsRowAt d.inclusion.over IsInert d.family (plus (d.family.context m) m) xs r → a ≡ slice_get r.forms 0
      → IfSome a (IsFormWith d.inclusion.over named d.family m)
  first_if named named_over names m xs r None listed at e = tt
  first_if named named_over names m xs r (Some f) listed at e = first_with named named_over names m xs r f listed at (sym e)
