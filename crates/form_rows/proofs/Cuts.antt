-- A row, parted at one of its forms; what it says of the members that its set lacks.
use Rattle.std.proofs.Common.{◌≡◌, Bool, true, false, ◌⊎◌, inl, inr, List, [], ◌∷◌, ◌++◌, refl, sym, ap, subst, ◌∙◌}
use Rattle.std.specs.Prelude.{Option}
use Rattle.std.proofs.lemmas.Bool.{cases_Bool, both_ways}
use Rattle.op_name.specs.NameData.{NameData}
use Rattle.op_name.specs.declared.member.Member.{Member}
use Rattle.ttf_form.specs.Families.{IsIn}
use Rattle.transform_rec.specs.Sets.{plus, plus_all}
use Rattle.transform_rec.specs.Derived.{Deriving}
use Rattle.transform_rec.specs.Derived.Derived.{at_base, by_step}
use Rattle.transform_rec.proofs.CallerLemmas.{plus_cases, plus_same, all_same, form_moves}
use Rattle.form_rows.proofs.DerivedForms.{IsForm}
use Rattle.form_rows.specs.RowSets.{Inertness}
use Rattle.form_rows.proofs.Passing.{Row, same_known, row_moves, row_known, row_inert, row_cases}

module _ {F : Type 0} (d : Deriving F) (IsInert : F → Type 0) (n : Inertness d.inclusion.over IsInert) where
  -- what is before a form of the row, its member, and what is after it
  pub record IsCut (C : Member → Bool) (xs : List Member) (gs : List F) (f : F) (hs : List F) : Type 0 where
    pub before : List Member
    pub it : Member
    pub rest : List Member
    pub whole : xs ≡ before ++ (it ∷ rest)
    pub front : Row d IsInert n C before gs
    pub form : IsForm d it (plus_all C before) f
    pub kept : IsInert (d.family.form it) → ⊥
    pub back : Row d IsInert n (plus (plus_all C before) it) rest hs

  cut_known : (x : Member) (C : Member → Bool) (xs : List Member) (gs : List F) (f : F) (hs : List F) → C x ≡ true → IsCut C xs gs f hs
      → IsCut C (x ∷ xs) gs f hs
  cut_known x C xs gs f hs h c = record {
    before = x ∷ c.before;
    it = c.it;
    rest = c.rest;
    whole = ap (λ (l : List Member). x ∷ l) c.whole;
    front = row_known d IsInert n x C c.before gs h c.front;
    form = form_moves d c.it (plus_all C c.before) (plus_all (plus C x) c.before) f (all_same c.before C (plus C x) (same_known C x h))
        c.form;
    kept = c.kept;
    back = row_moves d IsInert n (plus (plus_all C c.before) c.it) (plus (plus_all (plus C x) c.before) c.it) c.rest hs
        (plus_same (plus_all C c.before) (plus_all (plus C x) c.before) c.it (all_same c.before C (plus C x) (same_known C x h))) c.back;
  }

  cut_inert : (x : Member) (C : Member → Bool) (xs : List Member) (gs : List F) (f : F) (hs : List F) (k : F) → IsInert (d.family.form x)
      → IsForm d x C k → IsCut (plus C x) xs gs f hs → IsCut C (x ∷ xs) gs f hs
  cut_inert x C xs gs f hs k i dk c = record {
    before = x ∷ c.before;
    it = c.it;
    rest = c.rest;
    whole = ap (λ (l : List Member). x ∷ l) c.whole;
    front = row_inert d IsInert n x C c.before gs k i dk c.front;
    form = c.form;
    kept = c.kept;
    back = c.back;
  }

  pub cut : (xs : List Member) (C : Member → Bool) (gs : List F) (f : F) (hs : List F) → Row d IsInert n C xs (gs ++ (f ∷ hs))
      → IsCut C xs gs f hs
  cut [] C [] f hs r = absurd r
  cut [] C (g ∷ gs) f hs r = absurd r
  cut (x ∷ xs) C [] f hs (inl a) = cut_known x C xs [] f hs a.0 (cut xs C [] f hs a.1)
  cut (x ∷ xs) C [] f hs (inr (inl q)) = cut_inert x C xs [] f hs q.0.1.0 q.0.0 q.0.1.1 (cut xs (plus C x) [] f hs q.1)
  cut (x ∷ xs) C [] f hs (inr (inr r)) =
      record { before = []; it = x; rest = xs; whole = refl; front = tt; form = r.0.1; kept = r.0.0; back = r.1 }
  cut (x ∷ xs) C (g ∷ gs) f hs (inl a) = cut_known x C xs (g ∷ gs) f hs a.0 (cut xs C (g ∷ gs) f hs a.1)
  cut (x ∷ xs) C (g ∷ gs) f hs (inr (inl q)) = cut_inert x C xs (g ∷ gs) f hs q.0.1.0 q.0.0 q.0.1.1 (cut xs (plus C x) (g ∷ gs) f hs q.1)
  cut (x ∷ xs) C (g ∷ gs) f hs (inr (inr r)) =
      let c = cut xs (plus C x) gs f hs r.1 in
      record {
        before = x ∷ c.before;
        it = c.it;
        rest = c.rest;
        whole = ap (λ (l : List Member). x ∷ l) c.whole;
        front =
            inr (inr (r.0, c.front));
        form = c.form;
        kept = c.kept;
        back = c.back;
      }

  module _ (named : F → Option NameData) (named_over : (a b : F) → named (d.inclusion.over a b) ≡ named a) where
    pub named_form : (x : Member) (C : Member → Bool) (f : F) → IsForm d x C f → named f ≡ named (d.family.form x)
    named_form x C f (at_base i s e) = ap named e
    named_form x C f (by_step D y g k i ne l s dg dk e) = ap named e ∙ (named_over g k ∙ named_form x D g dg)

    -- one of the forms is named as the member's
    pub record IsThere (z : Member) (fs : List F) : Type 0 where
      pub it : F
      pub there : IsIn it fs
      pub name : named it ≡ named (d.family.form z)
      pub kept : IsInert (d.family.form z) → ⊥

    here_or_later : (x : Member) (xs : List Member) (C : Member → Bool) (z : Member) → IsIn z (x ∷ xs) → C z ≡ false
        → (z ≡ x) ⊎ (IsIn z xs × (plus C x z ≡ false))
    here_or_later x xs C z (inl e) out = inl e
    here_or_later x xs C z (inr j) out =
        elim (cases_Bool (plus C x z)) [
          | inl t ↦ elim (plus_cases C x z t) [ inl c ↦ absurd (both_ways (C z) out c) | inr e ↦ inl (sym e) ]
          | inr o ↦ inr (j, o)
        ]

    -- a member of the list that the set lacks is inert, or has its form in the row
    pub lacked : (xs : List Member) (C : Member → Bool) (fs : List F) (z : Member) → Row d IsInert n C xs fs → IsIn z xs → C z ≡ false
        → IsInert (d.family.form z) ⊎ IsThere z fs
    lacked [] C fs z r i out = absurd i
    lacked (x ∷ xs) C fs z r i out =
        elim (row_cases d IsInert n x C xs fs r) [
          | inl a ↦ elim i [
            | inl e ↦ absurd (both_ways (C z) out (subst (λ (y : Member). C y ≡ true) (sym e) a.0))
            | inr j ↦
                lacked xs C fs z a.1 j out
          ]
          | inr (inl q) ↦ elim (here_or_later x xs C z i out) [
            | inl e ↦ inl (subst (λ (y : Member). IsInert (d.family.form y)) (sym e) q.0.0)
            | inr j ↦
                lacked xs (plus C x) fs z q.1 j.0 j.1
          ]
          | inr (inr k) ↦ elim (here_or_later x xs C z i out) [
            | inl e ↦ inr (record {
              it = k.first;
              there = subst (λ (l : List F). IsIn k.first l) (sym k.is) (inl refl);
              name = named_form x C k.first k.form ∙ ap (λ (y : Member). named (d.family.form y)) (sym e);
              kept = subst (λ (y : Member). IsInert (d.family.form y) → ⊥) (sym e) k.other;
            })
            | inr j ↦ elim (lacked xs (plus C x) k.rest z k.row j.0 j.1) [
              | inl h ↦ inl h
              | inr t ↦ inr (record {
                it = t.it;
                there = subst (λ (l : List F). IsIn t.it l) (sym k.is) (inr t.there);
                name = t.name;
                kept =
                    t.kept;
              })
            ]
          ]
        ]
