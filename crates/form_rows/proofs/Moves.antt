-- The members of a row that a set has are moved to its front and taken out, one after the other; then it is the row of that set.
use Rattle.std.proofs.Common.{◌≡◌, ◌≢◌, ◌≤◌, Bool, true, false, inl, inr, List, [], ◌∷◌, ◌++◌, if◌then◌else◌, refl, sym, ap, subst, ◌∙◌, append_assoc, append-nil}
use Rattle.std.specs.Prelude.{Option}
use Rattle.std.proofs.lemmas.Bool.{cases_Bool, both_ways, and_parts, or_cases}
use Rattle.op_name.specs.NameData.{NameData}
use Rattle.op_name.specs.declared.member.Member.{Member}
use Rattle.ttf_form.specs.Families.{IsIn, total_by}
use Rattle.transform_rec.specs.Sets.{none, IsSubset, meet, plus, plus_all}
use Rattle.transform_rec.specs.Family.{IsClosed, IsSound}
use Rattle.transform_rec.specs.Derived.{Deriving}
use Rattle.transform_rec.specs.Executing.{IsCausalFrom}
use Rattle.transform_rec.proofs.CallerLemmas.{lacks_from, plus_cases, all_keeps, all_in, all_cases, closed_plus, causal_listed, derived_sound}
use Rattle.form_rows.specs.RowSets.{row_after, front_of, taken_out, PassFits, TakingFits, Inertness}
use Rattle.form_rows.proofs.Passing.{Row, pass_fits, front_form, row_moved}
use Rattle.form_rows.proofs.Alike.{row_alike}
use Rattle.form_rows.proofs.Fronts.{front_set, front_ready}
use Rattle.form_rows.proofs.Cuts.{IsCut, cut, named_form, lacked}

module _ {F : Type 0} (d : Deriving F) (IsInert : F → Type 0) (n : Inertness d.inclusion.over IsInert) (back : F → F → F)
    (law : (a b : F) → d.inclusion.Apart a b → back (d.inclusion.over a b) b ≡ a)
    (named : F → Option NameData) (named_over : (a b : F) → named (d.inclusion.over a b) ≡ named a) (test : F → Bool)
    (test_over : (a b : F) → test (d.inclusion.over a b) ≡ test a) (B : Member → Bool) where
  abbrev AreOut : List F → Type 0
  AreOut fs = (f : F) → IsIn f fs → test f ≡ false

  out_after : (gs : List F) (g : F) → AreOut gs → AreOut (row_after d.inclusion.over g gs)
  out_after [] g o f i = absurd i
  out_after (k ∷ ks) g o f (inl e) = ap test e ∙ (test_over k g ∙ o k (inl refl))
  out_after (k ∷ ks) g o f (inr i) = out_after ks (d.inclusion.over g k) (λ h j. o h (inr j)) f i

  out_push : (gs : List F) (f : F) → AreOut gs → test f ≡ false → AreOut (gs ++ f ∷ [])
  out_push [] f o h z (inl e) = ap test e ∙ h
  out_push [] f o h z (inr i) = absurd i
  out_push (k ∷ ks) f o h z (inl e) = o z (inl e)
  out_push (k ∷ ks) f o h z (inr i) = out_push ks f (λ w j. o w (inr j)) h z i

  -- the members of C that B lacks are inert
  abbrev pub IsNear : (Member → Bool) → Type 0
  IsNear C = (z : Member) → C z ≡ true → B z ≡ false → IsInert (d.family.form z)

  -- the first members of the family, all of whose forms that aren't inert say by their names which member they are of, and whether B has it
  pub record IsNaming (xs more : List Member) : Type 0 where
    pub whole : d.family.members ≡ xs ++ more
    pub run : IsCausalFrom d.family none xs
    pub closed : IsClosed d.family B
    pub tests : (x : Member) (f : F) → IsIn x d.family.members → (IsInert (d.family.form x) → ⊥) → named f ≡ named (d.family.form x)
        → test f ≡ B x
    pub once : (x y : Member) → IsIn x d.family.members → IsIn y d.family.members → (IsInert (d.family.form x) → ⊥)
        → (IsInert (d.family.form y) → ⊥) → named (d.family.form x) ≡ named (d.family.form y) → x ≡ y
    pub room : total_by (λ y. d.inclusion.extent (d.family.form y)) d.family.members ≤ 4294967295

  -- a closed set with its row, none of whose forms is of a member of B
  pub record IsTaken (xs : List Member) (fs : List F) : Type 0 where
    pub set : Member → Bool
    pub closed : IsClosed d.family set
    pub near : IsNear set
    pub row : Row d IsInert n set xs fs
    pub out : AreOut fs

  -- a closed set with the row of another after one form was moved
  record IsMoved (xs : List Member) (gs : List F) (f : F) (fs : List F) : Type 0 where
    set : Member → Bool
    closed : IsClosed d.family set
    near : IsNear set
    row : Row d IsInert n set xs (row_after d.inclusion.over (front_of back f gs) gs ++ fs)
    fits : PassFits d.inclusion.over d.inclusion.place d.inclusion.extent (front_of back f gs) gs

  module _ (xs more : List Member) (w : IsNaming xs more) where
    -- a member before the first one of B that the row has is inert, if it is one of B and the set lacks it
    inert_before : (C : Member → Bool) (before : List Member) (gs : List F) → Row d IsInert n C before gs
        → ((z : Member) → IsIn z before → IsIn z d.family.members) → AreOut gs
        → (z : Member) → IsIn z before → B z ≡ true → C z ≡ false → IsInert (d.family.form z)
    inert_before C before gs r listed out z i bz cz =
        elim (lacked d IsInert n named named_over before C gs z r i cz) [
          | inl h ↦ h
          | inr t ↦ absurd (both_ways (B z) (sym (w.tests z t.it (listed z i) t.kept t.name) ∙ out t.it t.there) bz)
        ]

    moved : (C : Member → Bool) (gs : List F) (f : F) (fs : List F) → IsClosed d.family C → IsNear C → Row d IsInert n C xs (gs ++ (f ∷ fs))
        → AreOut gs → test f ≡ true → IsMoved xs gs f fs
    moved C gs f fs c near r out hit =
        let one : IsCut d IsInert n C xs gs f fs = cut d IsInert n xs C gs f fs r in
        let y : Member = one.it in
        let s = derived_sound d y (plus_all C one.before) f one.form in
        let here : B y ≡ true =
        sym (w.tests y f s.listed one.kept (named_form d IsInert n named named_over y (plus_all C one.before) f one.form)) ∙ hit in
        let gone : C y ≡ false = lacks_from C (plus_all C one.before) y (all_keeps one.before C) s.lacks in
        let whole : d.family.members ≡ one.before ++ (y ∷ (one.rest ++ more)) =
        w.whole ∙ (ap (λ (l : List Member). l ++ more) one.whole ∙ append_assoc one.before (y ∷ one.rest) more) in
        let listed : (z : Member) → IsIn z one.before → IsIn z d.family.members = λ z i. (s.set.listed z (all_in one.before C z i)) in
        let ready =
        front_ready d IsInert n B C one.before (one.rest ++ more) y whole w.closed c here gone
        (inert_before C one.before gs one.front listed out) in
        let E : Member → Bool = front_set d IsInert n C B one.before in
        let at_e : Row d IsInert n E xs (gs ++ (f ∷ fs)) = row_alike d IsInert n xs none C E (gs ++ (f ∷ fs))
        (record {
          path = w.run;
          left = λ z h. absurd (both_ways false refl h);
          right = λ z h. absurd (both_ways false refl h);
          one =
              c;
          other = ready.1.set;
          alike = ready.0;
        }) r in
        let two : IsCut d IsInert n E xs gs f fs = cut d IsInert n xs E gs f fs at_e in
        let t = derived_sound d two.it (plus_all E two.before) f two.form in
        let same : two.it ≡ y = w.once two.it y t.listed s.listed two.kept one.kept
        (sym (named_form d IsInert n named named_over two.it (plus_all E two.before) f two.form)
        ∙ named_form d IsInert n named named_over y (plus_all C one.before) f one.form) in
        let sound : IsSound d.family two.it E = subst (λ (z : Member). IsSound d.family z E) (sym same) ready.1 in
        let ne : (z : Member) → IsIn z two.before → two.it ≢ z =
        λ z i e. both_ways (plus_all E two.before two.it) t.lacks
        (subst (λ (v : Member). plus_all E two.before v ≡ true) (sym e) (all_in two.before E z i)) in
        let row = row_moved d IsInert n back law two.it two.before two.rest E f gs fs ne sound two.form two.front two.back in
        record {
          set = plus E two.it;
          closed = closed_plus d.family two.it E sound;
          near = λ z h o. elim (plus_cases E two.it z h) [
            | inl e ↦ elim (or_cases (C z) (meet B (plus_all none one.before) z) e)
                [ inl a ↦ near z a o | inr a ↦ absurd (both_ways (B z) o (and_parts (B z) (plus_all none one.before z) a).0) ]
            | inr e ↦ absurd (both_ways (B z) o (subst (λ (v : Member). B v ≡ true) (sym same ∙ e) here))
          ];
          row = subst (λ (l : List Member). Row d IsInert n (plus E two.it) l (row_after d.inclusion.over (front_of back f gs) gs ++ fs))
              (sym two.whole) row;
          fits = pass_fits d IsInert n two.it two.before E (front_of back f gs) gs w.room ne
              (front_form d IsInert n back law two.it two.before E f gs ne sound two.form two.front) two.front;
        }

    -- what is left of a row, and that each inclusion on the way fits
    pub taken : (fs gs : List F) (C : Member → Bool) → IsClosed d.family C → IsNear C → Row d IsInert n C xs (gs ++ fs) → AreOut gs
        → IsTaken xs (taken_out d.inclusion.over back test gs fs)
        × TakingFits d.inclusion.over back d.inclusion.place d.inclusion.extent test gs fs
    taken [] gs C c near r out =
        (record { set = C; closed = c; near = near; row = subst (λ (l : List F). Row d IsInert n C xs l) (append-nil gs) r; out = out }, tt)
    taken (f ∷ fs) gs C c near r out =
        let hits : List F = row_after d.inclusion.over (front_of back f gs) gs in
        elim (cases_Bool (test f)) [
          | inl h ↦ let m = moved C gs f fs c near r out h in
              let more = taken fs hits m.set m.closed m.near m.row (out_after gs (front_of back f gs) out) in (
                subst (λ (t : Bool). IsTaken xs
                    (if t then taken_out d.inclusion.over back test hits fs else taken_out d.inclusion.over back test (gs ++ f ∷ []) fs))
                    (sym h) more.0,
                ((λ e. (m.fits, more.1)), (λ e. absurd (both_ways (test f) e h))),
              )
          | inr h ↦ let more =
              taken fs (gs ++ f ∷ []) C c near (subst (λ (l : List F). Row d IsInert n C xs l) (sym (append_assoc gs (f ∷ []) fs)) r)
              (out_push gs f out h) in (
                subst (λ (t : Bool). IsTaken xs
                    (if t then taken_out d.inclusion.over back test hits fs else taken_out d.inclusion.over back test (gs ++ f ∷ []) fs))
                    (sym h) more.0,
                ((λ e. absurd (both_ways (test f) h e)), (λ e. more.1)),
              )
        ]

    -- a row without forms of members of B, which are among the list, is that of B
    pub taken_row : (fs : List F) → IsSubset B (plus_all none xs) → IsTaken xs fs → Row d IsInert n B xs fs
    taken_row fs within t =
        row_alike d IsInert n xs none t.set B fs
        (record {
          path = w.run;
          left = λ z h. absurd (both_ways false refl h);
          right = λ z h. absurd (both_ways false refl h);
          one = t.closed;
          other = w.closed;
          alike = record {
            left = t.near;
            right = λ z bz o. elim (all_cases xs none z (within z bz)) [
              | inl e ↦ absurd (both_ways false refl e)
              | inr i ↦ inert_before t.set xs fs t.row (λ v j. causal_listed d.family xs none v w.run j) t.out z i bz o
            ];
          };
        }) t.row
