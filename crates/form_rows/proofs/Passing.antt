-- What a pass over a row gives, appending, the row of a prefix, moving a member to the front, and following.
use Rattle.std.proofs.Common.{◌≡◌, ◌≢◌, ◌≤◌, Bool, true, false, ◌⊎◌, inl, inr, List, [], ◌∷◌, ◌++◌, if◌then◌else◌, refl, sym, ap, subst, ◌∙◌, arith}
use Rattle.std.proofs.lemmas.Bool.{cases_Bool}
use Rattle.op_name.specs.declared.member.Member.{Member}
use Rattle.ttf_form.specs.Families.{IsIn, total_by}
use Rattle.transform_rec.specs.Sets.{SameSet, plus, plus_all}
use Rattle.transform_rec.specs.Family.{IsSound}
use Rattle.transform_rec.specs.Derived.{Deriving}
use Rattle.transform_rec.specs.Derived.Derived.{at_base, by_step}
use Rattle.transform_rec.specs.Executing.{AreFormsFrom}
use Rattle.transform_rec.proofs.CallerLemmas.{same_set, same_from, plus_here, plus_keeps, plus_parts, plus_swap, plus_same, plus_within, all_keeps, all_same, form_moves, form_step, derived_sound, derived_room, forms_apart, exists, derived_once}
use Rattle.form_rows.proofs.DerivedForms.{IsForm}
use Rattle.form_rows.specs.RowSets.{form_after, row_after, front_of, without, PassFits, Inertness, IsRow}

-- a member of a set adds nothing to it
pub same_known : (C : Member → Bool) (x : Member) → C x ≡ true → SameSet C (plus C x)
same_known C x h = same_from C (plus C x) (plus_keeps C x) (plus_within C C x (λ z i. i) h)

-- a member may be added before a list or behind it
all_plus : (xs : List Member) (C : Member → Bool) (y : Member) → SameSet (plus_all (plus C y) xs) (plus (plus_all C xs) y)
all_plus [] C y z = refl
all_plus (x ∷ xs) C y z = all_same xs (plus (plus C y) x) (plus (plus C x) y) (plus_swap C y x) z ∙ all_plus xs (plus C x) y z

module _ {F : Type 0} (d : Deriving F) where
  -- ---- following

  -- a member whose base context is that of m with m, and whose base form follows m's, has at each set with m the form that follows m's
  pub follow_form : (follow : F → F)
      → ((f k : F) → d.inclusion.Apart f k → d.inclusion.over (follow f) (d.inclusion.over k f) ≡ follow (d.inclusion.over f k))
      → (m x : Member) → IsIn x d.family.members → SameSet (d.family.context x) (plus (d.family.context m) m)
      → d.family.form x ≡ follow (d.family.form m)
      → (C : Member → Bool) (f : F) → C x ≡ false → IsForm d m C f → IsForm d x (plus C m) (follow f)
  follow_form follow law m x listed base form C f out (at_base i s e) =
      at_base listed (λ z. plus_same C (d.family.context m) m s z ∙ sym (base z)) (ap follow e ∙ sym form)
  follow_form follow law m x listed base form C f out (by_step D y g k i ne l s dg dk e) =
      let parts = plus_parts D y x (sym (s x) ∙ out) in
      let sm = derived_sound d m D g dg in
      let before : IsForm d x (plus D m) (follow g) = follow_form follow law m x listed base form D g parts.0 dg in
      let other : IsForm d y (plus D m) (d.inclusion.over k g) = form_step d y m D k g sm (λ p. ne (sym p)) dk dg in
      let step =
      form_step d x y (plus D m) (follow g) (d.inclusion.over k g) (derived_sound d y (plus D m) (d.inclusion.over k g) other)
      (λ p. parts.1 (sym p)) before other in
      let same : d.inclusion.over (follow g) (d.inclusion.over k g) ≡ follow f =
      law g k (forms_apart d m y D g k ne dg dk) ∙ ap follow (sym e) in
      let set : SameSet (plus (plus D m) y) (plus C m) = λ (z : Member). plus_swap D m y z ∙ sym (plus_same C (plus D y) m s z) in
      form_moves d x (plus (plus D m) y) (plus C m) (follow f) set (subst (λ (h : F). IsForm d x (plus (plus D m) y) h) same step)

  module _ (IsInert : F → Type 0) (n : Inertness d.inclusion.over IsInert) where
    abbrev pub Row : (Member → Bool) → List Member → List F → Type 0
    Row C xs fs = IsRow d.inclusion.over IsInert d.family C xs fs

    pub row_moves : (C D : Member → Bool) (xs : List Member) (fs : List F) → SameSet C D → Row C xs fs → Row D xs fs
    row_moves C D xs fs h r = subst (λ (E : Member → Bool). Row E xs fs) (same_set C D h) r

    pub derived_inert : (m : Member) (C : Member → Bool) (f : F) → IsInert (d.family.form m) → IsForm d m C f → IsInert f
    derived_inert m C f h (at_base i s e) = subst IsInert (sym e) h
    derived_inert m C f h (by_step D x g k i ne l s dg dk e) = subst IsInert (sym e) (n.kept g k (derived_inert m D g h dg))

    pub inert_derived : (m : Member) (C : Member → Bool) (f : F) → IsInert f → IsForm d m C f → IsInert (d.family.form m)
    inert_derived m C f h (at_base i s e) = subst IsInert e h
    inert_derived m C f h (by_step D x g k i ne l s dg dk e) = inert_derived m D g (n.back g k (subst IsInert e h)) dg

    -- an inert member more leaves a form
    pub inert_more : (m x : Member) (C : Member → Bool) (f k : F) → m ≢ x → IsInert (d.family.form x) → IsForm d x C k → IsForm d m C f
        → IsForm d m (plus C x) f
    inert_more m x C f k ne i dk df =
        subst (λ (g : F). IsForm d m (plus C x) g) (n.law f k (derived_inert x C k i dk))
        (form_step d m x C f k (derived_sound d x C k dk) ne df dk)

    -- ---- the pass

    -- the form of m behind the list, and the row of the set with m
    pub record Passed (m : Member) (C : Member → Bool) (xs : List Member) (f : F) (gs : List F) : Type 0 where
      pub form : IsForm d m (plus_all C xs) f
      pub row : Row (plus C m) xs gs

    pub row_known : (x : Member) (C : Member → Bool) (xs : List Member) (gs : List F) → C x ≡ true → Row C xs gs → Row C (x ∷ xs) gs
    row_known x C xs [] h r = inl (h, r)
    row_known x C xs (g ∷ gs) h r = inl (h, r)

    passed_known : (m x : Member) (C : Member → Bool) (xs : List Member) (f : F) (gs : List F) → C x ≡ true → Passed m C xs f gs
        → Passed m C (x ∷ xs) f gs
    passed_known m x C xs f gs h p = record {
      form = form_moves d m (plus_all C xs) (plus_all (plus C x) xs) f (all_same xs C (plus C x) (same_known C x h)) p.form;
      row = row_known x (plus C m) xs gs (plus_keeps C m x h) p.row;
    }

    pub row_inert : (x : Member) (C : Member → Bool) (xs : List Member) (gs : List F) (k : F) → IsInert (d.family.form x) → IsForm d x C k
        → Row (plus C x) xs gs → Row C (x ∷ xs) gs
    row_inert x C xs [] k i dk r = inr ((i, (k, dk)), r)
    row_inert x C xs (g ∷ gs) k i dk r = inr (inl ((i, (k, dk)), r))

    -- what stands first in the list: a member of C, an inert one, or one whose form is the first of the row
    pub record IsFirst (C : Member → Bool) (x : Member) (xs : List Member) (fs : List F) : Type 0 where
      pub first : F
      pub rest : List F
      pub is : fs ≡ first ∷ rest
      pub other : IsInert (d.family.form x) → ⊥
      pub form : IsForm d x C first
      pub row : Row (plus C x) xs rest

    pub row_cases : (x : Member) (C : Member → Bool) (xs : List Member) (fs : List F) → Row C (x ∷ xs) fs
        → ((C x ≡ true) × Row C xs fs) ⊎ (((IsInert (d.family.form x) × ((k : F) × IsForm d x C k)) × Row (plus C x) xs fs)
        ⊎ IsFirst C x xs fs)
    row_cases x C xs [] (inl a) = inl a
    row_cases x C xs [] (inr q) = inr (inl q)
    row_cases x C xs (f ∷ fs) (inl a) = inl a
    row_cases x C xs (f ∷ fs) (inr (inl q)) = inr (inl q)
    row_cases x C xs (f ∷ fs) (inr (inr r)) = inr (inr (record { first = f; rest = fs; is = refl; other = r.0.0; form = r.0.1; row = r.1 }))

    passed_inert : (m x : Member) (C : Member → Bool) (xs : List Member) (f h k : F) (gs : List F) → m ≢ x → IsForm d m C f
        → IsInert (d.family.form x) → IsForm d x C k → Passed m (plus C x) xs h gs → Passed m C (x ∷ xs) h gs
    passed_inert m x C xs f h k gs ne df i dk p = record {
      form = p.form;
      row = row_inert x (plus C m) xs gs (d.inclusion.over k f) i (form_step d x m C k f (derived_sound d m C f df) (λ e. ne (sym e)) dk df)
          (row_moves (plus (plus C x) m) (plus (plus C m) x) xs gs (plus_swap C x m) p.row);
    }

    passed_kept : (m x : Member) (C : Member → Bool) (xs : List Member) (f h k : F) (gs : List F) → m ≢ x → IsForm d m C f
        → (IsInert (d.family.form x) → ⊥) → IsForm d x C k → Passed m (plus C x) xs h gs → Passed m C (x ∷ xs) h (d.inclusion.over k f ∷ gs)
    passed_kept m x C xs f h k gs ne df i dk p = record {
      form = p.form;
      row = inr (inr (
        (i, form_step d x m C k f (derived_sound d m C f df) (λ e. ne (sym e)) dk df),
        row_moves (plus (plus C x) m) (plus (plus C m) x) xs gs (plus_swap C x m) p.row,
      ));
    }

    pub pass_row : (m : Member) (xs : List Member) (C : Member → Bool) (f : F) (fs : List F) → ((z : Member) → IsIn z xs → m ≢ z)
        → IsForm d m C f → Row C xs fs
        → Passed m C xs (form_after d.inclusion.over f fs) (row_after d.inclusion.over f fs)
    pass_row m [] C f [] ne df r = record { form = df; row = tt }
    pass_row m [] C f (k ∷ ks) ne df r = absurd r
    pass_row m (x ∷ xs) C f [] ne df (inl a) = passed_known m x C xs f [] a.0 (pass_row m xs C f [] (λ z i. ne z (inr i)) df a.1)
    pass_row m (x ∷ xs) C f [] ne df (inr q) =
        passed_inert m x C xs f f q.0.1.0 [] (ne x (inl refl)) df q.0.0 q.0.1.1
        (pass_row m xs (plus C x) f [] (λ z i. ne z (inr i)) (inert_more m x C f q.0.1.0 (ne x (inl refl)) q.0.0 q.0.1.1 df) q.1)
    pass_row m (x ∷ xs) C f (k ∷ ks) ne df (inl a) =
        passed_known m x C xs (form_after d.inclusion.over f (k ∷ ks)) (row_after d.inclusion.over f (k ∷ ks)) a.0
        (pass_row m xs C f (k ∷ ks) (λ z i. ne z (inr i)) df a.1)
    pass_row m (x ∷ xs) C f (k ∷ ks) ne df (inr (inl q)) =
        passed_inert m x C xs f (form_after d.inclusion.over f (k ∷ ks)) q.0.1.0 (row_after d.inclusion.over f (k ∷ ks)) (ne x (inl refl))
        df q.0.0 q.0.1.1
        (pass_row m xs (plus C x) f (k ∷ ks) (λ z i. ne z (inr i)) (inert_more m x C f q.0.1.0 (ne x (inl refl)) q.0.0 q.0.1.1 df) q.1)
    pass_row m (x ∷ xs) C f (k ∷ ks) ne df (inr (inr r)) =
        passed_kept m x C xs f (form_after d.inclusion.over (d.inclusion.over f k) ks) k
        (row_after d.inclusion.over (d.inclusion.over f k) ks) (ne x (inl refl)) df r.0.0 r.0.1
        (pass_row m xs (plus C x) (d.inclusion.over f k) ks (λ z i. ne z (inr i))
        (form_step d m x C f k (derived_sound d x C k r.0.1) (ne x (inl refl)) df r.0.1) r.1)

    -- each inclusion of the pass fits
    pub pass_fits : (m : Member) (xs : List Member) (C : Member → Bool) (f : F) (fs : List F)
        → total_by (λ y. d.inclusion.extent (d.family.form y)) d.family.members ≤ 4294967295
        → ((z : Member) → IsIn z xs → m ≢ z) → IsForm d m C f → Row C xs fs
        → PassFits d.inclusion.over d.inclusion.place d.inclusion.extent f fs
    pass_fits m [] C f [] le ne df r = tt
    pass_fits m [] C f (k ∷ ks) le ne df r = absurd r
    pass_fits m (x ∷ xs) C f [] le ne df r = tt
    pass_fits m (x ∷ xs) C f (k ∷ ks) le ne df (inl a) = pass_fits m xs C f (k ∷ ks) le (λ z i. ne z (inr i)) df a.1
    pass_fits m (x ∷ xs) C f (k ∷ ks) le ne df (inr (inl q)) =
        pass_fits m xs (plus C x) f (k ∷ ks) le (λ z i. ne z (inr i)) (inert_more m x C f q.0.1.0 (ne x (inl refl)) q.0.0 q.0.1.1 df) q.1
    pass_fits m (x ∷ xs) C f (k ∷ ks) le ne df (inr (inr r)) =
        let one = derived_room d m x C f k df r.0.1 in
        let two = derived_room d x m C k f r.0.1 df in (
          omega arith,
          (
            omega arith,
            pass_fits m xs (plus C x) (d.inclusion.over f k) ks le (λ z i. ne z (inr i))
                (form_step d m x C f k (derived_sound d x C k r.0.1) (ne x (inl refl)) df r.0.1) r.1,
          ),
        )

    -- ---- appending

    -- two rows, the second behind the first
    pub row_join : (xs ys : List Member) (C : Member → Bool) (fs gs : List F) → Row C xs fs → Row (plus_all C xs) ys gs
        → Row C (xs ++ ys) (fs ++ gs)
    row_join [] ys C [] gs r q = q
    row_join [] ys C (f ∷ fs) gs r q = absurd r
    row_join (x ∷ xs) ys C [] gs (inl a) q =
        row_known x C (xs ++ ys) gs a.0
        (row_join xs ys C [] gs a.1 (row_moves (plus_all (plus C x) xs) (plus_all C xs) ys gs
        (λ z. sym (all_same xs C (plus C x) (same_known C x a.0) z)) q))
    row_join (x ∷ xs) ys C [] gs (inr p) q = row_inert x C (xs ++ ys) gs p.0.1.0 p.0.0 p.0.1.1 (row_join xs ys (plus C x) [] gs p.1 q)
    row_join (x ∷ xs) ys C (f ∷ fs) gs (inl a) q =
        inl (
          a.0,
          row_join xs ys C (f ∷ fs) gs a.1
              (row_moves (plus_all (plus C x) xs) (plus_all C xs) ys gs (λ z. sym (all_same xs C (plus C x) (same_known C x a.0) z)) q),
        )
    row_join (x ∷ xs) ys C (f ∷ fs) gs (inr (inl p)) q = inr (inl (p.0, row_join xs ys (plus C x) (f ∷ fs) gs p.1 q))
    row_join (x ∷ xs) ys C (f ∷ fs) gs (inr (inr p)) q = inr (inr (p.0, row_join xs ys (plus C x) fs gs p.1 q))

    -- a member that was executed behind the list
    pub append_kept : (x : Member) (xs : List Member) (C : Member → Bool) (f : F) (fs : List F) → (IsInert (d.family.form x) → ⊥)
        → IsForm d x (plus_all C xs) f → Row C xs fs → Row C (xs ++ x ∷ []) (fs ++ f ∷ [])
    append_kept x xs C f fs i df r = row_join xs (x ∷ []) C fs (f ∷ []) r (inr (inr ((i, df), tt)))

    -- ---- the row of a prefix

    -- forms that were executed one after the other, without the inert ones
    pub executed_row : (test : F → Bool) → ((f : F) → test f ≡ true → IsInert f) → ((f : F) → test f ≡ false → IsInert f → ⊥)
        → (xs : List Member) (C : Member → Bool) (fs : List F)
        → AreFormsFrom d.inclusion.over d.family C xs fs → (gs : List F) → gs ≡ without test fs → Row C xs gs
    executed_row test told other [] C [] r gs e = subst (λ (l : List F). Row C [] l) (sym e) tt
    executed_row test told other [] C (f ∷ fs) r gs e = absurd r
    executed_row test told other (x ∷ xs) C [] r gs e = absurd r
    executed_row test told other (x ∷ xs) C (f ∷ fs) r gs e =
        elim (cases_Bool (test f)) [
          | inl h ↦ let tail : gs ≡ without test fs = e ∙ ap (λ (t : Bool). if t then without test fs else f ∷ without test fs) h in
              row_inert x C xs gs f (inert_derived x C f (told f h) r.0) r.0 (executed_row test told other xs (plus C x) fs r.1 gs tail)
          | inr h ↦ let tail : gs ≡ f ∷ without test fs = e ∙ ap (λ (t : Bool). if t then without test fs else f ∷ without test fs) h in
              subst (λ (l : List F). Row C (x ∷ xs) l) (sym tail)
              (inr (inr (
                ((λ i. other f h (derived_inert x C f i r.0)), r.0),
                executed_row test told other xs (plus C x) fs r.1 (without test fs) refl,
              )))
        ]

    -- ---- to the front

    pub front_after : (back : F → F → F) → ((a b : F) → d.inclusion.Apart a b → back (d.inclusion.over a b) b ≡ a)
        → (y : Member) (xs : List Member) (C : Member → Bool) (g : F) (fs : List F)
        → ((z : Member) → IsIn z xs → y ≢ z) → IsForm d y C g → Row C xs fs → front_of back (form_after d.inclusion.over g fs) fs ≡ g
    front_after back law y [] C g [] ne dg r = refl
    front_after back law y [] C g (k ∷ ks) ne dg r = absurd r
    front_after back law y (x ∷ xs) C g [] ne dg r = refl
    front_after back law y (x ∷ xs) C g (k ∷ ks) ne dg (inl a) = front_after back law y xs C g (k ∷ ks) (λ z i. ne z (inr i)) dg a.1
    front_after back law y (x ∷ xs) C g (k ∷ ks) ne dg (inr (inl q)) =
        front_after back law y xs (plus C x) g (k ∷ ks) (λ z i. ne z (inr i))
        (inert_more y x C g q.0.1.0 (ne x (inl refl)) q.0.0 q.0.1.1 dg) q.1
    front_after back law y (x ∷ xs) C g (k ∷ ks) ne dg (inr (inr r)) =
        let step = form_step d y x C g k (derived_sound d x C k r.0.1) (ne x (inl refl)) dg r.0.1 in
        let ih = front_after back law y xs (plus C x) (d.inclusion.over g k) ks (λ z i. ne z (inr i)) step r.1 in
        ap (λ (h : F). back h k) ih ∙ law g k (forms_apart d y x C g k (ne x (inl refl)) dg r.0.1)

    -- the form in front of the list of a member that may be added there, out of its form behind it
    pub front_form : (back : F → F → F) → ((a b : F) → d.inclusion.Apart a b → back (d.inclusion.over a b) b ≡ a)
        → (y : Member) (xs : List Member) (C : Member → Bool) (f : F) (fs : List F)
        → ((z : Member) → IsIn z xs → y ≢ z) → IsSound d.family y C → IsForm d y (plus_all C xs) f → Row C xs fs
        → IsForm d y C (front_of back f fs)
    front_form back law y xs C f fs ne s df r =
        let g = exists d y C s in
        let p = pass_row y xs C g.0 fs ne g.1 r in
        let same : f ≡ form_after d.inclusion.over g.0 fs =
        derived_once d y (plus_all C xs) f (form_after d.inclusion.over g.0 fs) df p.form in
        let is : front_of back f fs ≡ g.0 = ap (λ (h : F). front_of back h fs) same ∙ front_after back law y xs C g.0 fs ne g.1 r in
        subst (λ (h : F). IsForm d y C h) (sym is) g.1

    -- the row of C with y, a member that stands behind the list: what is before it is brought over its form in front
    pub row_moved : (back : F → F → F) → ((a b : F) → d.inclusion.Apart a b → back (d.inclusion.over a b) b ≡ a)
        → (y : Member) (xs ys : List Member) (C : Member → Bool) (f : F) (fs gs : List F)
        → ((z : Member) → IsIn z xs → y ≢ z) → IsSound d.family y C → IsForm d y (plus_all C xs) f → Row C xs fs
        → Row (plus (plus_all C xs) y) ys gs
        → Row (plus C y) (xs ++ (y ∷ ys)) (row_after d.inclusion.over (front_of back f fs) fs ++ gs)
    row_moved back law y xs ys C f fs gs ne s df r q =
        let p = pass_row y xs C (front_of back f fs) fs ne (front_form back law y xs C f fs ne s df r) r in
        let here : plus_all (plus C y) xs y ≡ true = all_keeps xs (plus C y) y (plus_here C y) in
        let tail = row_moves (plus (plus_all C xs) y) (plus_all (plus C y) xs) ys gs (λ z. sym (all_plus xs C y z)) q in
        row_join xs (y ∷ ys) (plus C y) (row_after d.inclusion.over (front_of back f fs) fs) gs p.row
        (row_known y (plus_all (plus C y) xs) ys gs here tail)
