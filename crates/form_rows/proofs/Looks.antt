-- A row that looks at the forms executed since, and a row after the execution of a member.
use Rattle.std.proofs.Common.{◌≡◌, ◌≢◌, ℕ, ◌+◌, ◌<◌, ◌≤◌, Bool, true, false, inl, inr, List, [], ◌∷◌, ◌++◌, length, get_or, take, drop, refl, sym, ap, subst, ◌∙◌, arith, append_assoc, append-nil, length-append}
use Rattle.std.proofs.lemmas.Bool.{both_ways}
use Rattle.std.proofs.lemmas.List.{drop_more, drop_all, take-append-drop, take_all}
use Rattle.op_name.specs.declared.member.Member.{Member}
use Rattle.ttf_form.specs.Families.{IsIn, total_by}
use Rattle.transform_rec.specs.Sets.{none, IsSubset, SameSet, plus, plus_all}
use Rattle.transform_rec.specs.Derived.{Deriving}
use Rattle.transform_rec.specs.Derived.Derived.{at_base}
use Rattle.transform_rec.specs.Executing.{AreFormsFrom}
use Rattle.transform_rec.proofs.CallerLemmas.{in_right, same_from, plus_here, plus_keeps, plus_cases, all_keeps, all_in, all_cases, all-append, form_moves}
use Rattle.form_rows.proofs.DerivedForms.{IsForm}
use Rattle.form_rows.specs.RowSets.{form_after, row_after, PassFits, Inertness, IsKept, IsAdded, RowData, IsRowAt, IsReady}
use Rattle.form_rows.proofs.Passing.{Row, row_moves, row_known, row_join, derived_inert, inert_derived, pass_row, pass_fits}
use Rattle.form_rows.proofs.Followers.{forms_drop, forms_length}

-- ---- a loop that appends what isn't inert

pub record IsAdding {F : Type 0} (IsInert : F → Type 0) (forms : List F) (from : ℕ) (old : List F) (i : ℕ) (now : List F) : Type 0 where
  pub more : List F
  pub whole : now ≡ old ++ more
  pub on : (ys : List F) → IsKept IsInert (drop i forms) ys → IsKept IsInert (drop from forms) (more ++ ys)

module _ {F : Type 0} (IsInert : F → Type 0) (forms : List F) (from : ℕ) (old : List F) where
  pub adding_start : IsAdding IsInert forms from old from old
  adding_start = record { more = []; whole = sym (append-nil old); on = λ ys k. k }

  skipped : (f : F) (fs ys : List F) → IsInert f → IsKept IsInert fs ys → IsKept IsInert (f ∷ fs) ys
  skipped f fs [] i k = (i, k)
  skipped f fs (y ∷ ys) i k = inl (i, k)

  next_in : (f : F) (i : ℕ) → i < length forms → f ≡ get_or forms i f → drop i forms ≡ f ∷ drop (i + 1) forms
  next_in f i less is = drop_more forms i f less ∙ ap (λ (y : F). y ∷ drop (i + 1) forms) (sym is)

  pub adding_skip : (f : F) (i : ℕ) (now : List F) → i < length forms → f ≡ get_or forms i f → IsInert f
      → IsAdding IsInert forms from old i now → IsAdding IsInert forms from old (i + 1) now
  adding_skip f i now less is inert a = record {
    more = a.more;
    whole = a.whole;
    on = λ ys k. a.on ys (subst (λ (l : List F). IsKept IsInert l ys) (sym (next_in f i less is))
        (skipped f (drop (i + 1) forms) ys inert k));
  }

  pub adding_push : (f : F) (i : ℕ) (now new : List F) → i < length forms → f ≡ get_or forms i f → (IsInert f → ⊥) → new ≡ now ++ f ∷ []
      → IsAdding IsInert forms from old i now → IsAdding IsInert forms from old (i + 1) new
  adding_push f i now new less is other e a = record {
    more = a.more ++ f ∷ [];
    whole = e ∙ (ap (λ (l : List F). l ++ f ∷ []) a.whole ∙ append_assoc old a.more (f ∷ []));
    on = λ ys k. subst (λ (l : List F). IsKept IsInert (drop from forms) l) (sym (append_assoc a.more (f ∷ []) ys))
        (a.on (f ∷ ys) (subst (λ (l : List F). IsKept IsInert l (f ∷ ys)) (sym (next_in f i less is)) (inr (other, (refl, k)))));
  }

  pub adding_end : (i : ℕ) (now : List F) → length forms ≤ i → IsAdding IsInert forms from old i now
      → IsAdded IsInert (drop from forms) old now
  adding_end i now past a = record {
    more = a.more;
    kept = subst (λ (l : List F). IsKept IsInert (drop from forms) l) (append-nil a.more)
        (a.on [] (subst (λ (l : List F). IsKept IsInert l []) (sym (drop_all i forms past)) tt));
    whole = a.whole;
  }

-- a list has one list of forms that aren't inert
pub kept_once : {F : Type 0} (IsInert : F → Type 0) (fs gs hs : List F) → IsKept IsInert fs gs → IsKept IsInert fs hs → gs ≡ hs
kept_once IsInert [] [] [] k l = refl
kept_once IsInert [] [] (h ∷ hs) k l = absurd l
kept_once IsInert [] (g ∷ gs) hs k l = absurd k
kept_once IsInert (f ∷ fs) [] [] k l = refl
kept_once IsInert (f ∷ fs) [] (h ∷ hs) k (inl l) = kept_once IsInert fs [] (h ∷ hs) k.1 l.1
kept_once IsInert (f ∷ fs) [] (h ∷ hs) k (inr l) = absurd (l.0 k.0)
kept_once IsInert (f ∷ fs) (g ∷ gs) [] (inl k) l = kept_once IsInert fs (g ∷ gs) [] k.1 l.1
kept_once IsInert (f ∷ fs) (g ∷ gs) [] (inr k) l = absurd (k.0 l.0)
kept_once IsInert (f ∷ fs) (g ∷ gs) (h ∷ hs) (inl k) (inl l) = kept_once IsInert fs (g ∷ gs) (h ∷ hs) k.1 l.1
kept_once IsInert (f ∷ fs) (g ∷ gs) (h ∷ hs) (inl k) (inr l) = absurd (l.0 k.0)
kept_once IsInert (f ∷ fs) (g ∷ gs) (h ∷ hs) (inr k) (inl l) = absurd (k.0 l.0)
kept_once IsInert (f ∷ fs) (g ∷ gs) (h ∷ hs) (inr k) (inr l) =
    let rest = kept_once IsInert fs gs hs k.1.1 l.1.1 in
    let here : g ≡ h = k.1.0 ∙ sym l.1.0 in
    λ i. here i ∷ rest i

-- ---- sets

-- a part of a list's members adds nothing to them
same_all : (ys : List Member) (C : Member → Bool) → IsSubset C (plus_all none ys) → SameSet (plus_all C ys) (plus_all none ys)
same_all ys C h =
    same_from (plus_all C ys) (plus_all none ys)
    (λ z e. elim (all_cases ys C z e) [ inl c ↦ h z c | inr i ↦ all_in ys none z i ])
    (λ z e. elim (all_cases ys none z e) [ inl c ↦ absurd (both_ways false refl c) | inr i ↦ all_in ys C z i ])

module _ {F : Type 0} (d : Deriving F) (IsInert : F → Type 0) (n : Inertness d.inclusion.over IsInert) where
  pub kept_row : (xs : List Member) (C : Member → Bool) (fs gs : List F) → AreFormsFrom d.inclusion.over d.family C xs fs
      → IsKept IsInert fs gs → Row d IsInert n C xs gs
  kept_row [] C [] [] r k = tt
  kept_row [] C [] (g ∷ gs) r k = absurd k
  kept_row [] C (f ∷ fs) gs r k = absurd r
  kept_row (x ∷ xs) C [] gs r k = absurd r
  kept_row (x ∷ xs) C (f ∷ fs) [] r k = inr ((inert_derived d IsInert n x C f k.0 r.0, (f, r.0)), kept_row xs (plus C x) fs [] r.1 k.1)
  kept_row (x ∷ xs) C (f ∷ fs) (g ∷ gs) r (inl k) =
      inr (inl ((inert_derived d IsInert n x C f k.0 r.0, (f, r.0)), kept_row xs (plus C x) fs (g ∷ gs) r.1 k.1))
  kept_row (x ∷ xs) C (f ∷ fs) (g ∷ gs) r (inr k) =
      inr (inr (
        ((λ i. k.0 (derived_inert d IsInert n x C f i r.0)), subst (λ (h : F). IsForm d x C h) (sym k.1.0) r.0),
        kept_row xs (plus C x) fs gs r.1 k.1.1,
      ))

  -- a row that has looked at all that was executed
  pub caught_up : (C : Member → Bool) (xs : List Member) (forms : List F) (old new : RowData F)
      → AreFormsFrom d.inclusion.over d.family none xs forms → IsRowAt d.inclusion.over IsInert d.family C xs old
      → IsAdded IsInert (drop old.upto forms) old.forms new.forms → new.upto ≡ length forms
      → IsRowAt d.inclusion.over IsInert d.family C xs new
  caught_up C xs forms old new ex at added all =
      let e : new.upto ≡ length xs = all ∙ forms_length d xs none forms ex in
      let whole : take new.upto xs ≡ xs = take_all new.upto xs (omega arith) in
      let split : take old.upto xs ++ drop old.upto xs ≡ xs = take-append-drop old.upto xs in
      let late : Row d IsInert n (plus_all none (take old.upto xs)) (drop old.upto xs) added.more =
      kept_row (drop old.upto xs) (plus_all none (take old.upto xs)) (drop old.upto forms) added.more
      (forms_drop d old.upto xs none forms ex) added.kept in
      let tail =
      row_moves d IsInert n (plus_all none (take old.upto xs)) (plus_all C (take old.upto xs)) (drop old.upto xs) added.more
      (λ z. sym (same_all (take old.upto xs) C at.part z)) late in
      let row : Row d IsInert n C (take old.upto xs ++ drop old.upto xs) (old.forms ++ added.more) =
      row_join d IsInert n (take old.upto xs) (drop old.upto xs) C old.forms added.more at.row tail in
      let here : Row d IsInert n C xs new.forms =
      subst (λ (l : List F). Row d IsInert n C xs l) (sym added.whole)
      (subst (λ (l : List Member). Row d IsInert n C l (old.forms ++ added.more)) split row) in
      let part : IsSubset C (plus_all none xs) = λ z h.
      subst (λ (l : List Member). plus_all none l z ≡ true) split
      (ap (λ (S : Member → Bool). S z) (all-append none (take old.upto xs) (drop old.upto xs))
      ∙ all_keeps (drop old.upto xs) (plus_all none (take old.upto xs)) z (at.part z h)) in
      record {
        within = omega arith;
        part = subst (λ (l : List Member). IsSubset C (plus_all none l)) (sym whole) part;
        row = subst (λ (l : List Member). Row d IsInert n C l new.forms) (sym whole) here;
      }

  -- the base form of m is a form at the row's set
  pub ready_form : (m : Member) (C : Member → Bool) (xs : List Member) (forms : List F) (r : RowData F) (f : F)
      → IsReady d.inclusion.over IsInert d.family m C xs forms r → f ≡ d.family.form m → IsForm d m C f
  ready_form m C xs forms r f w e = at_base w.listed w.base e

  -- the row of a member that is to be executed, once it has looked at all that was
  pub ready_at : (m : Member) (C : Member → Bool) (xs : List Member) (forms : List F) (old new : RowData F)
      → IsReady d.inclusion.over IsInert d.family m C xs forms old
      → IsAdded IsInert (drop old.upto forms) old.forms new.forms → new.upto ≡ length forms
      → IsRowAt d.inclusion.over IsInert d.family C xs new × (new.upto ≡ length xs)
  ready_at m C xs forms old new w added all =
      (caught_up C xs forms old new w.executed w.row added all, all ∙ forms_length d xs none forms w.executed)

  pub executed_fits : (m : Member) (C : Member → Bool) (xs : List Member) (r : RowData F) (f : F)
      → total_by (λ y. d.inclusion.extent (d.family.form y)) d.family.members ≤ 4294967295
      → IsRowAt d.inclusion.over IsInert d.family C xs r → r.upto ≡ length xs
      → ((z : Member) → IsIn z xs → m ≢ z) → IsForm d m C f → PassFits d.inclusion.over d.inclusion.place d.inclusion.extent f r.forms
  executed_fits m C xs r f le at all ne df =
      let whole : take r.upto xs ≡ xs = take_all r.upto xs (omega arith) in
      pass_fits d IsInert n m xs C f r.forms le ne df (subst (λ (l : List Member). Row d IsInert n C l r.forms) whole at.row)

  -- its form behind the row is one at all executed members
  pub executed_form : (m : Member) (C : Member → Bool) (xs : List Member) (r : RowData F) (f : F)
      → IsRowAt d.inclusion.over IsInert d.family C xs r → r.upto ≡ length xs → ((z : Member) → IsIn z xs → m ≢ z) → IsForm d m C f
      → IsForm d m (plus_all none xs) (form_after d.inclusion.over f r.forms)
  executed_form m C xs r f at all ne df =
      let whole : take r.upto xs ≡ xs = take_all r.upto xs (omega arith) in
      let row : Row d IsInert n C xs r.forms = subst (λ (l : List Member). Row d IsInert n C l r.forms) whole at.row in
      let part : IsSubset C (plus_all none xs) = subst (λ (l : List Member). IsSubset C (plus_all none l)) whole at.part in
      form_moves d m (plus_all C xs) (plus_all none xs) (form_after d.inclusion.over f r.forms) (same_all xs C part)
      (pass_row d IsInert n m xs C f r.forms ne df row).form

  -- and the row is that of the set with m, over the list with m
  pub executed_row : (m : Member) (C : Member → Bool) (xs : List Member) (r s : RowData F) (f : F)
      → IsRowAt d.inclusion.over IsInert d.family C xs r → r.upto ≡ length xs → ((z : Member) → IsIn z xs → m ≢ z) → IsForm d m C f
      → s.forms ≡ row_after d.inclusion.over f r.forms → s.upto ≡ r.upto + 1
      → IsRowAt d.inclusion.over IsInert d.family (plus C m) (xs ++ m ∷ []) s
  executed_row m C xs r s f at all ne df is more =
      let whole : take r.upto xs ≡ xs = take_all r.upto xs (omega arith) in
      let row : Row d IsInert n C xs r.forms = subst (λ (l : List Member). Row d IsInert n C l r.forms) whole at.row in
      let part : IsSubset C (plus_all none xs) = subst (λ (l : List Member). IsSubset C (plus_all none l)) whole at.part in
      let size : length (xs ++ m ∷ []) ≡ length xs + 1 = length-append xs (m ∷ []) in
      let long : take s.upto (xs ++ m ∷ []) ≡ xs ++ m ∷ [] = take_all s.upto (xs ++ m ∷ []) (omega arith) in
      let passed = (pass_row d IsInert n m xs C f r.forms ne df row).row in
      let tail : Row d IsInert n (plus_all (plus C m) xs) (m ∷ []) [] =
      row_known d IsInert n m (plus_all (plus C m) xs) [] [] (all_keeps xs (plus C m) m (plus_here C m)) tt in
      let joined = row_join d IsInert n xs (m ∷ []) (plus C m) (row_after d.inclusion.over f r.forms) [] passed tail in
      let here : Row d IsInert n (plus C m) (xs ++ m ∷ []) s.forms =
      subst (λ (l : List F). Row d IsInert n (plus C m) (xs ++ m ∷ []) l) (append-nil (row_after d.inclusion.over f r.forms) ∙ sym is)
      joined in
      let subset : IsSubset (plus C m) (plus_all none (xs ++ m ∷ [])) = λ z h. elim (plus_cases C m z h) [
        | inl c ↦ ap (λ (S : Member → Bool). S z) (all-append none xs (m ∷ [])) ∙ plus_keeps (plus_all none xs) m z (part z c)
        | inr e ↦ all_in (xs ++ m ∷ []) none z (in_right z xs (m ∷ []) (inl (sym e)))
      ] in
      record {
        within = omega arith;
        part = subst (λ (l : List Member). IsSubset (plus C m) (plus_all none l)) (sym long) subset;
        row = subst (λ (l : List Member). Row d IsInert n (plus C m) l s.forms) (sym long) here;
      }

  -- ---- the row of the first members of a list

  row_all : (ys : List Member) (C : Member → Bool) → ((z : Member) → IsIn z ys → C z ≡ true) → Row d IsInert n C ys []
  row_all [] C h = tt
  row_all (y ∷ ys) C h = row_known d IsInert n y C ys [] (h y (inl refl)) (row_all ys C (λ z i. h z (inr i)))

  pub first_row : (k : ℕ) (xs : List Member) → k ≤ length xs
      → IsRowAt d.inclusion.over IsInert d.family (plus_all none (take k xs)) xs (record { forms = []; upto = k })
  first_row k xs within = record {
    within = within;
    part = λ z h. h;
    row = row_all (take k xs) (plus_all none (take k xs)) (λ z i. all_in (take k xs) none z i);
  }
