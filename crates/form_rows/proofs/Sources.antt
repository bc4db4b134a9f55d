-- A member is executed out of a row of which its context has all but inert members.
use Rattle.std.proofs.Common.{◌≡◌, ◌+◌, ◌≤◌, Bool, List, [], ◌∷◌, ◌++◌, length, take, refl, sym, ap, subst, ◌∙◌, arith}
use Rattle.std.specs.Prelude.{Option}
use Rattle.std.proofs.lemmas.List.{take_all}
use Rattle.std.proofs.lemmas.Option.{same_Some}
use Rattle.op_name.specs.NameData.{NameData}
use Rattle.op_name.specs.declared.member.Member.{Member}
use Rattle.op_name.specs.declared.member.Member.TheVariants.{Original}
use Rattle.context_vector.specs.Contexts.{ContextData, has}
use Rattle.ttf_form.specs.Families.{total_by}
use Rattle.transform_rec.specs.Sets.{none, IsSubset, plus, plus_all}
use Rattle.transform_rec.specs.Derived.{Deriving}
use Rattle.transform_rec.specs.Derived.Derived.{at_base}
use Rattle.transform_rec.specs.Executing.{IsCausalFrom, AreFormsFrom}
use Rattle.transform_rec.proofs.CallerLemmas.{base_sound, derived_sound}
use Rattle.form_rows.proofs.DerivedForms.{IsForm}
use Rattle.form_rows.specs.Names.{had, had_by, AreNamed}
use Rattle.form_rows.specs.RowSets.{form_after, row_after, taken_out, PassFits, TakingFits, Inertness, RowData, IsRowAt, IsSource}
use Rattle.form_rows.proofs.Passing.{Row}
use Rattle.form_rows.proofs.Looks.{executed_fits, executed_form, executed_row}
use Rattle.form_rows.proofs.Moves.{IsNaming, IsTaken, taken, taken_row}

pub forms_run : {F : Type 0} (d : Deriving F) (xs : List Member) (C : Member → Bool) (fs : List F)
    → AreFormsFrom d.inclusion.over d.family C xs fs → IsCausalFrom d.family C xs
forms_run d [] C [] r = tt
forms_run d [] C (f ∷ fs) r = absurd r
forms_run d (x ∷ xs) C [] r = absurd r
forms_run d (x ∷ xs) C (f ∷ fs) r = (derived_sound d x C f r.0, forms_run d xs (plus C x) fs r.1)

module _ {F : Type 0} (d : Deriving F) (IsInert : F → Type 0) (n : Inertness d.inclusion.over IsInert) (back : F → F → F)
    (law : (a b : F) → d.inclusion.Apart a b → back (d.inclusion.over a b) b ≡ a)
    (named : F → Option NameData) (named_over : (a b : F) → named (d.inclusion.over a b) ≡ named a)
    (names : AreNamed named IsInert d.family)
    (room : total_by (λ y. d.inclusion.extent (d.family.form y)) d.family.members ≤ 4294967295)
    (c : ContextData) (m : Member) (context : (y : Member) → has c y ≡ d.family.context m y) where
  -- whether the context has the member that a form is of
  abbrev test : F → Bool
  test = had_by named c

  test_over : (a b : F) → test (d.inclusion.over a b) ≡ test a
  test_over a b = ap (had c) (named_over a b)

  -- the row of m's context over the list, out of another one
  abbrev pub left : RowData F → RowData F
  left r = record { forms = taken_out d.inclusion.over back test [] r.forms; upto = r.upto }

  module _ (C : Member → Bool) (xs : List Member) (forms : List F) (old r : RowData F)
      (w : IsSource d.inclusion.over IsInert d.family m C xs forms old) (at : IsRowAt d.inclusion.over IsInert d.family C xs r)
      (all : r.upto ≡ length xs) where
    naming : IsNaming d IsInert n back law named named_over test test_over (d.family.context m) xs w.first.0
    naming = record {
      whole = w.first.1;
      run = forms_run d xs none forms w.executed;
      closed = (base_sound d.family d.known.causal m w.listed).set;
      tests = λ x f i k e. let s = names x i k in ap (had c) (e ∙ s.says) ∙ (ap (has c) (sym s.is) ∙ context x);
      once = λ x y i j k l e. let s = names x i k in let t = names y j l in
          s.is ∙ (ap Original (same_Some s.name t.name (sym s.says ∙ (e ∙ t.says))) ∙ sym t.is);
      room = room;
    }

    whole : take r.upto xs ≡ xs
    whole = take_all r.upto xs (omega arith)

    made : IsTaken d IsInert n back law named named_over test test_over (d.family.context m) xs
        (taken_out d.inclusion.over back test [] r.forms)
        × TakingFits d.inclusion.over back d.inclusion.place d.inclusion.extent test [] r.forms
    made =
        taken d IsInert n back law named named_over test test_over (d.family.context m) xs w.first.0 naming r.forms [] C w.closed w.near
        (subst (λ (l : List Member). Row d IsInert n C l r.forms) whole at.row) (λ f i. absurd i)

    pub taking_fits : TakingFits d.inclusion.over back d.inclusion.place d.inclusion.extent test [] r.forms
    taking_fits = made.1

    at_context : IsRowAt d.inclusion.over IsInert d.family (d.family.context m) xs (left r)
    at_context =
        let row =
        taken_row d IsInert n back law named named_over test test_over (d.family.context m) xs w.first.0 naming
        (taken_out d.inclusion.over back test [] r.forms) w.within made.0 in
        record {
          within = at.within;
          part = subst (λ (l : List Member). IsSubset (d.family.context m) (plus_all none l)) (sym whole) w.within;
          row = subst (λ (l : List Member). Row d IsInert n (d.family.context m) l (taken_out d.inclusion.over back test [] r.forms))
              (sym whole) row;
        }

    module _ (f : F) (e : f ≡ d.family.form m) where
      base_at : IsForm d m (d.family.context m) f
      base_at = at_base w.listed (λ z. refl) e

      pub passing_fits : PassFits d.inclusion.over d.inclusion.place d.inclusion.extent f (taken_out d.inclusion.over back test [] r.forms)
      passing_fits = executed_fits d IsInert n m (d.family.context m) xs (left r) f room at_context all w.other base_at

      pub source_form : IsForm d m (plus_all none xs) (form_after d.inclusion.over f (taken_out d.inclusion.over back test [] r.forms))
      source_form = executed_form d IsInert n m (d.family.context m) xs (left r) f at_context all w.other base_at

      pub source_row : (s : RowData F) → s.forms ≡ row_after d.inclusion.over f (taken_out d.inclusion.over back test [] r.forms)
          → s.upto ≡ r.upto + 1
          → IsRowAt d.inclusion.over IsInert d.family (plus (d.family.context m) m) (xs ++ m ∷ []) s
      source_row s is more = executed_row d IsInert n m (d.family.context m) xs (left r) s f at_context all w.other base_at is more
