-- The first operations of a history, and the first of the forms in which it was executed.
use Rattle.std.proofs.Common.{◌≡◌, ℕ, zero, suc, ◌+◌, ◌<◌, ◌≤◌, Bool, List, [], ◌∷◌, ◌++◌, Some, None, length, take, drop, slice_get, refl, sym, ap, ◌∙◌, subst, arith, length-take-le, take-append-drop}
use Rattle.std.proofs.lemmas.List.{length-map}
use Rattle.op_name.specs.declared.member.Member.{Member}
use Rattle.context_diff.specs.Operations.{OpData, member_of}
use Rattle.context_diff.specs.Histories.{members_in, IsValid}
use Rattle.context_diff.specs.Replays.{character_in, characters_of, text_of}
use Rattle.context_diff.proofs.CallerLemmas.{valid_parts, members-append}
use Rattle.ttf_form.specs.declared.form.Form.{Form}
use Rattle.ttf_form.specs.Forms.{form_over, extent_of}
use Rattle.ttf_form.specs.Cells.{CellData, applied, cells_of, text_put, FitsCells}
use Rattle.ttf_form.specs.Laws.Cells.{length-cells}
use Rattle.transform_rec.specs.Sets.{none, plus, plus_all}
use Rattle.transform_rec.specs.Family.{Family}
use Rattle.transform_rec.specs.Derived.{Derived}
use Rattle.transform_rec.specs.Executing.{AreFormsFrom, Setting, executed}
use Rattle.transform_rec.specs.Histories.{family_in}
use Rattle.transform_rec.proofs.CallerLemmas.{computed_forms, forms_once, empty_state, state_after, addable_fits}
use Rattle.undo_group.specs.BaseForms.{base_form}
use Rattle.undo_group.specs.Laws.Forms.{base_forms_hold}
use Rattle.fixed_replay.specs.Replayed.{IsReplayed, AreCharacters, letters_of}
use Rattle.fixed_replay.proofs.CallerLemmas.{setting_of, computed_executed, executed_replayed, forms_on, holds_more, base_form_on, valid_family, valid_own_names, replayed_characters, replayed_text, characters_stay, letters_fit}
use Rattle.cot_site.specs.Sites.{AreExecuted}
use Rattle.visible_view.specs.View.{shown_cells, shown_text}
use Rattle.past_view.specs.Code.Playing.{cells_after, IsAfter}

-- the forms of a list are those of its front, and those of its rest after that
first_forms : (b : Family Form) (ms ns : List Member) (C : Member → Bool) (fs : List Form) → AreFormsFrom form_over b C (ms ++ ns) fs
    → AreFormsFrom form_over b C ms (take (length ms) fs) × AreFormsFrom form_over b (plus_all C ms) ns (drop (length ms) fs)
first_forms b [] ns C fs df = (tt, df)
first_forms b (m ∷ ms) ns C [] df = absurd df
first_forms b (m ∷ ms) ns C (f ∷ fs) df = let rest = first_forms b ms ns (plus C m) fs df.1 in ((df.0, rest.0), rest.1)

-- the next form is one of the next member
next_derived : (b : Family Form) (C : Member → Bool) (ns : List Member) (fs : List Form) (n : ℕ) (f : Form)
    → AreFormsFrom form_over b C ns (drop n fs) → slice_get fs n ≡ Some f → (m : Member) × Derived form_over b m C f
next_derived b C ns [] n f df e = let none : None ≡ Some f = e in cc
next_derived b C [] (g ∷ gs) zero f df e = absurd df
next_derived b C (m ∷ ms) (g ∷ gs) zero f df e = let is : g ≡ f = cc in (m, subst (λ (x : Form). Derived form_over b m C x) is df.0)
next_derived b C ns (g ∷ gs) (suc n) f df e = next_derived b C ns gs n f df e

module _ (k r : List OpData) (valid : IsValid (k ++ r)) (fs : List Form) (df : AreExecuted (k ++ r) fs) where
  abbrev whole : Family Form
  whole = family_in (k ++ r) (base_form (k ++ r))

  abbrev setting : Setting Form (List CellData)
  setting =
      let forms = base_forms_hold (k ++ r) valid in
      setting_of whole (valid_family (k ++ r) valid (base_form (k ++ r)) forms) (valid_own_names (k ++ r) valid (base_form (k ++ r)) forms)

  parts : AreFormsFrom form_over whole none (members_in k) (take (length (members_in k)) fs)
      × AreFormsFrom form_over whole (plus_all none (members_in k)) (members_in r) (drop (length (members_in k)) fs)
  parts =
      first_forms whole (members_in k) (members_in r) none fs
      (subst (λ (ms : List Member). AreFormsFrom form_over whole none ms fs) (members-append k r) df)

  abbrev computed : List Form
  computed = computed_forms form_over (family_in k (base_form k)) (members_in k) none

  computed_are : AreExecuted k computed
  computed_are =
      let front = (valid_parts k r valid).0 in
      computed_executed k front (base_form k) (base_forms_hold k front)

  -- the first forms are those of the first operations
  pub front_executed : AreExecuted k (take (length (members_in k)) fs)
  front_executed =
      let more = holds_more k r (base_form k) (base_form (k ++ r)) valid (base_form_on k r valid) in
      let there = forms_on form_over (family_in k (base_form k)) whole more (members_in k) none computed computed_are in
      subst (λ (gs : List Form). AreExecuted k gs)
      (forms_once setting (members_in k) none computed (take (length (members_in k)) fs) there parts.0) computed_are

  -- and the next one fits their cells
  pub front_fits : (f : Form) → slice_get fs (length (members_in k)) ≡ Some f → FitsCells (cells_after fs (length (members_in k))) f
  front_fits f e =
      let next = next_derived whole (plus_all none (members_in k)) (members_in r) fs (length (members_in k)) f parts.1 e in
      let gs = take (length (members_in k)) fs in
      addable_fits setting (plus_all none (members_in k)) (executed applied [] gs) next.0 f
      (state_after setting (members_in k) none [] gs (empty_state setting [] refl) parts.0) next.1

module _ (h : List OpData) (valid : IsValid h) (fs : List Form) (df : AreExecuted h fs) (i : ℕ) (le : i ≤ length h) where
  size : length (members_in (take i h)) ≡ i
  size = length-map (take i h) member_of ∙ length-take-le i h le

  both : take i h ++ drop i h ≡ h
  both = take-append-drop i h

  abbrev valid_both : IsValid (take i h ++ drop i h)
  valid_both = subst IsValid (sym both) valid

  abbrev executed_both : AreExecuted (take i h ++ drop i h) fs
  executed_both = subst (λ (x : List OpData). AreExecuted x fs) (sym both) df

  pub first_valid : IsValid (take i h)
  first_valid = (valid_parts (take i h) (drop i h) valid_both).0

  pub first_executed : AreExecuted (take i h) (take i fs)
  first_executed =
      subst (λ (n : ℕ). AreExecuted (take i h) (take n fs)) size (front_executed (take i h) (drop i h) valid_both fs executed_both)

  -- the first forms give the replay of the first operations
  pub first_replayed : IsReplayed (take i h) (cells_after fs i)
  first_replayed =
      executed_replayed (take i h) first_valid (base_form (take i h)) (base_forms_hold (take i h) first_valid) (take i fs) first_executed

  pub next_fits : (f : Form) → slice_get fs i ≡ Some f → FitsCells (cells_after fs i) f
  next_fits f e =
      subst (λ (n : ℕ). FitsCells (cells_after fs n) f) size
      (front_fits (take i h) (drop i h) valid_both fs executed_both f (ap (λ (n : ℕ). slice_get fs n) size ∙ e))

  -- so their text is that of these operations, with as many characters
  pub first_text : (ts : List ℕ) → AreCharacters (take i h) (cells_after fs i) ts → shown_text (cells_after fs i) ts ≡ text_of (take i h)
  first_text ts beside = replayed_text (take i h) (cells_after fs i) first_replayed ts beside

  pub first_count : length (shown_cells (cells_after fs i)) ≡ length (characters_of (take i h))
  first_count =
      sym (length-cells (shown_cells (cells_after fs i)))
      ∙ sym (length-map (cells_of (shown_cells (cells_after fs i))) (character_in (take i h)))
      ∙ ap (λ (cs : List ℕ). length cs) (replayed_characters (take i h) (cells_after fs i) first_replayed)

-- one form more
executed_next : (s : List CellData) (fs : List Form) (i : ℕ) (f : Form) → slice_get fs i ≡ Some f
    → executed applied s (take (suc i) fs) ≡ applied (executed applied s (take i fs)) f
executed_next s [] i f e = let none : None ≡ Some f = e in cc
executed_next s (g ∷ gs) zero f e = let is : g ≡ f = cc in ap (λ (x : Form). applied s x) is
executed_next s (g ∷ gs) (suc i) f e = executed_next (applied s g) gs i f e

pub cells_more : (fs : List Form) (i : ℕ) (f : Form) → slice_get fs i ≡ Some f → cells_after fs (i + 1) ≡ applied (cells_after fs i) f
cells_more fs i f e = let on : i + 1 ≡ suc i = omega arith in ap (λ (n : ℕ). cells_after fs n) on ∙ executed_next [] fs i f e

-- the first of the remaining forms is one of the first remaining member
next_is : (b : Family Form) (C : Member → Bool) (m : Member) (ns : List Member) (fs : List Form) (n : ℕ) (f : Form)
    → AreFormsFrom form_over b C (m ∷ ns) (drop n fs) → slice_get fs n ≡ Some f → Derived form_over b m C f
next_is b C m ns [] n f df e = let none : None ≡ Some f = e in cc
next_is b C m ns (g ∷ gs) zero f df e = let is : g ≡ f = cc in subst (λ (x : Form). Derived form_over b m C x) is df.0
next_is b C m ns (g ∷ gs) (suc n) f df e = next_is b C m ns gs n f df e

got_taken : (fs : List Form) (i : ℕ) (f : Form) → slice_get fs i ≡ Some f → slice_get (take (suc i) fs) i ≡ Some f
got_taken [] i f e = let none : None ≡ Some f = e in cc
got_taken (g ∷ gs) zero f e = e
got_taken (g ∷ gs) (suc i) f e = got_taken gs i f e

taken_more : (h : List OpData) (i : ℕ) (o : OpData) → slice_get h i ≡ Some o → take (suc i) h ≡ take i h ++ o ∷ []
taken_more [] i o e = let none : None ≡ Some o = e in cc
taken_more (p ∷ ps) zero o e = let is : p ≡ o = cc in ap (λ (x : OpData). x ∷ []) is
taken_more (p ∷ ps) (suc i) o e = ap (λ (xs : List OpData). p ∷ xs) (taken_more ps i o e)

-- one operation more
module _ (h : List OpData) (valid : IsValid h) (fs : List Form) (df : AreExecuted h fs) (i : ℕ) (lt : i < length h) (o : OpData)
    (f : Form) (there : slice_get h i ≡ Some o) (at : slice_get fs i ≡ Some f) where
  abbrev k : List OpData
  k = take i h

  grown : take (i + 1) h ≡ k ++ o ∷ []
  grown = let on : i + 1 ≡ suc i = omega arith in ap (λ (n : ℕ). take n h) on ∙ taken_more h i o there

  long_valid : IsValid (k ++ o ∷ [])
  long_valid = subst IsValid grown (first_valid h valid fs df (i + 1) (omega (arith, lt)))

  long_executed : AreExecuted (k ++ o ∷ []) (take (i + 1) fs)
  long_executed =
      subst (λ (x : List OpData). AreExecuted x (take (i + 1) fs)) grown (first_executed h valid fs df (i + 1) (omega (arith, lt)))

  abbrev long : Family Form
  long = family_in (k ++ o ∷ []) (base_form (k ++ o ∷ []))

  derived : Derived form_over long (member_of o) (plus_all none (members_in k)) f
  derived =
      let parts =
      first_forms long (members_in k) (member_of o ∷ []) none (take (i + 1) fs)
      (subst (λ (ms : List Member). AreFormsFrom form_over long none ms (take (i + 1) fs)) (members-append k (o ∷ [])) long_executed) in
      let on : i + 1 ≡ suc i = omega arith in
      let there : slice_get (take (i + 1) fs) i ≡ Some f = ap (λ (n : ℕ). slice_get (take n fs) i) on ∙ got_taken fs i f at in
      next_is long (plus_all none (members_in k)) (member_of o) [] (take (i + 1) fs) (length (members_in k)) f parts.1
      (ap (λ (n : ℕ). slice_get (take (i + 1) fs) n) (size h valid fs df i (omega (arith, lt))) ∙ there)

  pub next_letters : length (letters_of o) ≡ extent_of f
  next_letters = letters_fit k o (plus_all none (members_in k)) f long_valid derived

  pub next_after : (cs : List CellData) (ts : List ℕ) → IsAfter h fs i cs ts
      → IsAfter h fs (i + 1) (applied cs f) (text_put f (letters_of o) ts)
  next_after cs ts a =
      let fits : FitsCells cs f =
      subst (λ (x : List CellData). FitsCells x f) (sym a.given) (next_fits h valid fs df i (omega (arith, lt)) f at) in
      record {
        given = ap (λ (x : List CellData). applied x f) a.given ∙ sym (cells_more fs i f at);
        beside =
            subst (λ (x : List OpData). AreCharacters x (applied cs f) (text_put f (letters_of o) ts)) (sym grown)
            (characters_stay k o (plus_all none (members_in k)) f long_valid derived cs ts fits a.beside);
      }
