-- Executing one more operation: its form may be derived, fits the cells, and gives the forms and cells of the longer history.
use Rattle.std.proofs.Common.{◌≡◌, ℕ, suc, ◌≤◌, Bool, true, false, inl, inr, List, [], ◌∷◌, ◌++◌, length, refl, ap, sym, subst, ◌∙◌, ◌↔◌, IsNone, arith, length-append}
use Rattle.std.specs.Prelude.{Option, Some, None, nat_lt, option_map}
use Rattle.std.specs.Option.{option_to_list}
use Rattle.context_diff.specs.declared.op.Op.{Op}
use Rattle.context_diff.specs.Ops.{data_of}
use Rattle.std.specs.Prelude.{◌||◌}
use Rattle.std.proofs.lemmas.Bool.{cases_lt, le-ltb, lt-ltb, or_cases, true≢false}
use Rattle.std.proofs.lemmas.List.{length-map, map-append}
use Rattle.op_name.specs.declared.member.Member.{Member}
use Rattle.op_name.specs.Members.{member_eq}
use Rattle.context_vector.specs.Contexts.{ContextData, has}
use Rattle.context_diff.specs.Operations.{OpData, member_of}
use Rattle.context_diff.specs.Histories.{is_known, members_in, context_of_all, IsNext, IsValid}
use Rattle.context_diff.specs.Bases.{base_has}
use Rattle.context_diff.proofs.CallerLemmas.{complete, closed_on, base_listed, base_itself, known_on, known_push, member_same, member_itself, valid_push, valid_pop}
use Rattle.ttf_form.specs.declared.form.Form.{Form}
use Rattle.ttf_form.specs.Forms.{form_over, IsInertForm}
use Rattle.ttf_form.specs.Cells.{CellData, applied, FitsCells}
use Rattle.tombstone_text.specs.Cells.{CellsData}
use Rattle.transform_rec.specs.Sets.{none, plus, plus_all}
use Rattle.transform_rec.specs.Derived.{Derived}
use Rattle.transform_rec.specs.Executing.{AreFormsFrom, executed}
use Rattle.transform_rec.specs.Family.{Family}
use Rattle.transform_rec.specs.Histories.{family_in, MayBeAddedTo}
use Rattle.transform_rec.proofs.CallerLemmas.{same_set, At, empty_state, state_after, addable_fits}
use Rattle.undo_group.specs.BaseForms.{base_form}
use Rattle.undo_group.specs.Laws.Forms.{base_forms_hold}
use Rattle.fixed_replay.specs.Replayed.{IsReplayed}
use Rattle.fixed_replay.proofs.CallerLemmas.{setting_of, executed_replayed, known_set, forms_on, forms_grow, holds_more, base_form_on, valid_family, valid_own_names}
use Rattle.form_rows.specs.Kept.{RowsData}
use Rattle.form_rows.proofs.CallerLemmas.{firsts_grow, rows_grow}
use Rattle.cot_site.specs.Sites.{AreExecuted}
use Rattle.cot_site.specs.Code.Replicas.{AreRowsOf, IsExecuted, IsStep, IsNextAfter}
use Rattle.cot_site.proofs.LocalOps.{all_ready, all_closed, all_stray}

-- the cells of executed forms are the fixed replay of the history
pub cells_replayed : (h : List OpData) (fs : List Form) (cs : List CellData) → IsValid h → IsExecuted h fs cs → IsReplayed h cs
cells_replayed h fs cs valid is =
    subst (λ (x : List CellData). IsReplayed h x) (sym is.cells)
    (executed_replayed h valid (base_form h) (base_forms_hold h valid) fs is.forms)

-- the next operation may be added to the members that the history has
pub next_added : (h : List OpData) (o : OpData) → IsValid h → IsNext h o → MayBeAddedTo (h ++ o ∷ []) (context_of_all h) (member_of o)
next_added h o valid next =
    let w = complete h valid in
    let long = complete (h ++ o ∷ []) (valid_push h o valid next) in
    record {
      known = known_push h o (member_of o) ∙ known_last;
      ready = λ m there. known_on h (o ∷ []) m (all_ready h w m there);
      closed = closed_on h o (context_of_all h) next.formed next.new (all_ready h w) (all_closed h w);
      stray = all_stray h w;
      covers = λ y there. w.holds y ∙ old y (base_listed (h ++ o ∷ []) long (member_of o) y there)
          (λ e. base_itself (h ++ o ∷ []) long (member_of o)
          (subst (λ (x : Member). base_has (h ++ o ∷ []) (member_of o) x ≡ true) (sym e) there));
      lacks = w.holds (member_of o) ∙ next.new;
    }
  where
    or_last : (a b : Bool) → b ≡ true → (a || b) ≡ true
    or_last true b e = refl
    or_last false b e = e

    known_last : (is_known h (member_of o) || member_eq (member_of o) (member_of o)) ≡ true
    known_last = or_last (is_known h (member_of o)) (member_eq (member_of o) (member_of o)) (member_itself (member_of o))

    old : (y : Member) → is_known (h ++ o ∷ []) y ≡ true → (member_of o ≡ y → ⊥) → is_known h y ≡ true
    old y known other =
        elim (or_cases (is_known h y) (member_eq (member_of o) y) (sym (known_push h o y) ∙ known)) [
          | inl before ↦ before
          | inr same ↦ absurd (other (member_same (member_of o) y same))
        ]

-- the forms of the longer history's family
module _ (h : List OpData) (o : OpData) (valid : IsValid (h ++ o ∷ [])) (fs : List Form) (df : AreExecuted h fs) (f : Form)
    (d : Derived form_over (family_in (h ++ o ∷ []) (base_form (h ++ o ∷ []))) (member_of o) (has (context_of_all h)) f) where
  at_known : Derived form_over (family_in (h ++ o ∷ []) (base_form (h ++ o ∷ []))) (member_of o) (is_known h) f
  at_known =
      let parts = valid_pop h o valid in
      subst (λ (C : Member → Bool). Derived form_over (family_in (h ++ o ∷ []) (base_form (h ++ o ∷ []))) (member_of o) C f)
      (same_set (has (context_of_all h)) (is_known h) (complete h parts.0).holds) d

  pub form_fits : FitsCells (executed applied [] fs) f
  form_fits =
      let k = h ++ o ∷ [] in
      let b = family_in k (base_form k) in
      let forms = base_forms_hold k valid in
      let known = valid_family k valid (base_form k) forms in
      let own = valid_own_names k valid (base_form k) forms in
      let w = setting_of b known own in
      let old =
      forms_on form_over (family_in h (base_form h)) b
      (holds_more h (o ∷ []) (base_form h) (base_form k) valid (base_form_on h (o ∷ []) valid)) (members_in h) none fs df in
      let st : At w (plus_all none (members_in h)) (executed applied [] fs) =
      state_after w (members_in h) none [] fs (empty_state w [] refl) old in
      let set : is_known h ≡ plus_all none (members_in h) = sym (same_set (plus_all none (members_in h)) (is_known h) (known_set h)) in
      addable_fits w (plus_all none (members_in h)) (executed applied [] fs) (member_of o) f st
      (subst (λ (C : Member → Bool). Derived form_over b (member_of o) C f) set at_known)

  pub forms_more : AreExecuted (h ++ o ∷ []) (fs ++ f ∷ [])
  forms_more = forms_grow form_over h o (base_form h) (base_form (h ++ o ∷ [])) valid (base_form_on h (o ∷ []) valid) fs f df at_known

executed-push : {F S : Type 0} (apply : S → F → S) (s : S) (fs : List F) (f : F)
    → executed apply s (fs ++ f ∷ []) ≡ apply (executed apply s fs) f
executed-push apply s [] f = refl
executed-push apply s (g ∷ gs) f = executed-push apply (apply s g) gs f

-- the forms and cells after one more operation
pub executed_more : (h : List OpData) (o : OpData) (fs : List Form) (cs : List CellData) (f : Form) → IsValid (h ++ o ∷ [])
    → IsExecuted h fs cs → Derived form_over (family_in (h ++ o ∷ []) (base_form (h ++ o ∷ []))) (member_of o) (has (context_of_all h)) f
    → IsExecuted (h ++ o ∷ []) (fs ++ f ∷ []) (applied cs f)
executed_more h o fs cs f valid is d = record {
  forms = forms_more h o valid fs is.forms f d;
  cells = ap (λ (x : List CellData). applied x f) is.cells ∙ sym (executed-push applied [] fs f);
}

pub more_fits : (h : List OpData) (o : OpData) (fs : List Form) (cs : List CellData) (f : Form) → IsValid (h ++ o ∷ []) → IsExecuted h fs cs
    → Derived form_over (family_in (h ++ o ∷ []) (base_form (h ++ o ∷ []))) (member_of o) (has (context_of_all h)) f
    → FitsCells cs f
more_fits h o fs cs f valid is d = subst (λ (x : List CellData). FitsCells x f) (sym is.cells) (form_fits h o valid fs is.forms f d)

-- the history before its last operation
pub same_before : (h k : List OpData) (o p : OpData) → h ++ o ∷ [] ≡ k ++ p ∷ [] → h ≡ k
same_before [] [] o p e = refl
same_before [] (x ∷ []) o p e = cc
same_before [] (x ∷ (y ∷ ys)) o p e = cc
same_before (x ∷ []) [] o p e = cc
same_before (x ∷ (y ∷ ys)) [] o p e = cc
same_before (x ∷ xs) (y ∷ ys) o p e =
    let heads : x ≡ y = cc in
    let tails : xs ++ o ∷ [] ≡ ys ++ p ∷ [] = cc in
    let rest = same_before xs ys o p tails in
    λ i. heads i ∷ rest i

-- ---- the same for parts that are equal to these

pub added_at : (h : List OpData) (o : OpData) (k : List OpData) (to : ContextData) (m : Member) → IsValid h → IsNext h o → k ≡ h ++ o ∷ []
    → to ≡ context_of_all h → m ≡ member_of o → MayBeAddedTo k to m
added_at h o k to m valid next grown is member =
    subst (λ (l : List OpData). MayBeAddedTo l to m) (sym grown)
    (subst (λ (c : ContextData). MayBeAddedTo (h ++ o ∷ []) c m) (sym is)
    (subst (λ (x : Member). MayBeAddedTo (h ++ o ∷ []) (context_of_all h) x) (sym member) (next_added h o valid next)))

pub derived_at : (h : List OpData) (o : OpData) (k : List OpData) (to : ContextData) (m : Member) (f : Form) → k ≡ h ++ o ∷ []
    → to ≡ context_of_all h → m ≡ member_of o → Derived form_over (family_in k (base_form k)) m (has to) f
    → Derived form_over (family_in (h ++ o ∷ []) (base_form (h ++ o ∷ []))) (member_of o) (has (context_of_all h)) f
derived_at h o k to m f grown is member d =
    subst (λ (l : List OpData). Derived form_over (family_in l (base_form l)) (member_of o) (has (context_of_all h)) f) grown
    (subst (λ (c : ContextData). Derived form_over (family_in k (base_form k)) (member_of o) (has c) f) is
    (subst (λ (x : Member). Derived form_over (family_in k (base_form k)) x (has to) f) member d))

-- the next operation comes after those that were executed
next_after : (h : List OpData) (o : OpData) (fs : List Form) (cs : List CellData) (kept : RowsData Form) → IsValid h → IsNext h o
    → IsExecuted h fs cs → AreRowsOf h kept → IsNextAfter (h ++ o ∷ []) (member_of o) (has (context_of_all h)) fs kept
next_after h o fs cs kept valid next ex rows =
    let k = h ++ o ∷ [] in
    let long = valid_push h o valid next in
    let w = complete h valid in
    let more = holds_more h (o ∷ []) (base_form h) (base_form k) long (base_form_on h (o ∷ []) long) in
    record {
      before = members_in h;
      executed = record {
        whole = map-append member_of h (o ∷ []);
        forms = forms_on form_over (family_in h (base_form h)) (family_in k (base_form k)) more (members_in h) none fs ex.forms;
        rows = rows_grow form_over IsInertForm (family_in h (base_form h)) (family_in k (base_form k)) more (members_in h) kept.rows
            (λ z i. i) rows.0;
        firsts = firsts_grow h o kept.firsts rows.1;
      };
      set = λ z. known_set h z ∙ sym (w.holds z);
    }

pub next_after_at : (h : List OpData) (o : OpData) (k : List OpData) (to : ContextData) (m : Member) (fs gs : List Form)
    (cs : List CellData) (kept : RowsData Form) → IsValid h → IsNext h o → k ≡ h ++ o ∷ [] → to ≡ context_of_all h → m ≡ member_of o
    → IsExecuted h fs cs → gs ≡ fs → AreRowsOf h kept
    → IsNextAfter k m (has to) gs kept
next_after_at h o k to m fs gs cs kept valid next grown is member ex same rows =
    subst (λ (l : List OpData). IsNextAfter l m (has to) gs kept) (sym grown)
    (subst (λ (c : ContextData). IsNextAfter (h ++ o ∷ []) m (has c) gs kept) (sym is)
    (subst (λ (x : Member). IsNextAfter (h ++ o ∷ []) x (has (context_of_all h)) gs kept) (sym member)
    (subst (λ (xs : List Form). IsNextAfter (h ++ o ∷ []) (member_of o) (has (context_of_all h)) xs kept) (sym same)
    (next_after h o fs cs kept valid next ex rows))))

pub fits_at : (h : List OpData) (o : OpData) (k : List OpData) (to : ContextData) (m : Member) (fs : List Form) (cs : List CellData)
    → IsValid h → IsNext h o → k ≡ h ++ o ∷ [] → to ≡ context_of_all h → m ≡ member_of o → IsExecuted h fs cs
    → (f : Form) → Derived form_over (family_in k (base_form k)) m (has to) f → FitsCells cs f
fits_at h o k to m fs cs valid next grown is member ex f d =
    more_fits h o fs cs f (valid_push h o valid next) ex (derived_at h o k to m f grown is member d)

pub step_at : (h : List OpData) (o : OpData) (k : List OpData) (to : ContextData) (m : Member) (fs gs ns : List Form)
    (old new : CellsData) → IsValid h → IsNext h o → k ≡ h ++ o ∷ [] → to ≡ context_of_all h → m ≡ member_of o
    → IsExecuted h fs old.cells → gs ≡ fs → IsStep k m (has to) gs ns old new
    → IsExecuted k ns new.cells
step_at h o k to m fs gs ns old new valid next grown is member ex same step =
    let d = derived_at h o k to m step.form grown is member step.derived in
    let more = executed_more h o fs old.cells step.form (valid_push h o valid next) ex d in
    let forms : fs ++ step.form ∷ [] ≡ ns = ap (λ (xs : List Form). xs ++ step.form ∷ []) (sym same) ∙ sym step.appended in
    subst (λ (l : List OpData). IsExecuted l ns new.cells) (sym grown)
    (subst (λ (xs : List Form). IsExecuted (h ++ o ∷ []) xs new.cells) forms
    (subst (λ (x : List CellData). IsExecuted (h ++ o ∷ []) (fs ++ step.form ∷ []) x) (sym step.cells) more))

pub executed_same : (h k : List OpData) (fs gs : List Form) (cs ds : List CellData) → IsExecuted h fs cs → k ≡ h → gs ≡ fs → ds ≡ cs
    → IsExecuted k gs ds
executed_same h k fs gs cs ds ex a b d =
    subst (λ (l : List OpData). IsExecuted l gs ds) (sym a)
    (subst (λ (xs : List Form). IsExecuted h xs ds) (sym b) (subst (λ (x : List CellData). IsExecuted h fs x) (sym d) ex))

pub popped : (h k g : List OpData) (o : OpData) (r : Option Op) → g ≡ h ++ o ∷ [] → (IsNone r ↔ (length g ≡ 0))
    → g ≡ k ++ option_to_list (option_map data_of r) → k ≡ h
popped h k g o None grown none ops = absurd (omega (arith, none.0 refl, ap (λ (l : List OpData). length l) grown, length-append h (o ∷ [])))
popped h k g o (Some p) grown none ops = same_before k h (data_of p) o (sym ops ∙ grown)

-- ---- the number of forms

forms_count : {F : Type 0} (over : F → F → F) (b : Family F) (C : Member → Bool) (ms : List Member) (fs : List F)
    → AreFormsFrom over b C ms fs → length fs ≡ length ms
forms_count over b C [] [] are = refl
forms_count over b C [] (f ∷ fs) are = absurd are
forms_count over b C (m ∷ ms) [] are = absurd are
forms_count over b C (m ∷ ms) (f ∷ fs) are = ap suc (forms_count over b (plus C m) ms fs are.1)

-- there is a form for each operation
pub forms_for_all : (h : List OpData) (fs : List Form) → AreExecuted h fs → length fs ≡ length h
forms_for_all h fs are = forms_count form_over (family_in h (base_form h)) none (members_in h) fs are ∙ length-map h member_of

-- nothing is at a place exactly where it is past the last operation
pub executed_past : (h : List OpData) (fs : List Form) (i : ℕ) (there : Bool) → AreExecuted h fs → there ≡ nat_lt i (length fs)
    → (there ≡ false) ↔ (length h ≤ i)
executed_past h fs i there are at = (
  λ none. elim (cases_lt i (length fs)) [
    | inl less ↦ absurd (true≢false (sym (lt-ltb i (length fs) less) ∙ (sym at ∙ none)))
    | inr from ↦ omega (arith, from, forms_for_all h fs are)
  ],
  λ beyond. at ∙ le-ltb i (length fs) (omega (arith, beyond, forms_for_all h fs are)),
)
