-- Rows of a site: over one member more, over the same history, and none; and the forms that a cache keeps of them.
use Rattle.std.proofs.Common.{◌≡◌, ◌-◌, Bool, true, inl, List, [], ◌∷◌, ◌++◌, Contains, ◌+◌, length, take, refl, sym, ap, subst, ◌∙◌, arith, length-append}
use Rattle.std.specs.Prelude.{Some, slice_get}
use Rattle.std.proofs.lemmas.List.{length-map}
use Rattle.std.proofs.lemmas.List.Elements.{Contains-append_right}
use Rattle.std.proofs.Math.Seq.{take-append_seam}
use Rattle.op_name.specs.NameData.{NameData}
use Rattle.op_name.specs.declared.member.Member.{Member}
use Rattle.op_name.specs.declared.member.Member.TheVariants.{Original}
use Rattle.context_vector.specs.Contexts.{ContextData, has}
use Rattle.context_diff.specs.Operations.{OpData, member_of}
use Rattle.context_diff.specs.Histories.{context_of_all, members_in, IsNext, IsValid}
use Rattle.context_diff.specs.Bases.{base_has}
use Rattle.context_diff.proofs.CallerLemmas.{contains_here, contains_none, valid_push, named_original}
use Rattle.ttf_form.specs.declared.form.Form.{Form}
use Rattle.ttf_form.specs.Forms.{form_over, IsInertForm}
use Rattle.ttf_form.specs.Families.{IsIn}
use Rattle.transform_rec.specs.Sets.{none, SameSet, plus, plus_all}
use Rattle.transform_rec.specs.Derived.{Derived, IsOnlyFormAt}
use Rattle.transform_rec.specs.Derived.Derived.{at_base}
use Rattle.transform_rec.specs.Histories.{family_in}
use Rattle.transform_rec.proofs.CallerLemmas.{in_right, plus_same, same_set}
use Rattle.undo_group.specs.BaseForms.{base_form}
use Rattle.form_rows.specs.Names.{insert_of}
use Rattle.form_rows.specs.Kept.{RowsData, AreRows, IsFormWith, empty_rows}
use Rattle.form_rows.proofs.CallerLemmas.{original_base, rows_stay}
use Rattle.cot_site.specs.Code.Replicas.{AreRowsOf, IsLastMember, IsNextAfter, KnowsAll, KnowsBefore, before_last}

pub no_rows : (h : List OpData) (kept : RowsData Form) → kept ≡ empty_rows → AreRowsOf h kept
no_rows h kept e = subst (λ (r : RowsData Form). AreRowsOf h r) (sym e) ((λ k i. absurd (contains_none k i)), tt)

pub rows_same : (h k : List OpData) (kept : RowsData Form) → AreRowsOf h kept → k ≡ h → AreRowsOf k kept
rows_same h k kept rows e = subst (λ (l : List OpData). AreRowsOf l kept) (sym e) rows

-- the rows of the members before the last one are rows of all
pub rows_after : (h : List OpData) (m : Member) (to : Member → Bool) (fs : List Form) (kept : RowsData Form) → IsNextAfter h m to fs kept
    → AreRowsOf h kept
rows_after h m to fs kept n = (
  subst (λ (l : List Member). AreRows form_over IsInertForm (family_in h (base_form h)) l kept.rows) (sym n.executed.whole)
      (rows_stay form_over IsInertForm (family_in h (base_form h)) n.before m kept.rows n.executed.rows),
  n.executed.firsts,
)

-- the base form of an original is its form at the members before it, where these are its base context
pub base_after : (h : List OpData) (n : NameData) (to : ContextData) (fs : List Form) (kept : RowsData Form) (f : Form)
    → IsNextAfter h (Original n) (has to) fs kept → ((y : Member) → has to y ≡ base_has h (Original n) y) → f ≡ base_form h (Original n)
    → Derived form_over (family_in h (base_form h)) (Original n) (has to) f
base_after h n to fs kept f next same e =
    at_base (subst (λ (l : List Member). IsIn (Original n) l) (sym next.executed.whole)
    (in_right (Original n) next.before (Original n ∷ []) (inl refl))) same e

-- the members before the last operation, when that came next
module _ (h : List OpData) (o : OpData) (k : List OpData) (valid : IsValid h) (next : IsNext h o) (grown : k ≡ h ++ o ∷ []) where
  pub before_last_is : before_last k ≡ context_of_all h
  before_last_is =
      let even : length k - 1 ≡ length h = omega (arith, ap length grown, length-append h (o ∷ [])) in
      ap context_of_all (ap (λ n. take n k) even ∙ ap (take (length h)) grown ∙ take-append_seam h (o ∷ []))

  pub knows_before : (c : ContextData) (m : Member) → c ≡ context_of_all h → m ≡ member_of o → KnowsAll c o → KnowsBefore k m
  knows_before c m is member same n y original =
      let named : member_of o ≡ Original n = sym member ∙ original in
      let valid_k : IsValid k = subst IsValid (sym grown) (valid_push h o valid next) in
      let there : Contains k o =
      subst (λ (l : List OpData). Contains l o) (sym grown) (Contains-append_right h (o ∷ []) o (contains_here o [])) in
      ap (λ (d : ContextData). has d y) (before_last_is ∙ sym is ∙ sym (same (named_original o n named)))
      ∙ original_base k valid_k o n there named y
      ∙ ap (λ (x : Member). base_has k x y) (sym original)

-- a form at the members before the last one
pub form_after_at : (h : List OpData) (m : Member) (to : Member → Bool) (fs : List Form) (kept : RowsData Form) (f : Form)
    (n : IsNextAfter h m to fs kept)
    → IsOnlyFormAt form_over (family_in h (base_form h)) m (plus_all none n.before) f
    → IsOnlyFormAt form_over (family_in h (base_form h)) m to f
form_after_at h m to fs kept f n only =
    subst (λ (C : Member → Bool). IsOnlyFormAt form_over (family_in h (base_form h)) m C f) (same_set (plus_all none n.before) to n.set)
    only

-- behind a list stands what was put at its end
pub at_end : {A : Type 0} (xs : List A) (x : A) → slice_get (xs ++ x ∷ []) (length xs) ≡ Some x
at_end [] x = refl
at_end (y ∷ ys) x = at_end ys x

-- the last member of a history
pub last_after : (h : List OpData) (m : Member) (to : Member → Bool) (fs : List Form) (kept : RowsData Form) → IsNextAfter h m to fs kept
    → IsLastMember h m
last_after h m to fs kept n =
    let counted : length h ≡ length n.before + 1 =
    sym (length-map h member_of) ∙ ap length n.executed.whole ∙ length-append n.before (m ∷ []) in
    let place : length h - 1 ≡ length n.before = omega (arith, counted) in (
      omega (arith, counted),
      ap (slice_get (members_in h)) place ∙ ap (λ (l : List Member). slice_get l (length n.before)) n.executed.whole ∙ at_end n.before m,
    )

-- the first form of a row at the context of an original with that
pub first_at : (h : List OpData) (n x : NameData) (c w : ContextData) (f : Form) → ((y : Member) → has c y ≡ base_has h (Original n) y)
    → ((y : Member) → has w y ≡ plus (has c) (Original n) y) → ((y : Member) → base_has h (Original x) y ≡ true → has w y ≡ true)
    → insert_of f ≡ Some x → IsFormWith form_over insert_of (family_in h (base_form h)) (Original n) f
    → IsOnlyFormAt form_over (family_in h (base_form h)) (Original x) (has w) f
first_at h n x c w f context with within is form =
    let m : Member = Original n in
    let C = plus (base_has h m) m in
    let same : SameSet (has w) C = λ y. with y ∙ plus_same (has c) (base_has h m) m context y in
    let only = form x is (λ y i. sym (same y) ∙ within y i) in
    subst (λ (D : Member → Bool). IsOnlyFormAt form_over (family_in h (base_form h)) (Original x) D f) (sym (same_set (has w) C same)) only
