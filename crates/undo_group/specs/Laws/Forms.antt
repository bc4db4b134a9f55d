-- The base forms of a valid history are what its operations say.
use Rattle.std.proofs.Common.{◌≡◌, ℕ, true, List, [], ◌∷◌, inl, inr, refl, ap, sym, ◌∙◌, subst, arith, length}
use Rattle.std.proofs.lemmas.Bool.{cases_Bool}
use Rattle.op_name.specs.NameData.{NameData}
use Rattle.op_name.specs.declared.member.Member.{Member}
use Rattle.op_name.specs.declared.member.Member.TheVariants.{Original}
use Rattle.op_name.specs.Members.{member_eq}
use Rattle.context_diff.specs.Operations.{OpData, inserting, deleting, member_of, IsLetters}
use Rattle.context_diff.specs.Histories.{IsValid}
use Rattle.context_diff.proofs.CallerLemmas.{member_same, member_itself, complete}
use Rattle.ttf_form.specs.declared.form.Form.{Form}
use Rattle.ttf_form.specs.Families.{IsIn}
use Rattle.undo_group.specs.Counts.{cell_count}
use Rattle.undo_group.specs.BaseForms.{AreBaseForms, form_of, original_form, group_form, base_form}
use Rattle.undo_group.specs.Laws.Members.{in_contains}

module _ (n : NameData) (o : OpData) (is : member_of o ≡ Original n) where
  form_among : (h : List OpData) → ((p : OpData) → IsIn p h → member_of p ≡ member_of o → p ≡ o) → IsIn o h → original_form h n ≡ form_of o
  form_among [] once i = absurd i
  form_among (p ∷ ps) once (inl e) =
      let same : member_eq (member_of p) (Original n) ≡ true =
      subst (λ (m : Member). member_eq m (Original n) ≡ true) (sym is ∙ ap member_of e) (member_itself (Original n)) in
      rw same (ap form_of (sym e))
  form_among (p ∷ ps) once (inr i) = elim (cases_Bool (member_eq (member_of p) (Original n))) [
    | inl same ↦ rw same (ap form_of (once p (inl refl) (member_same (member_of p) (Original n) same ∙ sym is)))
    | inr other ↦ rw other (form_among ps (λ q j. once q (inr j)) i)
  ]

-- the form that the history has for a name is that of the operation of this name
pub form_at : (h : List OpData) → IsValid h → (o : OpData) (n : NameData) → IsIn o h → member_of o ≡ Original n
    → original_form h n ≡ form_of o
form_at h v o n i is = form_among n o is h (λ p j e. (complete h v).one p o (in_contains p h j) (in_contains o h i) e) i

-- a text of an insert is counted as it is
counted : (text : List ℕ) → IsLetters text → cell_count text ≡ length text
counted text are = omega (arith, are.some, are.most)

pub base_forms_hold : (h : List OpData) → IsValid h → AreBaseForms h (base_form h)
base_forms_hold h v = record {
  inserts = λ n p text c i. record {
    ins = _;
    is = form_at h v (inserting n p text c) n i refl;
    name = refl;
    place = refl;
    len = counted text ((complete h v).formed (inserting n p text c) (in_contains (inserting n p text c) h i)).in_range.2;
  };
  deletes = λ n p c i. record { cover = _; is = form_at h v (deleting n p c) n i refl; place = refl; mark = refl };
  insert_groups = λ t g d i e. record { cover = _; is = ap (λ (f : Form). group_form f t g) e; place = refl; mark = refl };
  delete_groups = λ t g d i e. record { cover = _; is = ap (λ (f : Form). group_form f t g) e; place = refl; mark = refl };
}
