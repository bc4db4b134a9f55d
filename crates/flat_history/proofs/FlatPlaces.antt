-- The history that a checkpoint is opened as is executed at the places that the checkpoint tells.
use Rattle.std.proofs.Common.{◌≡◌, ℕ, zero, suc, ◌+◌, Bool, false, inl, inr, List, [], ◌∷◌, ◌++◌, length, refl, ap, ap₂, sym, ◌∙◌, subst}
use Rattle.std.specs.Prelude.{◌||◌}
use Rattle.std.proofs.lemmas.Bool.{false≢true}
use Rattle.op_name.specs.NameData.{NameData}
use Rattle.op_name.specs.Members.{member_eq}
use Rattle.op_name.specs.declared.member.Member.{Member}
use Rattle.op_name.specs.declared.member.Member.TheVariants.{Original}
use Rattle.context_vector.specs.Contexts.{ContextData, count_of, has, empty, raised}
use Rattle.context_vector.proofs.CallerLemmas.{has_raised, has_empty}
use Rattle.context_diff.specs.Operations.{OpData, inserting, deleting, undoing, member_of, context_of, is_original}
use Rattle.context_diff.specs.Histories.{members_in, IsValid}
use Rattle.ttf_form.specs.declared.form.Form.{Form}
use Rattle.ttf_form.specs.Forms.{place_of}
use Rattle.ttf_form.specs.Families.{IsIn}
use Rattle.transform_rec.specs.Sets.{none, SameSet, plus}
use Rattle.transform_rec.specs.Derived.Derived.{at_base}
use Rattle.transform_rec.specs.Executing.{deriving_of}
use Rattle.transform_rec.proofs.CallerLemmas.{derived_once, in_cases, in_left, Forms, IsForm}
use Rattle.undo_group.specs.BaseForms.{base_form}
use Rattle.undo_group.specs.Laws.Forms.{base_forms_hold}
use Rattle.undo_group.specs.Laws.Inserts.{context_of_original}
use Rattle.undo_group.specs.Laws.Members.{member_listed}
use Rattle.flat_history.specs.Checkpoints.{Placed, inserted, deleted, Checkpoint, flat_originals, flat_undo, flat_undos, flat_groups, history_of, ArePlaced, IsCheckpoint}
use Rattle.flat_history.specs.Flat.{placed_in}
use Rattle.flat_history.proofs.Executed.{w}
use Rattle.flat_history.proofs.Opening.{checkpoint_valid}

-- ---- undos have no place in a checkpoint

abbrev AllUndos : List OpData → Type 0
AllUndos os = (o : OpData) → IsIn o os → is_original o ≡ false

undos_all : (t : NameData) (g : ℕ) → AllUndos (flat_undos t g)
undos_all t zero o i = absurd i
undos_all t (suc g) o i = elim (in_cases o (flat_undos t g) (flat_undo t g ∷ []) i) [
  | inl j ↦ undos_all t g o j
  | inr (inl e) ↦ ap is_original e
  | inr (inr j) ↦ absurd j
]

groups_all : (es : List (NameData × ℕ)) → AllUndos (flat_groups es)
groups_all [] o i = absurd i
groups_all (e ∷ es) o i = elim (in_cases o (flat_undos e.0 e.1) (flat_groups es) i) [
  | inl j ↦ undos_all e.0 e.1 o j
  | inr j ↦ groups_all es o j
]

none_placed : (os : List OpData) (gs : List Form) → AllUndos os → placed_in os gs ≡ []
none_placed [] gs all = refl
none_placed (o ∷ os) [] all = refl
none_placed (inserting n p text c ∷ os) (f ∷ gs) all = absurd (false≢true (sym (all (inserting n p text c) (inl refl))))
none_placed (deleting n p c ∷ os) (f ∷ gs) all = absurd (false≢true (sym (all (deleting n p c) (inl refl))))
none_placed (undoing a t g c ∷ os) (f ∷ gs) all = none_placed os gs (λ o i. all o (inr i))

-- ---- each original is made at the set in which it is executed

module _ (p : Checkpoint) (is : IsCheckpoint p) where
  abbrev pub h : List OpData
  h = history_of p

  pub v : IsValid h
  v = checkpoint_valid p is

  -- its form there is its base form
  form_is : (o : OpData) (n : NameData) → IsIn o h → member_of o ≡ Original n → (C : Member → Bool) → SameSet C (has (context_of o))
      → (f : Form) → IsForm (w h v) (Original n) C f → f ≡ base_form h (Original n)
  form_is o n i named C same f d =
      let listed : IsIn (Original n) (members_in h) = subst (λ (m : Member). IsIn m (members_in h)) named (member_listed o h i) in
      let base : IsForm (w h v) (Original n) C (base_form h (Original n)) =
      at_base listed (λ m. same m ∙ sym (context_of_original h v o n i named m)) refl in
      derived_once (deriving_of (w h v)) (Original n) C f (base_form h (Original n)) d base

  next_same : (C : Member → Bool) (c : ContextData) (n : NameData) → count_of c n.site + 1 ≡ n.number → SameSet C (has c)
      → SameSet (plus C (Original n)) (has (raised c (Original n)))
  next_same C c n own same m =
      ap (λ (e : Bool). e || member_eq (Original n) m) (same m) ∙ sym (has_raised c (Original n) (sym own) m)

  places_along : (es : List Placed) (rest : List OpData) (c : ContextData) (k : ℕ) (C : Member → Bool) (gs : List Form) → ArePlaced c k es
      → SameSet C (has c) → ((o : OpData) → IsIn o (flat_originals c es) → IsIn o h) → AllUndos rest
      → Forms (w h v) C (members_in (flat_originals c es ++ rest)) gs → placed_in (flat_originals c es ++ rest) gs ≡ es
  places_along [] rest c k C gs are same all undos d = none_placed rest gs undos
  places_along (inserted n q text ∷ es) rest c k C [] are same all undos d = absurd d
  places_along (deleted n q ∷ es) rest c k C [] are same all undos d = absurd d
  places_along (inserted n q text ∷ es) rest c k C (f ∷ gs) are same all undos d =
      let o = inserting n q text c in
      let i = all o (inl refl) in
      let base = (base_forms_hold h v).inserts n q text c i in
      let place : place_of f ≡ q = ap place_of (form_is o n i refl C same f d.0 ∙ base.is) ∙ base.place in
      ap₂ (λ (x : ℕ) (xs : List Placed). inserted n x text ∷ xs) place
      (places_along es rest (raised c (Original n)) (k + length text) (plus C (Original n)) gs are.1 (next_same C c n are.0.1 same)
      (λ x j. all x (inr j)) undos d.1)
  places_along (deleted n q ∷ es) rest c k C (f ∷ gs) are same all undos d =
      let o = deleting n q c in
      let i = all o (inl refl) in
      let base = (base_forms_hold h v).deletes n q c i in
      let place : place_of f ≡ q = ap place_of (form_is o n i refl C same f d.0 ∙ base.is) ∙ base.place in
      ap₂ (λ (x : ℕ) (xs : List Placed). deleted n x ∷ xs) place
      (places_along es rest (raised c (Original n)) (k + 0) (plus C (Original n)) gs are.1 (next_same C c n are.0.1 same)
      (λ x j. all x (inr j)) undos d.1)

  -- the forms in which the history is executed have the places of the checkpoint
  pub same_places : (gs : List Form) → Forms (w h v) none (members_in h) gs → placed_in h gs ≡ p.originals
  same_places gs d =
      places_along p.originals (flat_groups p.undone) empty 0 none gs is.originals (λ m. sym (has_empty m))
      (λ o i. in_left o (flat_originals empty p.originals) (flat_groups p.undone) i) (groups_all p.undone) d
