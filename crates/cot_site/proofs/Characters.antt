-- The characters beside the cells, when an operation is executed: those of the longer history.
use Rattle.std.proofs.Common.{◌≡◌, ℕ, List, [], ◌∷◌, ◌++◌, ◌-◌, length, map, ap, sym, ◌∙◌, arith, length-append}
use Rattle.std.specs.Prelude.{slice_get}
use Rattle.op_name.specs.declared.member.Member.{Member}
use Rattle.context_vector.specs.Contexts.{ContextData, has}
use Rattle.context_diff.specs.Operations.{OpData, member_of}
use Rattle.context_diff.specs.Histories.{context_of_all, IsNext, IsValid}
use Rattle.context_diff.specs.Replays.{character_in}
use Rattle.context_diff.proofs.CallerLemmas.{valid_push}
use Rattle.ttf_form.specs.declared.form.Form.{Form}
use Rattle.ttf_form.specs.Forms.{form_over, extent_of}
use Rattle.ttf_form.specs.Cells.{CellData, cells_of, text_put}
use Rattle.tombstone_text.specs.Cells.{CellsData}
use Rattle.transform_rec.specs.Derived.{Derived}
use Rattle.transform_rec.specs.Histories.{family_in}
use Rattle.undo_group.specs.BaseForms.{base_form}
use Rattle.fixed_replay.specs.Replayed.{AreCharacters, letters_of}
use Rattle.fixed_replay.proofs.CallerLemmas.{characters_stay, letters_fit}
use Rattle.cot_site.specs.Code.Replicas.{IsExecuted, IsStep, letters_at, last_letters}
use Rattle.cot_site.proofs.Executions.{derived_at, fits_at}
use Rattle.cot_site.proofs.RowForms.{at_end}

-- the characters of equal parts
pub characters_same : (h k : List OpData) (cs ds : List CellData) (ts us : List ℕ) → AreCharacters h cs ts → k ≡ h → ds ≡ cs → us ≡ ts
    → AreCharacters k ds us
characters_same h k cs ds ts us are a b e = e ∙ are ∙ (λ i. map (character_in (sym a i)) (cells_of (sym b i)))

-- the last characters are those of the last operation
last_are : (h : List OpData) (o : OpData) (k : List OpData) → k ≡ h ++ o ∷ [] → last_letters k ≡ letters_of o
last_are h o k grown =
    let even : length k - 1 ≡ length h = omega (arith, ap length grown, length-append h (o ∷ [])) in
    ap (λ (n : ℕ). letters_at (slice_get k n)) even
    ∙ ap (λ (l : List OpData). letters_at (slice_get l (length h))) grown
    ∙ ap letters_at (at_end h o)

module _ (h : List OpData) (o : OpData) (k : List OpData) (to : ContextData) (m : Member) (valid : IsValid h) (next : IsNext h o)
    (grown : k ≡ h ++ o ∷ []) (is : to ≡ context_of_all h) (member : m ≡ member_of o) where
  -- they are as many as a form of it adds cells
  pub letters_many : (f : Form) → Derived form_over (family_in k (base_form k)) m (has to) f → length (last_letters k) ≡ extent_of f
  letters_many f d =
      ap length (last_are h o k grown)
      ∙ letters_fit h o (has (context_of_all h)) f (valid_push h o valid next) (derived_at h o k to m f grown is member d)

  -- put at the place of its form, they keep the text that of the history
  pub text_at : (fs gs ns : List Form) (old new : CellsData) → IsExecuted h fs old.cells → AreCharacters h old.cells old.text
      → IsStep k m (has to) gs ns old new → AreCharacters k new.cells new.text
  text_at fs gs ns old new ex are step =
      let f = step.form in
      let d = derived_at h o k to m f grown is member step.derived in
      let fits = fits_at h o k to m fs old.cells valid next grown is member ex f step.derived in
      let more = characters_stay h o (has (context_of_all h)) f (valid_push h o valid next) d old.cells old.text fits are in
      let text = step.text ∙ ap (λ (l : List ℕ). text_put f l old.text) (last_are h o k grown) in
      characters_same (h ++ o ∷ []) k _ new.cells _ new.text more grown step.cells text
