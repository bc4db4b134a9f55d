-- A valid history has a checkpoint, and is alike with the history that this is opened as.
use Rattle.std.proofs.Common.{◌≡◌, ℕ, ◌≤◌, Bool, true, false, inl, inr, List, [], ◌∷◌, if◌then◌else◌, refl, ap, sym, ◌∙◌, subst₂, arith}
use Rattle.std.specs.Prelude.{◌&&◌, nat_le}
use Rattle.op_name.specs.NameData.{NameData, name_eq}
use Rattle.op_name.specs.declared.member.Member.{Member}
use Rattle.op_name.specs.declared.member.Member.TheVariants.{Original, Group}
use Rattle.op_name.proofs.CallerLemmas.{name_itself}
use Rattle.context_vector.specs.Contexts.{ContextData, AreEntries, has, entry_in, empty, raised, put_count}
use Rattle.context_diff.specs.declared.op.TheConstants.{PLACES}
use Rattle.context_diff.specs.Operations.{OpData, inserting, deleting, undoing}
use Rattle.context_diff.specs.Histories.{members_in, is_known, context_after, context_of_all, all_cells, IsValid}
use Rattle.context_diff.specs.Replays.{Cell, replay_of}
use Rattle.context_diff.proofs.CallerLemmas.{complete, all_is_context, has_group}
use Rattle.ttf_form.specs.declared.form.Form.{Form}
use Rattle.ttf_form.specs.Forms.{form_over}
use Rattle.ttf_form.specs.Cells.{cells_of, applied}
use Rattle.ttf_form.specs.Families.{IsIn}
use Rattle.transform_rec.specs.Sets.{none, plus}
use Rattle.transform_rec.specs.Executing.{executed}
use Rattle.transform_rec.specs.Histories.{family_in}
use Rattle.transform_rec.proofs.CallerLemmas.{computed_forms, empty_state, Forms}
use Rattle.undo_group.specs.BaseForms.{base_form}
use Rattle.undo_group.specs.Laws.Forms.{base_forms_hold}
use Rattle.fixed_replay.proofs.CallerLemmas.{computed_executed, executed_replayed}
use Rattle.flat_history.specs.Checkpoints.{Placed, with_all_placed, IsCheckpoint}
use Rattle.flat_history.specs.Flat.{AreExecutedForms, placed_in, checkpoint_of, flat_of}
use Rattle.flat_history.specs.Alike.{AreAlike}
use Rattle.flat_history.proofs.Alike.{alike_from}
use Rattle.flat_history.proofs.Executed.{w, placed_cells, placed_count, placed_character, cells_along, count_along, character_along, placed_along}
use Rattle.flat_history.proofs.Hits.{HitIn, deleters_to, deleters_from}
use Rattle.flat_history.proofs.Opening.{all_stray, same_original, later_other, checkpoint_valid, checkpoint_counts, checkpoint_entries}
use Rattle.flat_history.proofs.FlatPlaces.{same_places}

-- ---- histories whose originals have the same places

-- such histories with the same members are alike
pub alike_by_places : (h k : List OpData) (fs gs : List Form) → IsValid h → IsValid k → AreExecutedForms h fs → AreExecutedForms k gs
    → ((m : Member) → is_known h m ≡ is_known k m) → placed_in h fs ≡ placed_in k gs → AreAlike h k
alike_by_places h k fs gs v vk df dg members places =
    let cells_h : cells_of (executed applied [] fs) ≡ placed_cells [] (placed_in h fs) = cells_along h v h none [] fs (λ o i. i) df in
    let cells_k : cells_of (executed applied [] gs) ≡ placed_cells [] (placed_in k gs) = cells_along k vk k none [] gs (λ o i. i) dg in
    let same : cells_of (executed applied [] fs) ≡ cells_of (executed applied [] gs) =
    cells_h ∙ (ap (placed_cells []) places ∙ sym cells_k) in
    let replay_h : cells_of (executed applied [] fs) ≡ replay_of h =
    (executed_replayed h v (base_form h) (base_forms_hold h v) fs df).cells in
    let replay_k : cells_of (executed applied [] gs) ≡ replay_of k =
    (executed_replayed k vk (base_form k) (base_forms_hold k vk) gs dg).cells in
    alike_from h k v vk members
    (count_along h v h none fs df ∙ (ap placed_count places ∙ sym (count_along k vk k none gs dg)))
    (sym replay_h ∙ (same ∙ replay_k))
    (λ c n. (
      λ r. deleters_from k vk gs dg c n
          (subst₂ (λ (S : List Cell) (es : List Placed). HitIn S (λ m. false) es n c) same places (deleters_to h v fs df c n r)),
      λ r. deleters_from h v fs df c n
          (subst₂ (λ (S : List Cell) (es : List Placed). HitIn S (λ m. false) es n c) (sym same) (sym places)
          (deleters_to k vk gs dg c n r)),
    ))
    (λ c.
    character_along h v h none fs df c
    ∙ (ap (λ (es : List Placed). placed_character es c) places ∙ sym (character_along k vk k none gs dg c)))

-- ---- the checkpoint of a history

-- an entry of a context stands there at its generation
entry_listed : (es : List (NameData × ℕ)) → AreEntries es → (e : NameData × ℕ) → IsIn e es → (1 ≤ e.1) × (entry_in es e.0 ≡ e.1)
entry_listed [] are e i = absurd i
entry_listed (f ∷ fs) are e (inl is) = (
  let same : e.1 ≡ f.1 = ap (λ (x : NameData × ℕ). x.1) is in omega (arith, are.1),
  ap (λ (x : NameData × ℕ). if name_eq f.0 x.0 then f.1 else entry_in fs x.0) is
      ∙ (ap (λ (b : Bool). if b then f.1 else entry_in fs f.0) (name_itself f.0) ∙ sym (ap (λ (x : NameData × ℕ). x.1) is)),
)
entry_listed (f ∷ fs) are e (inr i) =
    let r = entry_listed fs are.4 e i in
    (r.0, ap (λ (b : Bool). if b then f.1 else entry_in fs e.0) (later_other f.0 fs are.3 are.4 e i) ∙ r.1)

module _ (h : List OpData) (fs : List Form) (v : IsValid h) (df : AreExecutedForms h fs) where
  counts_along : (os : List OpData) (C : Member → Bool) (gs : List Form) (c d : ContextData) → Forms (w h v) C (members_in os) gs
      → c.counts ≡ d.counts → (with_all_placed c (placed_in os gs)).counts ≡ (context_after d os).counts
  counts_along [] C gs c d dg e = e
  counts_along (inserting n p text x ∷ os) C [] c d dg e = absurd dg
  counts_along (deleting n p x ∷ os) C [] c d dg e = absurd dg
  counts_along (undoing a t g x ∷ os) C [] c d dg e = absurd dg
  counts_along (inserting n p text x ∷ os) C (f ∷ gs) c d dg e =
      counts_along os (plus C (Original n)) gs (raised c (Original n)) (raised d (Original n)) dg.1 (ap (put_count n.site n.number) e)
  counts_along (deleting n p x ∷ os) C (f ∷ gs) c d dg e =
      counts_along os (plus C (Original n)) gs (raised c (Original n)) (raised d (Original n)) dg.1 (ap (put_count n.site n.number) e)
  counts_along (undoing a t g x ∷ os) C (f ∷ gs) c d dg e =
      counts_along os (plus C (Group t g)) gs c (raised d (Group t g)) dg.1 e

  -- its originals are those of the history
  counts_are : (with_all_placed empty (placed_in h fs)).counts ≡ (context_of_all h).counts
  counts_are = counts_along h none fs empty empty df refl

  known_name : (e : NameData × ℕ) → IsIn e (context_of_all h).entries
      → has (with_all_placed empty (placed_in h fs)) (Original e.0) ≡ true
  known_name e i =
      let r = entry_listed (context_of_all h).entries (all_is_context h v).entries e i in
      let same = r.1 in
      same_original (with_all_placed empty (placed_in h fs)) (context_of_all h) e.0 counts_are
      ∙ all_stray h v e.0 e.1 (has_group (context_of_all h) e.0 e.1 r.0 (omega arith))

  module _ (room : all_cells h ≤ PLACES) where
    pub has_checkpoint : IsCheckpoint (checkpoint_of h fs)
    has_checkpoint = record {
      originals =
          placed_along h v h [] none [] fs empty 0 tt v (λ o i. i) df (empty_state (w h v) [] refl) refl refl (omega arith);
      undone = (all_is_context h v).entries;
      known = known_name;
    }

    pub flat_valid : IsValid (flat_of h fs)
    flat_valid = checkpoint_valid (checkpoint_of h fs) has_checkpoint

    -- the flat history has the members of the history
    flat_has : (m : Member) → has (context_of_all h) m ≡ has (context_of_all (flat_of h fs)) m
    flat_has (Original n) =
        same_original (context_of_all h) (context_of_all (flat_of h fs)) n
        (sym (checkpoint_counts (checkpoint_of h fs) has_checkpoint ∙ counts_are))
    flat_has (Group n g) =
        ap (λ (k : ℕ). nat_le 1 g && nat_le g k) (sym (checkpoint_entries (checkpoint_of h fs) has_checkpoint n))

    flat_members : (m : Member) → is_known h m ≡ is_known (flat_of h fs) m
    flat_members m = sym ((complete h v).holds m) ∙ (flat_has m ∙ (complete (flat_of h fs) flat_valid).holds m)

    -- and they are alike
    pub flat_alike : AreAlike h (flat_of h fs)
    flat_alike =
        let k = flat_of h fs in
        let gs = computed_forms form_over (family_in k (base_form k)) (members_in k) none in
        let dg = computed_executed k flat_valid (base_form k) (base_forms_hold k flat_valid) in
        alike_by_places h k fs gs v flat_valid df dg flat_members (sym (same_places (checkpoint_of h fs) has_checkpoint gs dg))
