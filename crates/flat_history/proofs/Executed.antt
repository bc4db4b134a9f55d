-- What the executed forms of a valid history make of it: its checkpoint, whose originals have their places among the cells before
-- them, and give all its cells and characters.
use Rattle.std.proofs.Common.{◌≡◌, ℕ, zero, suc, ◌+◌, ◌<◌, ◌≤◌, Bool, inl, inr, List, [], ◌∷◌, ◌++◌, length, if◌then◌else◌, refl, ap, ap₂, sym, ◌∙◌, subst, arith}
use Rattle.std.specs.Prelude.{slice_index_or}
use Rattle.op_name.specs.NameData.{NameData, name_eq}
use Rattle.op_name.specs.declared.member.Member.{Member}
use Rattle.op_name.specs.declared.member.Member.TheVariants.{Original, Group}
use Rattle.context_vector.specs.Contexts.{ContextData, count_in, count_of, put_count, raised}
use Rattle.context_diff.specs.declared.op.TheConstants.{PLACES}
use Rattle.context_diff.specs.Operations.{OpData, inserting, deleting, undoing, member_of, cells_put}
use Rattle.context_diff.specs.Histories.{members_in, context_of_all, all_cells, IsValid, IsValidAfter}
use Rattle.context_diff.specs.Replays.{Cell, character_in}
use Rattle.context_diff.proofs.CallerLemmas.{complete, next_member, context_push, valid_push}
use Rattle.ttf_form.specs.declared.form.Form.{Form}
use Rattle.ttf_form.specs.declared.form.Form.TheVariants.{Ins as Insert, Cover as Covered}
use Rattle.ttf_form.specs.Names.{block}
use Rattle.ttf_form.specs.Forms.{place_of, extent_of, added_by, IsBoundedForm}
use Rattle.ttf_form.specs.Cells.{CellData, put_in, cells_of, applied}
use Rattle.ttf_form.specs.Families.{IsIn}
use Rattle.ttf_form.specs.Laws.Lists.{put_none}
use Rattle.ttf_form.specs.Laws.Forms.{form_added_length, form_bound_place}
use Rattle.ttf_form.specs.Laws.Cells.{kept_at, length-applied}
use Rattle.transform_rec.specs.Sets.{plus}
use Rattle.transform_rec.specs.Family.{Family}
use Rattle.transform_rec.specs.Executing.{Setting, executed}
use Rattle.transform_rec.specs.Histories.{family_in}
use Rattle.transform_rec.proofs.CallerLemmas.{At, Forms, IsForm, addable_fits, state_after}
use Rattle.undo_group.specs.BaseForms.{base_form, group_form, original_form}
use Rattle.undo_group.specs.Laws.Forms.{base_forms_hold}
use Rattle.fixed_replay.proofs.CallerLemmas.{derived_adds, setting_of, valid_family, valid_own_names, derived_cover}
use Rattle.flat_history.specs.Checkpoints.{Placed, inserted, deleted, cells_of as cells_by, with_placed, ArePlaced}
use Rattle.flat_history.specs.Flat.{placed_in}

-- ---- what the originals of a checkpoint give

-- the cells that stand once each was put at its place
abbrev pub placed_cells : List Cell → List Placed → List Cell
placed_cells cells [] = cells
placed_cells cells (inserted n p text ∷ es) = placed_cells (put_in p (block n 0 (length text)) cells) es
placed_cells cells (deleted n p ∷ es) = placed_cells cells es

abbrev pub placed_count : List Placed → ℕ
placed_count [] = 0
placed_count (e ∷ es) = cells_by e + placed_count es

abbrev pub placed_character : List Placed → Cell → ℕ
placed_character [] c = 0
placed_character (inserted n p text ∷ es) c = if name_eq n c.0 then slice_index_or text c.1 0 else placed_character es c
placed_character (deleted n p ∷ es) c = placed_character es c

-- ---- what a form adds

-- the cells that an operation adds
abbrev pub adds_of : OpData → List Cell
adds_of (inserting n p text c) = block n 0 (length text)
adds_of (deleting n p c) = []
adds_of (undoing a t g c) = []

length-block : (n : NameData) (first k : ℕ) → length (block n first k) ≡ k
length-block n first zero = refl
length-block n first (suc k) = ap suc (length-block n (suc first) k)

length_adds : (o : OpData) → length (adds_of o) ≡ cells_put o
length_adds (inserting n p text c) = length-block n 0 (length text)
length_adds (deleting n p c) = refl
length_adds (undoing a t g c) = refl

group_adds : (f : Form) (t : NameData) (g : ℕ) → added_by (group_form f t g) ≡ []
group_adds (Insert a) t g = refl
group_adds (Covered c) t g = refl

-- ---- contexts that count the originals before

own_number : (c : ContextData) (pre : List OpData) (n : NameData) → c.counts ≡ (context_of_all pre).counts
    → n.number ≡ count_of (context_of_all pre) n.site + 1 → count_of c n.site + 1 ≡ n.number
own_number c pre n counts number =
    let same : count_of c n.site ≡ count_of (context_of_all pre) n.site = ap (λ (ps : List (ℕ × ℕ)). count_in ps n.site) counts in
    omega arith

original_counts : (c : ContextData) (pre : List OpData) (o : OpData) (n : NameData) → c.counts ≡ (context_of_all pre).counts
    → context_of_all (pre ++ o ∷ []) ≡ raised (context_of_all pre) (Original n)
    → put_count n.site n.number c.counts ≡ (context_of_all (pre ++ o ∷ [])).counts
original_counts c pre o n counts push = ap (put_count n.site n.number) counts ∙ sym (ap (λ (d : ContextData). d.counts) push)

module _ (h : List OpData) (v : IsValid h) where
  abbrev pub b : Family Form
  b = family_in h (base_form h)

  abbrev pub w : Setting Form (List CellData)
  w =
      setting_of b (valid_family h v (base_form h) (base_forms_hold h v)) (valid_own_names h v (base_form h) (base_forms_hold h v))

  base_adds : (o : OpData) → IsIn o h → added_by (base_form h (member_of o)) ≡ adds_of o
  base_adds (inserting n p text c) i =
      let f = (base_forms_hold h v).inserts n p text c i in
      ap added_by f.is ∙ ap₂ (λ (m : NameData) (k : ℕ). block m 0 k) f.name f.len
  base_adds (deleting n p c) i = ap added_by ((base_forms_hold h v).deletes n p c i).is
  base_adds (undoing a t g c) i = group_adds (original_form h t) t g

  -- a form of an operation adds its cells
  form_adds : (o : OpData) → IsIn o h → (C : Member → Bool) (f : Form) → IsForm w (member_of o) C f → added_by f ≡ adds_of o
  form_adds o i C f df = derived_adds h v (member_of o) C f df ∙ base_adds o i

  -- at its place
  cells_step : (o : OpData) → IsIn o h → (C : Member → Bool) (s : List CellData) (f : Form) → IsForm w (member_of o) C f
      → cells_of (applied s f) ≡ put_in (place_of f) (adds_of o) (cells_of s)
  cells_step o i C s f df =
      kept_at s f ∙ ap (λ (added : List Cell). put_in (place_of f) added (cells_of s)) (form_adds o i C f df)

  -- which is among the cells that stand
  bound_step : (m : Member) (C : Member → Bool) (s : List CellData) (f : Form) → At w C s → IsForm w m C f
      → IsBoundedForm f (length (cells_of s))
  bound_step m C s f st df = (addable_fits w C s m f st df).0

  length_step : (o : OpData) → IsIn o h → (C : Member → Bool) (s : List CellData) (f : Form) → At w C s → IsForm w (member_of o) C f
      → length (cells_of (applied s f)) ≡ length (cells_of s) + cells_put o
  length_step o i C s f st df =
      let extent : extent_of f ≡ cells_put o =
      sym (form_added_length f) ∙ (ap length (form_adds o i C f df) ∙ length_adds o) in
      length-applied s f (form_bound_place f (length (cells_of s)) (bound_step (member_of o) C s f st df))
      ∙ ap (λ (k : ℕ). length (cells_of s) + k) extent

  at_step : (m : Member) (C : Member → Bool) (s : List CellData) (f : Form) → At w C s → IsForm w m C f → At w (plus C m) (applied s f)
  at_step m C s f st df = state_after w (m ∷ []) C s (f ∷ []) st (df, tt)

  -- ---- along the history

  -- the cells
  pub cells_along : (os : List OpData) (C : Member → Bool) (s : List CellData) (gs : List Form) → ((o : OpData) → IsIn o os → IsIn o h)
      → Forms w C (members_in os) gs → cells_of (executed applied s gs) ≡ placed_cells (cells_of s) (placed_in os gs)
  cells_along [] C s [] all df = refl
  cells_along [] C s (f ∷ gs) all df = absurd df
  cells_along (inserting n p text c ∷ os) C s [] all df = absurd df
  cells_along (deleting n p c ∷ os) C s [] all df = absurd df
  cells_along (undoing a t g c ∷ os) C s [] all df = absurd df
  cells_along (inserting n p text c ∷ os) C s (f ∷ gs) all df =
      cells_along os (plus C (Original n)) (applied s f) gs (λ o i. all o (inr i)) df.1
      ∙ ap (λ (cs : List Cell). placed_cells cs (placed_in os gs))
      (cells_step (inserting n p text c) (all (inserting n p text c) (inl refl)) C s f df.0)
  cells_along (deleting n p c ∷ os) C s (f ∷ gs) all df =
      cells_along os (plus C (Original n)) (applied s f) gs (λ o i. all o (inr i)) df.1
      ∙ ap (λ (cs : List Cell). placed_cells cs (placed_in os gs))
      (cells_step (deleting n p c) (all (deleting n p c) (inl refl)) C s f df.0 ∙ put_none (place_of f) (cells_of s))
  cells_along (undoing a t g c ∷ os) C s (f ∷ gs) all df =
      cells_along os (plus C (Group t g)) (applied s f) gs (λ o i. all o (inr i)) df.1
      ∙ ap (λ (cs : List Cell). placed_cells cs (placed_in os gs))
      (cells_step (undoing a t g c) (all (undoing a t g c) (inl refl)) C s f df.0 ∙ put_none (place_of f) (cells_of s))

  -- their number
  pub count_along : (os : List OpData) (C : Member → Bool) (gs : List Form) → Forms w C (members_in os) gs
      → all_cells os ≡ placed_count (placed_in os gs)
  count_along [] C gs df = refl
  count_along (inserting n p text c ∷ os) C [] df = absurd df
  count_along (deleting n p c ∷ os) C [] df = absurd df
  count_along (undoing a t g c ∷ os) C [] df = absurd df
  count_along (inserting n p text c ∷ os) C (f ∷ gs) df = ap (λ (k : ℕ). length text + k) (count_along os (plus C (Original n)) gs df.1)
  count_along (deleting n p c ∷ os) C (f ∷ gs) df = ap (λ (k : ℕ). 0 + k) (count_along os (plus C (Original n)) gs df.1)
  count_along (undoing a t g c ∷ os) C (f ∷ gs) df = let rest = count_along os (plus C (Group t g)) gs df.1 in omega arith

  -- their characters
  pub character_along : (os : List OpData) (C : Member → Bool) (gs : List Form) → Forms w C (members_in os) gs → (c : Cell)
      → character_in os c ≡ placed_character (placed_in os gs) c
  character_along [] C gs df c = refl
  character_along (inserting n p text k ∷ os) C [] df c = absurd df
  character_along (deleting n p k ∷ os) C [] df c = absurd df
  character_along (undoing a t g k ∷ os) C [] df c = absurd df
  character_along (inserting n p text k ∷ os) C (f ∷ gs) df c =
      ap (λ (x : ℕ). if name_eq n c.0 then slice_index_or text c.1 0 else x) (character_along os (plus C (Original n)) gs df.1 c)
  character_along (deleting n p k ∷ os) C (f ∷ gs) df c = character_along os (plus C (Original n)) gs df.1 c
  character_along (undoing a t g k ∷ os) C (f ∷ gs) df c = character_along os (plus C (Group t g)) gs df.1 c

  -- a delete's place is that of a cell
  delete_bound : (n : NameData) (p : ℕ) (c : ContextData) → IsIn (deleting n p c) h → (C : Member → Bool) (s : List CellData) (f : Form)
      → At w C s → IsForm w (Original n) C f → place_of f < length (cells_of s)
  delete_bound n p c i C s f st df =
      let base = (base_forms_hold h v).deletes n p c i in
      let k = derived_cover b base.cover (Original n) C f base.is df in
      let bound : k.cover.place < length (cells_of s) =
      subst (λ (x : Form). IsBoundedForm x (length (cells_of s))) k.is (bound_step (Original n) C s f st df) in
      let place : place_of f ≡ k.cover.place = ap place_of k.is in
      omega arith

  -- where they stand: each has its place, after those before it
  pub placed_along : (os pre : List OpData) (C : Member → Bool) (s : List CellData) (gs : List Form) (c : ContextData) (k : ℕ)
      → IsValid pre → IsValidAfter pre os → ((o : OpData) → IsIn o os → IsIn o h) → Forms w C (members_in os) gs → At w C s
      → length (cells_of s) ≡ k → c.counts ≡ (context_of_all pre).counts → k + all_cells os ≤ PLACES → ArePlaced c k (placed_in os gs)
  placed_along [] pre C s gs c k vp after all df st len counts room = tt
  placed_along (inserting n p text x ∷ os) pre C s [] c k vp after all df st len counts room = absurd df
  placed_along (deleting n p x ∷ os) pre C s [] c k vp after all df st len counts room = absurd df
  placed_along (undoing a t g x ∷ os) pre C s [] c k vp after all df st len counts room = absurd df
  placed_along (inserting n p text x ∷ os) pre C s (f ∷ gs) c k vp after all df st len counts room =
      let o = inserting n p text x in
      let i = all o (inl refl) in
      let next = after.0 in
      let number = next_member pre (context_of_all pre) o (complete pre vp).holds next in
      let bound = form_bound_place f (length (cells_of s)) (bound_step (Original n) C s f st df.0) in
      let longer = length_step o i C s f st df.0 in (
        (next.formed.in_range.0, own_number c pre n counts number, next.formed.in_range.2, omega arith, omega arith),
        placed_along os (pre ++ o ∷ []) (plus C (Original n)) (applied s f) gs (with_placed c (inserted n (place_of f) text))
            (k + length text) (valid_push pre o vp next) after.1 (λ q j. all q (inr j)) df.1 (at_step (Original n) C s f st df.0)
            (omega arith) (original_counts c pre o n counts (context_push pre o)) (omega arith),
      )
  placed_along (deleting n p x ∷ os) pre C s (f ∷ gs) c k vp after all df st len counts room =
      let o = deleting n p x in
      let i = all o (inl refl) in
      let next = after.0 in
      let number = next_member pre (context_of_all pre) o (complete pre vp).holds next in
      let bound = delete_bound n p x i C s f st df.0 in
      let longer = length_step o i C s f st df.0 in (
        (next.formed.in_range.0, own_number c pre n counts number, omega arith, omega arith),
        placed_along os (pre ++ o ∷ []) (plus C (Original n)) (applied s f) gs (with_placed c (deleted n (place_of f))) (k + 0)
            (valid_push pre o vp next) after.1 (λ q j. all q (inr j)) df.1 (at_step (Original n) C s f st df.0)
            (omega arith) (original_counts c pre o n counts (context_push pre o)) (omega arith),
      )
  placed_along (undoing a t g x ∷ os) pre C s (f ∷ gs) c k vp after all df st len counts room =
      let o = undoing a t g x in
      let i = all o (inl refl) in
      let longer = length_step o i C s f st df.0 in
      placed_along os (pre ++ o ∷ []) (plus C (Group t g)) (applied s f) gs c k (valid_push pre o vp after.0) after.1
      (λ q j. all q (inr j)) df.1 (at_step (Group t g) C s f st df.0) (omega arith)
      (counts ∙ sym (ap (λ (d : ContextData). d.counts) (context_push pre o))) (omega arith)
