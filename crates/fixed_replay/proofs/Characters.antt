-- The text beside the cells: it stays that of the history with each operation that is integrated, and is read side by side with them.
use Rattle.std.proofs.Common.{◌≡◌, ℕ, zero, suc, ◌+◌, ◌≤◌, Bool, false, List, [], ◌∷◌, ◌++◌, map, filter, length, slice_index_or, if◌then◌else◌, inl, refl, ap, ap₂, sym, ◌∙◌, subst, arith}
use Rattle.std.proofs.lemmas.Bool.{false_from_ne_true}
use Rattle.std.proofs.lemmas.List.{length-map}
use Rattle.std.proofs.lemmas.Simd.{map-map}
use Rattle.op_name.specs.NameData.{NameData, name_eq}
use Rattle.op_name.specs.declared.member.Member.{Member}
use Rattle.op_name.specs.declared.member.Member.TheVariants.{Original}
use Rattle.op_name.proofs.CallerLemmas.{name_same}
use Rattle.context_diff.specs.Operations.{OpData, inserting, deleting, undoing, member_of}
use Rattle.context_diff.specs.Histories.{IsValid}
use Rattle.context_diff.specs.Replays.{Cell, character_in}
use Rattle.ttf_form.specs.declared.form.Form.{Form}
use Rattle.ttf_form.specs.declared.form.Form.TheVariants.{Ins as Insert, Cover as Covered}
use Rattle.ttf_form.specs.Names.{NewNames, block}
use Rattle.ttf_form.specs.Forms.{form_over, place_of, extent_of, added_by}
use Rattle.ttf_form.specs.Cells.{CellData, put_in, applied, cell_key, cells_of, FitsCells, text_put, chars_where}
use Rattle.ttf_form.specs.Families.{IsIn}
use Rattle.ttf_form.specs.Laws.Lists.{map-put, put_none}
use Rattle.ttf_form.specs.Laws.Forms.{form_added_length}
use Rattle.ttf_form.specs.Laws.Cells.{kept_at}
use Rattle.ttf_form.specs.Laws.Texts.{chars_where-map}
use Rattle.transform_rec.specs.Derived.{Derived}
use Rattle.transform_rec.specs.Histories.{family_in}
use Rattle.transform_rec.proofs.CallerLemmas.{derived_added, in_right}
use Rattle.undo_group.specs.BaseForms.{base_form, form_of, group_form, original_form}
use Rattle.undo_group.specs.Counts.{cell_count, some_cells}
use Rattle.undo_group.specs.Laws.Forms.{base_forms_hold, form_at}
use Rattle.fixed_replay.specs.Replayed.{AreCharacters, letters_of}
use Rattle.fixed_replay.proofs.Editor.{setting_of}
use Rattle.fixed_replay.proofs.SameText.{character_at}
use Rattle.fixed_replay.proofs.ValidFamilies.{valid_family, valid_own_names}
use Rattle.fixed_replay.proofs.ValidOriginals.{told_apart}

-- the characters beside the cells that pass are those of these cells
pub characters_beside : (h : List OpData) (p : CellData → Bool) (cs : List CellData) (ts : List ℕ) → AreCharacters h cs ts
    → chars_where p cs ts ≡ map (character_in h) (cells_of (filter p cs))
characters_beside h p cs ts is =
    ap (chars_where p cs) (is ∙ map-map (character_in h) cell_key cs)
    ∙ (chars_where-map p (λ (d : CellData). character_in h (cell_key d)) cs ∙ sym (map-map (character_in h) cell_key (filter p cs)))

-- ---- the cells that an operation adds

-- a form of a member adds the cells of its base form
pub derived_adds : (h : List OpData) → IsValid h → (m : Member) (C : Member → Bool) (f : Form)
    → Derived form_over (family_in h (base_form h)) m C f → added_by f ≡ added_by (base_form h m)
derived_adds h v m C f d =
    let forms = base_forms_hold h v in
    derived_added (setting_of (family_in h (base_form h)) (valid_family h v (base_form h) forms) (valid_own_names h v (base_form h) forms))
    m C f d

group_adds : (f : Form) (t : NameData) (g : ℕ) → added_by (group_form f t g) ≡ []
group_adds (Insert a) t g = refl
group_adds (Covered c) t g = refl

-- and that adds those that the operation says
operation_adds : (h : List OpData) → IsValid h → (o : OpData) → IsIn o h → added_by (base_form h (member_of o)) ≡ added_by (form_of o)
operation_adds h v (inserting n p text c) i = ap added_by (form_at h v (inserting n p text c) n i refl)
operation_adds h v (deleting n p c) i = ap added_by (form_at h v (deleting n p c) n i refl)
operation_adds h v (undoing a t g c) i = group_adds (original_form h t) t g

-- ---- their characters

-- those of the cells of a name with the offsets from the first on, where they are these
block_letters : (read : Cell → ℕ) (n : NameData) (first : ℕ) (text : List ℕ)
    → ((j : ℕ) → read (n, first + j) ≡ slice_index_or text j 0) → map read (block n first (length text)) ≡ text
block_letters read n first [] each = refl
block_letters read n first (t ∷ ts) each =
    let e : first ≡ first + 0 = omega arith in
    let here : read (n, first) ≡ t = ap (λ (k : ℕ). read (n, k)) e ∙ each 0 in
    let later : (j : ℕ) → read (n, suc first + j) ≡ slice_index_or ts j 0 =
    λ j. (let e : suc first + j ≡ first + suc j = omega arith in ap (λ (k : ℕ). read (n, k)) e) ∙ each (suc j) in
    ap₂ (λ (x : ℕ) (xs : List ℕ). x ∷ xs) here (block_letters read n (suc first) ts later)

-- those that the operation brings
letters_are : (h : List OpData) → IsValid h → (o : OpData) → IsIn o h
    → map (character_in h) (added_by (base_form h (member_of o))) ≡ letters_of o
letters_are h v (inserting n p text c) i =
    let f = (base_forms_hold h v).inserts n p text c i in
    let cells : added_by (base_form h (Original n)) ≡ block n 0 (length text) =
    ap added_by f.is ∙ ap₂ (λ (m : NameData) (k : ℕ). block m 0 k) f.name f.len in
    ap (map (character_in h)) cells
    ∙ block_letters (character_in h) n 0 text
    (λ j. (let e : 0 + j ≡ j = omega arith in ap (λ (k : ℕ). character_in h (n, k)) e) ∙ character_at h (told_apart h v) n p text c j i)
letters_are h v (deleting n p c) i = ap (λ (x : Form). map (character_in h) (added_by x)) ((base_forms_hold h v).deletes n p c i).is
letters_are h v (undoing a t g c) i = ap (map (character_in h)) (group_adds (original_form h t) t g)

-- a cell that none of an insert's has the name of
other_name : (c : Cell) (n : NameData) (k : ℕ) → 1 ≤ k → NewNames (c ∷ []) (block n 0 k) → name_eq n c.0 ≡ false
other_name c n zero some l = absurd (omega (arith, some))
other_name c n (suc k) some l = false_from_ne_true (name_eq n c.0) (λ e. l.0.0 (sym (name_same n c.0 e)))

-- a cell of another name keeps its character
character_kept : (h : List OpData) (o : OpData) (c : Cell) → NewNames (c ∷ []) (added_by (form_of o))
    → character_in (h ++ o ∷ []) c ≡ character_in h c
character_kept [] (inserting n p text k) c l = rw (other_name c n (cell_count text) (some_cells text) l) refl
character_kept [] (deleting n p k) c l = refl
character_kept [] (undoing a t g k) c l = refl
character_kept (inserting m q x d ∷ os) o c l =
    ap (λ (r : ℕ). if name_eq m c.0 then slice_index_or x c.1 0 else r) (character_kept os o c l)
character_kept (deleting m q d ∷ os) o c l = character_kept os o c l
character_kept (undoing a t g d ∷ os) o c l = character_kept os o c l

new_parts : (c : Cell) (cs new : List Cell) → NewNames (c ∷ cs) new → NewNames (c ∷ []) new × NewNames cs new
new_parts c cs [] l = (tt, tt)
new_parts c cs (a ∷ new) l = let r = new_parts c cs new l.1 in (((l.0.0, tt), r.0), (l.0.1, r.1))

characters_kept : (h : List OpData) (o : OpData) (cs : List Cell) → NewNames cs (added_by (form_of o))
    → map (character_in (h ++ o ∷ [])) cs ≡ map (character_in h) cs
characters_kept h o [] l = refl
characters_kept h o (c ∷ cs) l =
    let parts = new_parts c cs (added_by (form_of o)) l in
    ap₂ (λ (t : ℕ) (ts : List ℕ). t ∷ ts) (character_kept h o c parts.0) (characters_kept h o cs parts.1)

-- characters that come with a form go to its place
text_at_place : (f : Form) (new ts : List ℕ) → length new ≡ extent_of f → text_put f new ts ≡ put_in (place_of f) new ts
text_at_place (Insert a) new ts e = refl
text_at_place (Covered c) [] ts e = sym (put_none c.place ts)
text_at_place (Covered c) (t ∷ new) ts e = absurd (omega (arith, e))

-- ---- an operation is integrated

module _ (h : List OpData) (o : OpData) (C : Member → Bool) (f : Form) (v : IsValid (h ++ o ∷ []))
    (d : Derived form_over (family_in (h ++ o ∷ []) (base_form (h ++ o ∷ []))) (member_of o) C f) where
  abbrev k : List OpData
  k = h ++ o ∷ []

  there : IsIn o k
  there = in_right o h (o ∷ []) (inl refl)

  adds : added_by f ≡ added_by (form_of o)
  adds = derived_adds k v (member_of o) C f d ∙ operation_adds k v o there

  letters : map (character_in k) (added_by f) ≡ letters_of o
  letters = ap (map (character_in k)) (derived_adds k v (member_of o) C f d) ∙ letters_are k v o there

  pub letters_fit : length (letters_of o) ≡ extent_of f
  letters_fit = ap length (sym letters) ∙ (length-map (added_by f) (character_in k) ∙ form_added_length f)

  pub characters_stay : (cs : List CellData) (ts : List ℕ) → FitsCells cs f → AreCharacters h cs ts
      → AreCharacters k (applied cs f) (text_put f (letters_of o) ts)
  characters_stay cs ts fits is =
      let new : NewNames (cells_of cs) (added_by (form_of o)) = subst (λ (added : List Cell). NewNames (cells_of cs) added) adds fits.1 in
      let old : map (character_in k) (cells_of cs) ≡ ts = characters_kept h o (cells_of cs) new ∙ sym is in
      let whole : map (character_in k) (cells_of (applied cs f)) ≡ put_in (place_of f) (letters_of o) ts =
      ap (map (character_in k)) (kept_at cs f)
      ∙ (map-put (character_in k) (place_of f) (added_by f) (cells_of cs) ∙ ap₂ (put_in (place_of f)) letters old) in
      text_at_place f (letters_of o) ts letters_fit ∙ sym whole
