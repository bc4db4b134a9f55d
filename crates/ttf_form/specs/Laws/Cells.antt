-- The laws of applying, of all forms and all lists of cells.
use Rattle.std.proofs.Common.{◌≡◌, ◌≢◌, ◌↔◌, ℕ, zero, suc, ◌+◌, ◌<◌, ◌≤◌, Bool, true, false, List, [], ◌∷◌, ◌++◌, length, refl, sym, ap, ◌∙◌, subst, arith}
use Rattle.op_name.specs.NameData.{NameData}
use Rattle.ttf_form.specs.declared.ins.Ins.{Ins}
use Rattle.ttf_form.specs.declared.cover.Cover.{Cover}
use Rattle.ttf_form.specs.declared.form.Form.{Form}
use Rattle.ttf_form.specs.declared.form.Form.TheVariants.{Ins as Insert, Cover as Covered}
use Rattle.ttf_form.specs.Names.{LacksName, NewNames, IsPutAmong, block}
use Rattle.ttf_form.specs.Places.{goes_before, over_place, cover_place}
use Rattle.ttf_form.specs.Forms.{ins_extent, place_of, extent_of, IsBoundedForm, ApartForms, form_over, added_by}
use Rattle.ttf_form.specs.Cells.{CellData, bare_from, bare_cells, put_in, applied, cell_key, cells_of, marked_in, FitsCells}
use Rattle.ttf_form.specs.Laws.Lists.{put_put, map-put, length-put, put_none}
use Rattle.ttf_form.specs.Laws.Places.{over_stays, over_rises, before_within, before_other, before_asym}
use Rattle.ttf_form.specs.Laws.Marks.{marked_cells, marks_both, mark_put, lacks_got}
use Rattle.ttf_form.specs.Laws.Forms.{form_added_over, form_added_length, form_bound_over, form_bound_place}

pub length-cells : (s : List CellData) → length (cells_of s) ≡ length s
length-cells [] = refl
length-cells (c ∷ cs) = ap suc (length-cells cs)

-- the cells of an insert by name and offset
keys_from : (n : NameData) (total first k : ℕ) → cells_of (bare_from n total first k) ≡ block n first k
keys_from n total first zero = refl
keys_from n total first (suc k) = ap (λ ks. (n, first) ∷ ks) (keys_from n total (suc first) k)

pub keys_bare : (a : Ins) → cells_of (bare_cells a) ≡ added_by (Insert a)
keys_bare a = keys_from a.name a.len 0 a.len

pub length-bare : (a : Ins) → length (bare_cells a) ≡ ins_extent a
length-bare a = sym (length-cells (bare_cells a)) ∙ ap length (keys_bare a) ∙ form_added_length (Insert a)

-- the cells of an insert are new exactly if its name is
pub block_new : (cs : List (NameData × ℕ)) (n : NameData) (first k : ℕ) → LacksName cs n → NewNames cs (block n first k)
block_new cs n first zero h = tt
block_new cs n first (suc k) h = (h, block_new cs n (suc first) k h)

pub new_name : (cs : List (NameData × ℕ)) (a : Ins) → NewNames cs (added_by (Insert a)) → LacksName cs a.name
new_name cs a h = of_block a.len a.some h
  where
    of_block : (k : ℕ) → 1 ≤ k → NewNames cs (block a.name 0 k) → LacksName cs a.name
    of_block zero some h = absurd (omega (arith, some))
    of_block (suc k) some h = h.0

pub block_lacks : (n m : NameData) (first k : ℕ) → n ≢ m → LacksName (block n first k) m
block_lacks n m first zero h = tt
block_lacks n m first (suc k) h = (h, block_lacks n m (suc first) k h)

-- what a form adds stands at its place, side by side, among the cells that were there
pub kept_at : (s : List CellData) (a : Form) → cells_of (applied s a) ≡ put_in (place_of a) (added_by a) (cells_of s)
kept_at s (Insert a) =
    map-put cell_key a.place (bare_cells a) s ∙ ap (λ ks. put_in a.place ks (cells_of s)) (keys_bare a)
kept_at s (Covered c) = marked_cells c.mark c.place s ∙ sym (put_none c.place (cells_of s))

pub form_kept : (a : Form) → (length (added_by a) ≡ extent_of a)
    × ((s : List CellData) → FitsCells s a → IsPutAmong (cells_of s) (added_by a) (cells_of (applied s a)))
form_kept a = (form_added_length a, λ s h. record { at = place_of a; is = kept_at s a })

pub length-applied : (s : List CellData) (a : Form) → place_of a ≤ length (cells_of s)
    → length (cells_of (applied s a)) ≡ length (cells_of s) + extent_of a
length-applied s a h =
    ap length (kept_at s a)
    ∙ length-put (place_of a) (added_by a) (cells_of s) h
    ∙ ap (λ k. length (cells_of s) + k) (form_added_length a)

pub lacks-append : (xs ys : List (NameData × ℕ)) (n : NameData) → LacksName xs n → LacksName ys n → LacksName (xs ++ ys) n
lacks-append [] ys n h k = k
lacks-append (x ∷ xs) ys n h k = (h.0, lacks-append xs ys n h.1 k)

-- putting cells of other names in keeps a name new
pub lacks-put : (k : ℕ) (new xs : List (NameData × ℕ)) (n : NameData) → LacksName xs n → LacksName new n → LacksName (put_in k new xs) n
lacks-put zero new xs n h g = lacks-append new xs n g h
lacks-put (suc k) new [] n h g = lacks-append new [] n g h
lacks-put (suc k) new (x ∷ xs) n h g = (h.0, lacks-put k new xs n h.1 g)

-- an insert's cells lack the names of inserts apart from it
pub lacks-added : (a b : Ins) → a.site ≢ b.site → LacksName (added_by (Insert a)) b.name
lacks-added a b h = block_lacks a.name b.name 0 (ins_extent a) (λ e. h (a.own ∙ ap (λ (n : NameData). n.site) e ∙ sym b.own))

pub form_fits : (s : List CellData) (a : Form)
    → FitsCells s a ↔ (IsBoundedForm a (length (cells_of s)) × NewNames (cells_of s) (added_by a))
form_fits s a = (λ h. h, λ h. h)

new_after : (s : List CellData) (a b : Form) → ApartForms a b → FitsCells s b → NewNames (cells_of (applied s a)) (added_by b)
new_after s (Insert a) (Insert b) h k =
    subst (λ cs. NewNames cs (added_by (Insert b))) (sym (kept_at s (Insert a)))
    (block_new (put_in a.place (added_by (Insert a)) (cells_of s)) b.name 0 b.len
    (lacks-put a.place (added_by (Insert a)) (cells_of s) b.name (new_name (cells_of s) b k.1) (lacks-added a b h)))
new_after s (Covered a) (Insert b) h k =
    subst (λ cs. NewNames cs (added_by (Insert b))) (sym (kept_at s (Covered a)))
    (block_new (put_in a.place [] (cells_of s)) b.name 0 b.len
    (lacks-put a.place [] (cells_of s) b.name (new_name (cells_of s) b k.1) tt))
new_after s a (Covered b) h k = tt

pub form_fits_after : (s : List CellData) (a b : Form) → ApartForms a b → FitsCells s a → FitsCells s b
    → FitsCells (applied s a) (form_over b a)
form_fits_after s a b h f g = (
  subst (λ n. IsBoundedForm (form_over b a) n) (sym (length-applied s a (form_bound_place a (length (cells_of s)) f.0)))
      (form_bound_over b a (length (cells_of s)) g.0),
  subst (λ cs. NewNames (cells_of (applied s a)) cs) (sym (form_added_over b a)) (new_after s a b h g),
)

-- two inserts of which the first goes in front
ins_front : (s : List CellData) (a b : Ins) → goes_before a.place a.site b.place b.site ≡ true → b.place ≤ length s
    → applied (applied s (Insert a)) (form_over (Insert b) (Insert a)) ≡ applied (applied s (Insert b)) (form_over (Insert a) (Insert b))
ins_front s a b h k =
    put_put a.place b.place (over_place b.place b.site a.place a.site (ins_extent a)) (bare_cells a) (bare_cells b) s
    (before_within a.place a.site b.place b.site h) k
    (over_rises b.place b.site a.place a.site (ins_extent a) (before_asym a.place a.site b.place b.site h)
    ∙ ap (λ n. b.place + n) (sym (length-bare a)))
    ∙ sym (ap (λ p. put_in p (bare_cells a) (put_in b.place (bare_cells b) s)) (over_stays a.place a.site b.place b.site (ins_extent b) h))

-- an insert and a cover
ins_cover : (s : List CellData) (a : Ins) (c : Cover) → c.place < length s → LacksName (cells_of s) a.name
    → applied (applied s (Insert a)) (form_over (Covered c) (Insert a)) ≡ applied (applied s (Covered c)) (Insert a)
ins_cover s a c k new =
    ap (λ n. marked_in (cover_place c.place a.place n) c.mark (put_in a.place (bare_cells a) s)) (sym (length-bare a))
    ∙ mark_put c.mark c.place a.place (bare_cells a) s k
    (λ d at. subst (λ ks. LacksName ks d.name) (sym (keys_bare a))
    (block_lacks a.name d.name 0 a.len (λ e. lacks_got s a.name c.place d new at (sym e))))

within : (s : List CellData) (n : ℕ) → n ≤ length (cells_of s) → n ≤ length s
within s n h = let e = length-cells s in omega arith

pub form_tp1 : (s : List CellData) (a b : Form) → ApartForms a b → FitsCells s a → FitsCells s b
    → applied (applied s a) (form_over b a) ≡ applied (applied s b) (form_over a b)
form_tp1 s (Insert a) (Insert b) h f g = by (goes_before a.place a.site b.place b.site) refl
  where
    by : (t : Bool) → goes_before a.place a.site b.place b.site ≡ t
        → applied (applied s (Insert a)) (form_over (Insert b) (Insert a))
        ≡ applied (applied s (Insert b)) (form_over (Insert a) (Insert b))
    by true e = ins_front s a b e (within s b.place g.0)
    by false e = sym (ins_front s b a (before_other a.place a.site b.place b.site h e) (within s a.place f.0))
form_tp1 s (Insert a) (Covered c) h f g = ins_cover s a c (within s (suc c.place) g.0) (new_name (cells_of s) a f.1)
form_tp1 s (Covered c) (Insert b) h f g = sym (ins_cover s b c (within s (suc c.place) f.0) (new_name (cells_of s) b g.1))
form_tp1 s (Covered c) (Covered d) h f g = marks_both d.mark c.mark d.place c.place s
