-- The cells of a document, the rule of applying a form to them, and which of them are shown.
use Rattle.std.specs.Prelude.{ℕ, zero, suc, Bool, not, ◌&&◌, max, List, [], ◌∷◌, ◌++◌, map, take, drop, length, slice_get, if◌then◌else◌}
use Rattle.std.specs.List.{list_any}
use Rattle.std.specs.Option.{option_map_or}
use Rattle.op_name.specs.NameData.{NameData, name_eq, name_lt, IsBefore}
use Rattle.op_name.specs.Members.{is_even}
use Rattle.ttf_form.specs.declared.ins.Ins.{Ins}
use Rattle.ttf_form.specs.declared.cover.Mark.{Mark}
use Rattle.ttf_form.specs.declared.cover.Mark.TheVariants.{Own, By}
use Rattle.ttf_form.specs.declared.form.Form.{Form}
use Rattle.ttf_form.specs.declared.form.Form.TheVariants.{Ins as Insert, Cover as Covered}
use Rattle.ttf_form.specs.Forms.{IsBoundedForm, added_by}
use Rattle.ttf_form.specs.Names.{NewNames}

-- a cell by the name of its insert and its offset among so many cells of that insert, with the generation of the insert and
-- the deletes that hit the cell, each with its generation, sorted by name. The characters stand beside the cells, as a text of as
-- many: forms and marks speak of none
pub record CellData : Type 0 where
  pub name : NameData
  pub offset : ℕ
  pub of : ℕ
  pub generation : ℕ
  pub deleters : List (NameData × ℕ)

-- the deleters with d among them, at g or above
unfoldable pub raise_in : NameData → ℕ → List (NameData × ℕ) → List (NameData × ℕ)
raise_in d g [] = (d, g) ∷ []
raise_in d g (e ∷ es) =
    if name_lt d e.0 then (d, g) ∷ (e ∷ es) else if name_eq d e.0 then (d, max e.1 g) ∷ es else e ∷ raise_in d g es

-- sorted by name, each name once
abbrev pub IsRising : List (NameData × ℕ) → Type 0
IsRising [] = Unit {0}
IsRising (e ∷ es) = IsBefore e.0 es × IsRising es

-- a cell under a mark that it bears
abbrev pub marked : Mark → CellData → CellData
marked (Own g) c = record c { generation = max c.generation g }
marked (By d g) c = record c { deleters = raise_in d g c.deleters }

-- so many cells of an insert before any mark, from an offset on, of so many in all
abbrev pub bare_from : NameData → ℕ → ℕ → ℕ → List CellData
bare_from n total first zero = []
bare_from n total first (suc k) =
    record { name = n; offset = first; of = total; generation = 0; deleters = [] } ∷ bare_from n total (suc first) k

-- the cells of an insert before any mark
abbrev pub bare_cells : Ins → List CellData
bare_cells a = bare_from a.name a.len 0 a.len

-- the list with these new elements at a place
abbrev pub put_in : {A : Type 0} → ℕ → List A → List A → List A
put_in k new xs = take k xs ++ (new ++ drop k xs)

-- the list with the element at a place changed
abbrev pub change_at : {A : Type 0} → ℕ → (A → A) → List A → List A
change_at k f [] = []
change_at zero f (x ∷ xs) = f x ∷ xs
change_at (suc k) f (x ∷ xs) = x ∷ change_at k f xs

-- the cell under a mark where it bears that mark
abbrev pub marked_if : Bool → Mark → CellData → CellData
marked_if b m c = if b then marked m c else c

-- the cell under the mark of generation g on the insert n
abbrev pub raised : ℕ → NameData → CellData → CellData
raised g n c = marked_if (name_eq c.name n) (Own g) c

-- the cells under a mark at a place: a mark of the insert itself is on all its cells, wherever they stand; one of a delete is on the
-- cell at the place alone
abbrev pub marked_in : ℕ → Mark → List CellData → List CellData
marked_in p (Own g) cs = option_map_or (λ c. map (raised g c.name) cs) (slice_get cs p) cs
marked_in p (By d g) cs = change_at p (marked (By d g)) cs

-- the rule of applying: an insert puts its new cells at its place, a cover marks the cell at its place, with all cells of its insert
-- or alone
abbrev pub applied : List CellData → Form → List CellData
applied cs (Insert a) = put_in a.place (bare_cells a) cs
applied cs (Covered c) = marked_in c.place c.mark cs

-- the cells by name and offset
abbrev pub cell_key : CellData → NameData × ℕ
cell_key c = (c.name, c.offset)

abbrev pub cells_of : List CellData → List (NameData × ℕ)
cells_of cs = map cell_key cs

-- a form may be applied: its place is within the cells, and it adds no name that is there
abbrev pub FitsCells : List CellData → Form → Type 0
FitsCells cs a = IsBoundedForm a (length (cells_of cs)) × NewNames (cells_of cs) (added_by a)

-- shown: its insert is in force, and none of its deleters is
abbrev pub cell_shown : CellData → Bool
cell_shown c = is_even c.generation && not (list_any (λ e. is_even e.1) c.deleters)

-- the text beside the cells once a form is applied: the characters of an insert stand at its place
abbrev pub text_put : Form → List ℕ → List ℕ → List ℕ
text_put (Insert a) new ts = put_in a.place new ts
text_put (Covered c) new ts = ts

-- the characters of the cells that pass, of a text beside the cells
abbrev pub chars_where : (CellData → Bool) → List CellData → List ℕ → List ℕ
chars_where p [] ts = []
chars_where p (c ∷ cs) [] = []
chars_where p (c ∷ cs) (t ∷ ts) = if p c then t ∷ chars_where p cs ts else chars_where p cs ts
