-- Forms: places, extents, bounds, apartness and inclusion, row by row.
use Rattle.std.specs.Prelude.{◌≢◌, ℕ, ◌<◌, ◌≤◌, List, []}
use Rattle.op_name.specs.NameData.{NameData}
use Rattle.ttf_form.specs.declared.ins.Ins.{Ins}
use Rattle.ttf_form.specs.declared.cover.Cover.{Cover}
use Rattle.ttf_form.specs.declared.form.Form.{Form}
use Rattle.ttf_form.specs.declared.form.Form.TheVariants.{Ins as Insert, Cover as Covered}
use Rattle.ttf_form.specs.Names.{block}
use Rattle.ttf_form.specs.Places.{over_place, cover_place, back_place}

-- the number of cells that an insert adds
abbrev pub ins_extent : Ins → ℕ
ins_extent a = a.len

abbrev pub place_of : Form → ℕ
place_of (Insert a) = a.place
place_of (Covered c) = c.place

abbrev pub extent_of : Form → ℕ
extent_of (Insert a) = ins_extent a
extent_of (Covered c) = 0

-- an insert may stand after the last of n cells, a cover needs one of them
abbrev pub IsBoundedForm : Form → ℕ → Type 0
IsBoundedForm (Insert a) n = a.place ≤ n
IsBoundedForm (Covered c) n = c.place < n

-- not both inserts of one site
abbrev pub ApartForms : Form → Form → Type 0
ApartForms (Insert a) (Insert b) = a.site ≢ b.site
ApartForms (Insert a) (Covered d) = Unit {0}
ApartForms (Covered c) b = Unit {0}

abbrev pub IsInertForm : Form → Type 0
IsInertForm (Insert a) = ⊥
IsInertForm (Covered c) = Unit {0}

-- an insert after the inclusion of another
abbrev pub ins_over : Ins → Ins → Ins
ins_over a b = record a { place = over_place a.place a.site b.place b.site (ins_extent b) }

-- a cover after the inclusion of an insert of n cells at q
abbrev pub cover_over : Cover → ℕ → ℕ → Cover
cover_over c q n = record c { place = cover_place c.place q n }

-- the table: a after the inclusion of b
abbrev pub form_over : Form → Form → Form
form_over (Insert a) (Insert b) = Insert (ins_over a b)
form_over (Insert a) (Covered d) = Insert a
form_over (Covered c) (Insert b) = Covered (cover_over c b.place (ins_extent b))
form_over (Covered c) (Covered d) = Covered c

-- an insert before the inclusion of another
abbrev pub ins_back : Ins → Ins → Ins
ins_back a b = record a { place = back_place a.place b.place (ins_extent b) }

-- a cover before the inclusion of an insert of n cells at q
abbrev pub cover_back : Cover → ℕ → ℕ → Cover
cover_back c q n = record c { place = back_place c.place q n }

-- the form that becomes a by the inclusion of b
abbrev pub form_back : Form → Form → Form
form_back (Insert a) (Insert b) = Insert (ins_back a b)
form_back (Insert a) (Covered d) = Insert a
form_back (Covered c) (Insert b) = Covered (cover_back c b.place (ins_extent b))
form_back (Covered c) (Covered d) = Covered c

-- the cells that a form adds
abbrev pub added_by : Form → List (NameData × ℕ)
added_by (Insert a) = block a.name 0 (ins_extent a)
added_by (Covered c) = []
