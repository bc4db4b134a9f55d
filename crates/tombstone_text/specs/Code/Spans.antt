-- How cells are kept in spans: a first cell, and how many there are from it on.
use Rattle.std.specs.Prelude.{◌≡◌, ℕ, zero, suc, ◌+◌, ◌<◌, ◌≤◌, ◌==◌, if◌then◌else◌, List, [], ◌∷◌, length, map, take, slice_index_or}
use Rattle.op_name.specs.NameData.{NameData}
use Rattle.op_name.specs.declared.limits.TheConstants.{LETTERS}
use Rattle.op_name.specs.declared.name.TheConstants.{NUMBERS}
use Rattle.ttf_form.specs.declared.ins.Ins.{Ins}
use Rattle.ttf_form.specs.Cells.{CellData, IsRising, bare_cells, raised}
use Rattle.tombstone_text.specs.Chunks.{flat}

-- the cell that follows one in a span: the next of its insert, or, where that has no other, the cell of the site's next number
abbrev pub next_of : CellData → CellData
next_of c =
    if c.of == 1 then record c { name = record { site = c.name.site; number = c.name.number + 1 } } else record c { offset = c.offset + 1 }

-- so many cells, each of which follows the one before it
abbrev pub run_from : CellData → ℕ → List CellData
run_from c zero = []
run_from c (suc k) = c ∷ run_from (next_of c) k

-- the cell so many places behind one
abbrev pub after : CellData → ℕ → CellData
after c zero = c
after c (suc k) = after (next_of c) k

-- a span by its first cell and the number of its cells
pub record SpanData : Type 0 where
  pub first : CellData
  pub count : ℕ

abbrev pub span_cells : SpanData → List CellData
span_cells s = run_from s.first s.count

-- the cells of each span
abbrev pub pieces : List SpanData → List (List CellData)
pieces ss = map span_cells ss

-- the cells of all spans, one after the other
abbrev pub cells_in : List SpanData → List CellData
cells_in ss = flat (pieces ss)

-- each list has a cell
abbrev pub AreFilled : List (List CellData) → Type 0
AreFilled [] = Unit {0}
AreFilled (c ∷ cs) = (1 ≤ length c) × AreFilled cs

-- a span of several cells has no deleters; its numbers are numbers of operations, and its offsets those of an insert
pub record IsSpan (name : NameData) (offset : ℕ) (last : ℕ) (more : ℕ) (deleters : List (NameData × ℕ)) : Type 0 where
  pub rising : IsRising deleters
  pub bare : 1 ≤ more → deleters ≡ []
  pub numbers : last ≡ 0 → name.number + more ≤ NUMBERS
  pub offsets : 1 ≤ last → offset + more < LETTERS

-- the insert has one cell, which follows the last one of the span, and may stand there
pub record IsNext (s : SpanData) (a : Ins) : Type 0 where
  pub few : s.count < 256
  pub numbers : s.first.name.number + s.count ≤ NUMBERS
  pub alone : s.first.of ≡ 1
  pub plain : s.first.deleters ≡ []
  pub next : bare_cells a ≡ after s.first s.count ∷ []

-- the place is the o-th of the i-th list, or the end of all
pub record IsPlace (cs : List (List CellData)) (i : ℕ) (o : ℕ) (p : ℕ) : Type 0 where
  pub most : i ≤ length cs
  pub within : i < length cs → o < length (slice_index_or cs i [])
  pub place_is : length (flat (take i cs)) + o ≡ p

-- the place is the o-th of the i-th list
pub record IsSpot (cs : List (List CellData)) (i : ℕ) (o : ℕ) (p : ℕ) : Type 0 where
  pub chunk : i < length cs
  pub within : o < length (slice_index_or cs i [])
  pub place_is : length (flat (take i cs)) + o ≡ p

-- a cell raised, if it is of the insert, and that has several cells
abbrev pub raised_run : ℕ → NameData → CellData → CellData
raised_run g n c = if c.of == 1 then c else raised g n c

-- so many cells of the first span were read, and not all
abbrev pub IsWithinFirst : List SpanData → ℕ → Type 0
IsWithinFirst [] k = Unit {0}
IsWithinFirst (s ∷ ss) k = k < s.count

-- the spans that are left of a reading, of the first of which so many cells were read
pub record AreLeft (ss : List SpanData) (k : ℕ) : Type 0 where
  pub filled : AreFilled (pieces ss)
  pub within : IsWithinFirst ss k
