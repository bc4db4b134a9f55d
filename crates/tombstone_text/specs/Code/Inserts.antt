-- How the cells of one insert stand among all cells of a text.
use Rattle.std.specs.Prelude.{◌≡◌, ℕ, ◌+◌, ◌<◌, ◌⊎◌, List, [], ◌∷◌, map}
use Rattle.op_name.specs.NameData.{NameData}
use Rattle.ttf_form.specs.Cells.{CellData}
use Rattle.tombstone_text.specs.declared.sought.Found.{Found}
use Rattle.tombstone_text.specs.declared.sought.Found.TheVariants.{Nothing, Cells, Last}

-- of which insert a cell is, at which offset, among how many
pub record Origin : Type 0 where
  pub name : NameData
  pub offset : ℕ
  pub of : ℕ

abbrev pub origin : CellData → Origin
origin c = record { name = c.name; offset = c.offset; of = c.of }

abbrev pub origins : List CellData → List Origin
origins cs = map origin cs

-- those of the list that are of the same insert have a greater offset, and are among as many
abbrev pub ComesBefore : Origin → List Origin → Type 0
ComesBefore o [] = Unit {0}
ComesBefore o (p ∷ ps) = (o.name ≡ p.name → (o.offset < p.offset) × (o.of ≡ p.of)) × ComesBefore o ps

-- of two of one insert, the later one has the greater offset, and both are among as many
abbrev pub AreOrdered : List Origin → Type 0
AreOrdered [] = Unit {0}
AreOrdered (o ∷ os) = ComesBefore o os × AreOrdered os

-- each offset is below the number of cells of the insert
abbrev pub AreWithin : List Origin → Type 0
AreWithin [] = Unit {0}
AreWithin (o ∷ os) = (o.offset < o.of) × AreWithin os

-- the cells of each insert stand in the order of their offsets, each at most once
pub record AreInserts (cs : List CellData) : Type 0 where
  pub ordered : AreOrdered (origins cs)
  pub within : AreWithin (origins cs)

-- no cell is of the insert, if that has several
abbrev pub LacksRun : NameData → List CellData → Type 0
LacksRun n [] = Unit {0}
LacksRun n (c ∷ cs) = (c.name ≡ n → c.of ≡ 1) × LacksRun n cs

-- one of the cells is the last one of the insert
abbrev pub HasLast : NameData → List CellData → Type 0
HasLast n [] = ⊥
HasLast n (c ∷ cs) = ((c.name ≡ n) × (c.offset + 1 ≡ c.of)) ⊎ HasLast n cs

-- what was found of the insert is so
abbrev pub IsFound : Found → NameData → List CellData → Type 0
IsFound Nothing n cs = LacksRun n cs
IsFound Cells n cs = Unit {0}
IsFound Last n cs = HasLast n cs
