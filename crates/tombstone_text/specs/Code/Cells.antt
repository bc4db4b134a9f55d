-- How the cells of a text are kept: chunks, a column of their lengths, and one of their numbers of shown cells.
use Rattle.std.specs.Prelude.{◌≡◌, Bool, ℕ, zero, suc, ◌+◌, ◌<◌, ◌≤◌, min, Option, Some, None, IfSome, List, [], ◌∷◌, length, map, take, drop, slice_index_or}
use Rattle.ttf_form.specs.Cells.{CellData}
use Rattle.tombstone_text.specs.Chunks.{flat, shown_in}
use Rattle.tombstone_text.specs.Code.Chunks.{ChunkData}
use Rattle.tombstone_text.specs.Code.Spans.{AreFilled}
use Rattle.tombstone_text.specs.declared.chunk.TheConstants.{FULL, GAPS}
use Rattle.tombstone_text.specs.declared.chunks.Way.{Way}
use Rattle.tombstone_text.specs.declared.chunks.Way.TheVariants.{First, Into, Cut}
use Rattle.tombstone_text.specs.declared.chunks.Ready.{Ready}
use Rattle.tombstone_text.specs.declared.sought.Sought.{Sought}
use Rattle.tombstone_text.specs.declared.sought.Sought.TheVariants.{Any, One}
use Rattle.op_name.specs.NameData.{name_eq}
use Rattle.tombstone_text.specs.Cells.{is_cell}

-- new cells at the place go into the i-th chunk, at o
pub record IsSeat (chunks : List (List CellData)) (i : ℕ) (o : ℕ) (place : ℕ) : Type 0 where
  pub chunk : i < length chunks
  pub within : o ≤ length (slice_index_or chunks i [])
  pub place_is : length (flat (take i chunks)) + o ≡ place

-- the chunks with the i-th cut in two, of which the first keeps k
abbrev pub cut : {A : Type 0} → List (List A) → ℕ → ℕ → List (List A)
cut [] i k = []
cut (c ∷ cs) zero k = take k c ∷ drop k c ∷ cs
cut (c ∷ cs) (suc i) k = c ∷ cut cs i k

-- the columns of a text are those of its chunks, each of which has a cell; what is kept to be used later is empty
pub record IsText (chunks : List (List CellData)) (lens : List ℕ) (shown : List ℕ) (fresh : Option ChunkData) : Type 0 where
  pub lens_are : lens ≡ map length chunks
  pub shown_are : shown ≡ map shown_in chunks
  pub filled : AreFilled chunks
  pub fresh_is : IfSome fresh (λ c. (c.cells ≡ []) × (c.text ≡ []))

-- the texts of the chunks are as long as these
abbrev pub AreBeside : List (List ℕ) → List ℕ → Type 0
AreBeside texts lens = lens ≡ map length texts

-- the room of a chunk that waits to be used, 0 without one
abbrev pub fresh_room : Option ChunkData → ℕ
fresh_room None = 0
fresh_room (Some c) = c.room

-- for how many spans it has room
abbrev pub fresh_gaps : Option ChunkData → ℕ
fresh_gaps None = 0
fresh_gaps (Some c) = c.gaps

-- the chunks of a text with its cells and their characters, the room of each chunk for cells and for more spans, that of the fresh
-- one, and how many chunks the lists have places for
pub record ChunksData : Type 0 where
  pub chunks : List (List CellData)
  pub cells : List CellData
  pub texts : List (List ℕ)
  pub text : List ℕ
  pub rooms : List ℕ
  pub gaps : List ℕ
  pub fresh : ℕ
  pub fresh_gaps : ℕ
  pub spare : ℕ

-- the i-th chunk has room for n cells more, and for the spans that a change adds
abbrev pub HasPlaces : ChunksData → ℕ → ℕ → Type 0
HasPlaces t i n = (length (slice_index_or t.chunks i []) + n ≤ slice_index_or t.rooms i 0) × (GAPS ≤ slice_index_or t.gaps i 0)

-- the i-th chunk may be cut to keep k cells: the fresh chunk has room for the others, and the part that gets n new cells, whose
-- place in the chunk is o, has room for these too; each has room for the spans
pub record MayBeCut (t : ChunksData) (i : ℕ) (o : ℕ) (k : ℕ) (n : ℕ) : Type 0 where
  pub some : 1 ≤ k
  pub less : k < length (slice_index_or t.chunks i [])
  pub most : length (slice_index_or t.chunks i []) ≤ FULL
  pub fresh : length (slice_index_or t.chunks i []) ≤ k + t.fresh
  pub low : o ≤ k → k + n ≤ slice_index_or t.rooms i 0
  pub high : k < o → length (slice_index_or t.chunks i []) + n ≤ k + t.fresh
  pub spare : 1 ≤ t.spare
  pub gaps : GAPS ≤ slice_index_or t.gaps i 0
  pub fresh_gaps : FULL + GAPS ≤ t.fresh_gaps

-- n new cells may come in at the place, this way, without memory
abbrev pub IsWay : ChunksData → Way → ℕ → ℕ → Type 0
IsWay t First place n = (t.chunks ≡ []) × (n ≤ t.fresh) × (1 ≤ t.spare) × (GAPS ≤ t.fresh_gaps)
IsWay t (Into i o) place n = IsSeat t.chunks i o place × HasPlaces t i n
IsWay t (Cut i o k) place n = IsSeat t.chunks i o place × MayBeCut t i o k n

-- new cells may come in without memory at the place for which this was made ready, one past the end counting as the end
abbrev pub IsReady : ChunksData → Ready → Type 0
IsReady t r = IsWay t r.way (min r.place (length t.cells)) r.len

-- the cell is one that is looked for
abbrev pub is_sought : Sought → CellData → Bool
is_sought (Any n) c = name_eq c.name n
is_sought (One id) c = is_cell id c
