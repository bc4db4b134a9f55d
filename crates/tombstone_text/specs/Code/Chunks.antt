-- How a chunk is kept: its cells, in spans, beside their flags and their characters.
use Rattle.std.specs.Prelude.{◌≡◌, ℕ, ◌≤◌, List, [], length, map}
use Rattle.ttf_form.specs.Cells.{CellData}
use Rattle.tombstone_text.specs.Chunks.{flag_of}
use Rattle.tombstone_text.specs.Code.Spans.{SpanData, AreFilled, pieces, cells_in}
use Rattle.tombstone_text.specs.declared.chunk.TheConstants.{FULL}

-- any cell, where a list is known to have one
pub blank : CellData
blank = record { name = record { site = 0; number = 0 }; offset = 0; of = 1; generation = 0; deleters = [] }

-- the cells of a chunk, their characters, how many it has room for, these among them, and for how many spans more
pub record ChunkData : Type 0 where
  pub cells : List CellData
  pub text : List ℕ
  pub room : ℕ
  pub gaps : ℕ

-- spans of at most FULL cells, with their flags, and as many characters
pub record IsChunk (spans : List SpanData) (flags : List ℕ) (text : List ℕ) : Type 0 where
  pub filled : AreFilled (pieces spans)
  pub flags_are : flags ≡ map flag_of (cells_in spans)
  pub long : length text ≡ length (cells_in spans)
  pub most : length (cells_in spans) ≤ FULL

-- the cells of each chunk
abbrev pub bodies : List ChunkData → List (List CellData)
bodies cs = map (λ c. c.cells) cs

-- the characters of each chunk
abbrev pub texts_of : List ChunkData → List (List ℕ)
texts_of cs = map (λ c. c.text) cs

-- the room of each chunk
abbrev pub rooms_of : List ChunkData → List ℕ
rooms_of cs = map (λ c. c.room) cs

-- for how many spans more each chunk has room
abbrev pub gaps_of : List ChunkData → List ℕ
gaps_of cs = map (λ c. c.gaps) cs
