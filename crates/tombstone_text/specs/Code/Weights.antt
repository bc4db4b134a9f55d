-- How the weights of chunks are kept.
use Rattle.std.specs.Prelude.{◌≡◌, ℕ, ◌+◌, ◌==◌, if◌then◌else◌, List, [], ◌∷◌, map}
use Rattle.tombstone_text.specs.Measures.{weight, weight_shown}
use Rattle.tombstone_text.specs.Code.Chunks.{ChunkData}
use Rattle.tombstone_text.specs.declared.measure.Measure.{Measure}
use Rattle.tombstone_text.specs.declared.measure.Measure.TheVariants.{Bytes, Units, Lines}
use Rattle.tombstone_text.specs.declared.measure.Weight.{Weight}

-- one of three, by a measure
abbrev pub by_measure : {A : Type 0} → A → A → A → Measure → A
by_measure b u l Bytes = b
by_measure b u l Units = u
by_measure b u l Lines = l

-- a weight by a measure
abbrev pub weighed : Weight → Measure → ℕ
weighed w m = by_measure w.bytes w.units w.lines m

-- the weight is that, by each measure
abbrev pub Weighs : Weight → (Measure → ℕ) → Type 0
Weighs w f = (m : Measure) → weighed w m ≡ f m

-- a weight where the flag is 1, else nothing
abbrev pub counted : ℕ → ℕ → ℕ
counted flag w = if flag == 1 then w else 0

-- the characters whose flags are 1
abbrev pub weight_flagged : Measure → List ℕ → List ℕ → ℕ
weight_flagged m [] ts = 0
weight_flagged m (f ∷ fs) [] = 0
weight_flagged m (f ∷ fs) (t ∷ ts) = counted f (weight m t) + weight_flagged m fs ts

-- by each measure what each chunk weighs, and for how many chunks more there is room
pub record WeightsData : Type 0 where
  pub bytes : List ℕ
  pub units : List ℕ
  pub lines : List ℕ
  pub spare : ℕ

-- the column of a measure
abbrev pub column_of : WeightsData → Measure → List ℕ
column_of w m = by_measure w.bytes w.units w.lines m

-- the shown characters of a chunk
abbrev pub chunk_weight : Measure → ChunkData → ℕ
chunk_weight m c = weight_shown m c.cells c.text

-- these are the weights of the chunks
abbrev pub AreWeights : (Measure → List ℕ) → List ChunkData → Type 0
AreWeights parts cs = (m : Measure) → parts m ≡ map (chunk_weight m) cs
