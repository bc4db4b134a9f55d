-- Inserts and cells as the plain replay keeps them.
use Rattle.std.specs.Prelude.{ℕ, Bool, List, filter, map}
use Rattle.context_diff.specs.Operations.{OpData}
use Rattle.op_name.specs.NameData.{NameData}
use Rattle.op_name.specs.declared.member.Member.TheVariants.{Original}
use Rattle.context_vector.specs.Contexts.{ContextData, has, rank_of}
use Rattle.context_diff.specs.Replays.{Insertion, Cell, is_earlier, is_shown, character_in}

-- an insert with the number of its characters in place of them
pub record InsertData : Type 0 where
  pub name : NameData
  pub place : ℕ
  pub len : ℕ
  pub context : ContextData

-- what the replay reads of it
abbrev pub insertion_of : InsertData → Insertion
insertion_of o = record { name = o.name; place = o.place; len = o.len; rank = rank_of o.context; sees = λ n. has o.context (Original n) }

-- by rank, then by site
abbrev pub comes_before : InsertData → InsertData → Bool
comes_before o p = is_earlier (insertion_of o) (insertion_of p)

-- the insert was made after the original of this name
abbrev pub knows : InsertData → NameData → Bool
knows o n = has o.context (Original n)

-- and so it sees the cell of such an insert
abbrev pub sees : InsertData → Cell → Bool
sees o c = knows o c.0

-- the characters of the shown ones of these cells
abbrev pub characters_among : List OpData → List Cell → List ℕ
characters_among h cells = map (character_in h) (filter (is_shown h) cells)
