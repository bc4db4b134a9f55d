-- Reading the fields of a checkpoint from left to right, with the first fault that is met and its offset. A fault of the cause Length says
-- that the bytes end in the field.
use Rattle.std.specs.Prelude.{ℕ, ◌+◌, Bool, true, ◌||◌, ◌==◌, List, Option, Some, None, Ok, nat_lt, nat_le, if◌then◌else◌}
use Rattle.std.specs.Int.{w8, w16, w32}
use Rattle.op_name.specs.NameData.{NameData, name_lt}
use Rattle.op_name.specs.declared.member.Member.TheVariants.{Original}
use Rattle.context_vector.specs.Contexts.{ContextData, count_of, empty, has}
use Rattle.context_diff.specs.declared.op.TheConstants.{UNDO_ENTRIES}
use Rattle.wire_codec.specs.declared.cause.Cause.TheVariants.{Kind, Range, Order, Zero, Own, Stray}
use Rattle.wire_codec.specs.declared.version.Version.TheVariants.{Two}
use Rattle.wire_codec.specs.Reading.{LeftData, Found, ◌>>=◌, number, tested, bounded, many, name_at, place_at, length_at, characters_at}
use Rattle.flat_history.specs.Checkpoints.{Placed, inserted, deleted, Checkpoint, with_placed, with_all_placed}
use Rattle.checkpoint_codec.specs.declared.undone.Last.{Last}
use Rattle.checkpoint_codec.specs.declared.undone.TheConstants.{GROUPS}

-- ---- an original

abbrev pub is_kind : ℕ → Bool
is_kind k = (k == 1) || ((k == 2) || (k == 4))

abbrev pub kind_at : LeftData → Found ℕ
kind_at = tested is_kind Kind (number w8)

-- a kind and a name
unfoldable pub start_at : LeftData → Found (ℕ × NameData)
start_at l = do
  kind ← kind_at l
  name ← name_at Two kind.1
  Ok ((kind.0, name.0), name.1)

-- the name is the next one of its site
abbrev pub is_next : ContextData → ℕ × NameData → Bool
is_next c s = count_of c s.1.site + 1 == s.1.number

-- an insert of this kind, after its name
unfoldable pub insert_at : ℕ → NameData → LeftData → Found Placed
insert_at kind n l = do
  place ← place_at l
  len ← length_at kind place.1
  text ← characters_at len.0 len.1
  Ok (inserted n place.0 text.0, text.1)

unfoldable pub delete_at : NameData → LeftData → Found Placed
delete_at n l = do
  place ← place_at l
  Ok (deleted n place.0, place.1)

-- the fields after a kind and a name
abbrev pub rest_at : ℕ × NameData → LeftData → Found Placed
rest_at s l = if s.0 == 2 then delete_at s.1 l else insert_at s.0 s.1 l

-- an original; one that isn't the next of its site is told before its place is read
unfoldable pub placed_at : ContextData → LeftData → Found Placed
placed_at c l = do
  start ← tested (is_next c) Own start_at l
  rest_at start.0 start.1

-- how many, and these
unfoldable pub originals_at : LeftData → Found (List Placed)
originals_at l = do
  n ← number w32 l
  many placed_at with_placed n.0 empty n.1

-- ---- an undone name

-- above the last name, if there is one
abbrev pub is_above : Option NameData → NameData → Bool
is_above None n = true
is_above (Some m) n = name_lt m n

-- one of the originals
abbrev pub is_original : ContextData → NameData → Bool
is_original c n = has c (Original n)

-- a name above the last one, and then one of the originals
abbrev pub undone_name_at : ContextData → Option NameData → LeftData → Found NameData
undone_name_at c last = tested (is_original c) Stray (tested (is_above last) Order (name_at Two))

-- a generation, which with those before it adds up to few
abbrev pub generation_at : ℕ → LeftData → Found ℕ
generation_at sum = tested (λ g. nat_le (sum + g) GROUPS) Range (tested (nat_lt 0) Zero (number w16))

-- a name with its generation; a name that falls or is no original is told before its generation is read
unfoldable pub undone_at : ContextData → Last → LeftData → Found (NameData × ℕ)
undone_at c last l = do
  name ← undone_name_at c last.name l
  generation ← generation_at last.sum name.1
  Ok ((name.0, generation.0), generation.1)

abbrev pub no_name : Last
no_name = record { name = None; sum = 0 }

-- what stands before the name after this one
abbrev pub last_after : Last → NameData × ℕ → Last
last_after last e = record { name = Some e.0; sum = last.sum + e.1 }

-- how many, and these
unfoldable pub names_at : ContextData → LeftData → Found (List (NameData × ℕ))
names_at c l = do
  n ← bounded w32 0 UNDO_ENTRIES Range l
  many (undone_at c) last_after n.0 no_name n.1

-- ---- all fields after the header

unfoldable pub fields_at : LeftData → Found Checkpoint
fields_at l = do
  originals ← originals_at l
  names ← names_at (with_all_placed empty originals.0) originals.1
  Ok (record { originals = originals.0; undone = names.0 }, names.1)
