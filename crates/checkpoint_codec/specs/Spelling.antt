-- The one spelling of a checkpoint: a header, how many originals and these in order, how many undone names and these rising. Numbers are
-- big-endian, and names, places and texts are spelled as in frames of version 2.
use Rattle.std.specs.Prelude.{ℕ, List, ◌++◌, length, codes}
use Rattle.std.specs.List.{flat_map}
use Rattle.std.specs.Int.{w8, w16, w32, to_be_bytes}
use Rattle.op_name.specs.NameData.{NameData}
use Rattle.wire_codec.specs.declared.version.Version.TheVariants.{Two}
use Rattle.wire_codec.specs.Spelling.{insert_kind, name_bytes, text_bytes}
use Rattle.flat_history.specs.Checkpoints.{Placed, inserted, deleted, name_of, Checkpoint}

-- what each checkpoint begins with
abbrev pub header : List ℕ
header = codes "COTCHK1\n"

-- 1 is an insert of one character, 2 a delete, 4 an insert of two characters and more
abbrev pub kind_of : Placed → ℕ
kind_of (inserted n p text) = insert_kind (length text)
kind_of (deleted n p) = 2

-- the place, and how many characters an insert has if there are more than one, and these
abbrev pub rest_bytes : Placed → List ℕ
rest_bytes (inserted n p text) = to_be_bytes w32 p ++ text_bytes text
rest_bytes (deleted n p) = to_be_bytes w32 p

-- an original: its kind and name, and the rest
abbrev pub placed_bytes : Placed → List ℕ
placed_bytes e = (to_be_bytes w8 (kind_of e) ++ name_bytes Two (name_of e)) ++ rest_bytes e

-- an undone name with its greatest generation
abbrev pub undone_bytes : NameData × ℕ → List ℕ
undone_bytes e = name_bytes Two e.0 ++ to_be_bytes w16 e.1

-- how many originals, and these
abbrev pub originals_bytes : List Placed → List ℕ
originals_bytes es = to_be_bytes w32 (length es) ++ flat_map placed_bytes es

-- how many undone names, and these
abbrev pub names_bytes : List (NameData × ℕ) → List ℕ
names_bytes es = to_be_bytes w32 (length es) ++ flat_map undone_bytes es

-- all fields after the header
abbrev pub fields_bytes : Checkpoint → List ℕ
fields_bytes p = originals_bytes p.originals ++ names_bytes p.undone

-- the spelling of a checkpoint
abbrev pub checkpoint_bytes : Checkpoint → List ℕ
checkpoint_bytes p = header ++ fields_bytes p
