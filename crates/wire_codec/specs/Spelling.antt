-- The one frame of an operation in a version: four bytes of length, and the body of that length. Numbers are big-endian.
use Rattle.std.specs.Prelude.{ℕ, ◌==◌, List, [], ◌++◌, length, if◌then◌else◌}
use Rattle.std.specs.List.{flat_map}
use Rattle.std.specs.Int.{w8, w16, w32, to_be_bytes}
use Rattle.op_name.specs.NameData.{NameData}
use Rattle.context_vector.specs.Contexts.{ContextData}
use Rattle.context_diff.specs.Operations.{OpData, inserting, deleting, undoing, context_of}
use Rattle.wire_codec.specs.declared.version.Version.{Version}
use Rattle.wire_codec.specs.declared.listing.Listing.{Listing}
use Rattle.wire_codec.specs.declared.listing.Listing.TheVariants.{Names, Runs, LongRuns}
use Rattle.wire_codec.specs.Versions.{site_width}
use Rattle.wire_codec.specs.Runs.{RunData, runs_of, runs_width, listing_of, version_of}
use Rattle.wire_codec.specs.declared.head.Head.{Head}
use Rattle.wire_codec.specs.declared.head.Head.TheVariants.{Insert, Delete, Undo}

-- an operation without its context
abbrev pub head_of : OpData → Head
head_of (inserting n p text c) = Insert n p text
head_of (deleting n p c) = Delete n p
head_of (undoing a t g c) = Undo a t g

abbrev pub op_of : Head → ContextData → OpData
op_of (Insert n p text) c = inserting n p text c
op_of (Delete n p) c = deleting n p c
op_of (Undo a t g) c = undoing a t g c

-- an insert of one character has another kind than one of two and more
abbrev pub insert_kind : ℕ → ℕ
insert_kind len = if len == 1 then 1 else 4

-- the number of a kind
abbrev pub kind_of : Head → ℕ
kind_of (Insert n p text) = insert_kind (length text)
kind_of (Delete n p) = 2
kind_of (Undo a t g) = 3

abbrev pub site_bytes : Version → ℕ → List ℕ
site_bytes v site = to_be_bytes (site_width v) site

abbrev pub name_bytes : Version → NameData → List ℕ
name_bytes v n = site_bytes v n.site ++ to_be_bytes w32 n.number

-- how many characters an insert has, which the kind says of one
abbrev pub length_bytes : ℕ → List ℕ
length_bytes len = if len == 1 then [] else to_be_bytes w16 len

abbrev pub character_bytes : ℕ → List ℕ
character_bytes ch = to_be_bytes w32 ch

-- how many characters, and these
abbrev pub text_bytes : List ℕ → List ℕ
text_bytes text = length_bytes (length text) ++ flat_map character_bytes text

-- the fields between the kind and the context
abbrev pub field_bytes : Version → Head → List ℕ
field_bytes v (Insert n p text) = name_bytes v n ++ (to_be_bytes w32 p ++ text_bytes text)
field_bytes v (Delete n p) = name_bytes v n ++ to_be_bytes w32 p
field_bytes v (Undo a t g) = site_bytes v a ++ (name_bytes v t ++ to_be_bytes w16 g)

unfoldable pub head_bytes : Version → Head → List ℕ
head_bytes v h = to_be_bytes w8 (kind_of h) ++ field_bytes v h

-- a site with its count
abbrev pub count_bytes : Version → ℕ × ℕ → List ℕ
count_bytes v p = site_bytes v p.0 ++ to_be_bytes w32 p.1

-- how many sites, and these with their counts
abbrev pub counts_bytes : Version → List (ℕ × ℕ) → List ℕ
counts_bytes v counts = to_be_bytes (site_width v) (length counts) ++ flat_map (count_bytes v) counts

-- the number of names of a run, which isn't said where each name is listed by itself
abbrev pub run_length_bytes : Listing → ℕ → List ℕ
run_length_bytes Names len = []
run_length_bytes Runs len = to_be_bytes w16 len
run_length_bytes LongRuns len = to_be_bytes w32 len

-- the first name of a run, how many names it has, and their generation
abbrev pub run_bytes : Listing → RunData → List ℕ
run_bytes k r = name_bytes (version_of k) r.first ++ (run_length_bytes k r.len ++ to_be_bytes w16 r.generation)

-- how many runs, and these
abbrev pub runs_bytes : Listing → List RunData → List ℕ
runs_bytes k rs = to_be_bytes (runs_width k) (length rs) ++ flat_map (run_bytes k) rs

-- undone names with their generations: their runs
abbrev pub entries_bytes : Listing → List (NameData × ℕ) → List ℕ
entries_bytes k entries = runs_bytes k (runs_of k entries)

unfoldable pub context_bytes : Version → ContextData → List ℕ
context_bytes v c = counts_bytes v c.counts ++ entries_bytes (listing_of v) c.entries

unfoldable pub body_bytes : Version → OpData → List ℕ
body_bytes v o = head_bytes v (head_of o) ++ context_bytes v (context_of o)

-- the one frame of an operation
abbrev pub frame : Version → OpData → List ℕ
frame v o = to_be_bytes w32 (length (body_bytes v o)) ++ body_bytes v o
