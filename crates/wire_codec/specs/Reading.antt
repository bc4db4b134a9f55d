-- Reading fields from left to right, with the first fault that is met and the offset at which it is.
use Rattle.std.specs.Prelude.{ℕ, zero, suc, ◌+◌, ◌-◌, Bool, true, false, ◌&&◌, ◌==◌, not, List, [], ◌∷◌, length, take, drop, Option, Some, None, Result, Ok, Err, nat_lt, nat_le, if◌then◌else◌}
use Rattle.std.specs.List.{flat_map}
use Rattle.std.specs.Int.{Width, w8, w16, w32, byte_len, from_be_bytes}
use lib.Utf8.{scalar}
use Rattle.op_name.specs.NameData.{NameData, name_lt}
use Rattle.op_name.specs.declared.name.TheConstants.{NUMBERS}
use Rattle.context_vector.specs.Contexts.{ContextData}
use Rattle.context_diff.specs.Operations.{OpData}
use Rattle.op_name.specs.declared.limits.TheConstants.{LETTERS}
use Rattle.context_diff.specs.declared.op.TheConstants.{UNDO_ENTRIES}
use Rattle.wire_codec.specs.declared.cause.Cause.{Cause}
use Rattle.wire_codec.specs.declared.cause.Cause.TheVariants.{Kind, Range, Char, Order, Zero, Length}
use Rattle.wire_codec.specs.declared.fault.Fault.{Fault}
use Rattle.wire_codec.specs.declared.head.Head.{Head}
use Rattle.wire_codec.specs.declared.head.Head.TheVariants.{Insert, Delete, Undo}
use Rattle.wire_codec.specs.declared.version.Version.{Version}
use Rattle.wire_codec.specs.declared.listing.Listing.{Listing}
use Rattle.wire_codec.specs.declared.listing.Listing.TheVariants.{Names, Runs, LongRuns}
use Rattle.wire_codec.specs.Versions.{site_width, sites}
use Rattle.wire_codec.specs.Runs.{RunData, run_of, names_in, last_name, joins, goes_on, runs_width, listing_of, version_of}
use Rattle.wire_codec.specs.Spelling.{op_of}

-- each element fits the state before it
abbrev pub Follow : {S A : Type 0} → (S → A → Type 0) → (S → A → S) → S → List A → Type 0
Follow Is next state [] = Unit {0}
Follow Is next state (x ∷ xs) = Is state x × Follow Is next (next state x) xs

-- the bytes that are left of a body, and the offset of the first of them
pub record LeftData : Type 0 where
  pub at : ℕ
  pub bytes : List ℕ

abbrev pub left_at : ℕ → List ℕ → LeftData
left_at at bytes = record { at = at; bytes = bytes }

abbrev pub fault : Cause → ℕ → Fault
fault cause offset = record { cause = cause; offset = offset }

-- what a reader finds: a value and the bytes after it, or the first fault
abbrev pub Found : Type 0 → Type 0
Found A = Result (A × LeftData) Fault

-- the first fault stands, and else reading goes on
infixl 10 ◌>>=◌
abbrev pub ◌>>=◌ : {A B : Type 0} → Result A Fault → (A → Result B Fault) → Result B Fault
(Ok x) >>= f = f x
(Err e) >>= f = Err e

-- a value, and where its reader stands after it
abbrev pub after : {A : Type 0} → Result A Fault → LeftData → Found A
after (Ok x) left = Ok (x, left)
after (Err e) left = Err e

abbrev pub want : Bool → Cause → ℕ → Result (Unit {0}) Fault
want true cause offset = Ok tt
want false cause offset = Err (fault cause offset)

-- a number of a width
abbrev pub number : Width → LeftData → Found ℕ
number w l =
    if nat_lt (length l.bytes) (byte_len w) then Err (fault Length l.at)
    else Ok (from_be_bytes w (take (byte_len w) l.bytes), left_at (l.at + byte_len w) (drop (byte_len w) l.bytes))

-- what is read must pass a test; else the fault is at its first byte
abbrev pub tested : {A : Type 0} → (A → Bool) → Cause → (LeftData → Found A) → LeftData → Found A
tested test cause read l = do
  x ← read l
  _ ← want (test x.0) cause l.at
  Ok x

abbrev pub bounded : Width → ℕ → ℕ → Cause → LeftData → Found ℕ
bounded w low high cause = tested (λ n. nat_le low n && nat_le n high) cause (number w)

-- so many elements; a state says what may come next, and an element gives the state after it
unfoldable pub many : {S A : Type 0} → (S → LeftData → Found A) → (S → A → S) → ℕ → S → LeftData → Found (List A)
many step next zero state l = Ok ([], l)
many step next (suc n) state l = do
  first ← step state l
  others ← many step next n (next state first.0) first.1
  Ok (first.0 ∷ others.0, others.1)

-- ---- fields

abbrev pub last_site : Version → ℕ
last_site v = sites v - 1

abbrev pub kind_at : LeftData → Found ℕ
kind_at = bounded w8 1 4 Kind

abbrev pub site_at : Version → LeftData → Found ℕ
site_at v = bounded (site_width v) 0 (last_site v) Range

abbrev pub number_at : LeftData → Found ℕ
number_at = bounded w32 1 NUMBERS Range

abbrev pub place_at : LeftData → Found ℕ
place_at = number w32

abbrev pub generation_at : LeftData → Found ℕ
generation_at = tested (nat_lt 0) Range (number w16)

unfoldable pub name_at : Version → LeftData → Found NameData
name_at v l = do
  site ← site_at v l
  number ← number_at site.1
  Ok (record { site = site.0; number = number.0 }, number.1)

-- ---- texts

-- how many characters an insert of this kind has: one of kind 1, and else two and more, as a field says
abbrev pub length_at : ℕ → LeftData → Found ℕ
length_at kind l = if kind == 1 then Ok (1, l) else bounded w16 2 LETTERS Range l

-- a character, whatever comes before it
abbrev pub character_at : Unit {0} → LeftData → Found ℕ
character_at before = tested scalar Char (number w32)

-- any character may come after any other
abbrev pub any_after : Unit {0} → ℕ → Unit {0}
any_after before ch = tt

-- so many characters
abbrev pub characters_at : ℕ → LeftData → Found (List ℕ)
characters_at n = many character_at any_after n tt

-- ---- heads

-- an insert of this kind, 1 or 4
unfoldable pub insert_at : Version → ℕ → LeftData → Found Head
insert_at v kind l = do
  name ← name_at v l
  place ← place_at name.1
  len ← length_at kind place.1
  text ← characters_at len.0 len.1
  Ok (Insert name.0 place.0 text.0, text.1)

unfoldable pub delete_at : Version → LeftData → Found Head
delete_at v l = do
  name ← name_at v l
  place ← place_at name.1
  Ok (Delete name.0 place.0, place.1)

unfoldable pub undo_at : Version → LeftData → Found Head
undo_at v l = do
  author ← site_at v l
  target ← name_at v author.1
  generation ← generation_at target.1
  Ok (Undo author.0 target.0 generation.0, generation.1)

-- the fields of a kind
abbrev pub fields_at : Version → ℕ → LeftData → Found Head
fields_at v kind l = if kind == 2 then delete_at v l else if kind == 3 then undo_at v l else insert_at v kind l

unfoldable pub head_at : Version → LeftData → Found Head
head_at v l = do
  kind ← kind_at l
  fields_at v kind.0 kind.1

-- ---- contexts

-- a site from `low` on with its count
unfoldable pub count_at : Version → ℕ → LeftData → Found (ℕ × ℕ)
count_at v low l = do
  site ← tested (nat_le low) Order (site_at v) l
  count ← tested (λ n. nat_le n NUMBERS) Range (tested (nat_lt 0) Zero (number w32)) site.1
  Ok ((site.0, count.0), count.1)

-- the least site that may come after this one
abbrev pub site_after : ℕ → ℕ × ℕ → ℕ
site_after low p = p.0 + 1

unfoldable pub counts_at : Version → LeftData → Found (List (ℕ × ℕ))
counts_at v l = do
  n ← bounded (site_width v) 0 (sites v) Range l
  many (count_at v) site_after n.0 0 n.1

-- ---- runs of undone names

-- what stands before a run: the run before it, if there is one, and how many names the runs have so far
pub record Before : Type 0 where
  pub run : Option RunData
  pub names : ℕ

abbrev pub nothing_before : Before
nothing_before = record { run = None; names = 0 }

-- above the last name of the run before, if there is one
abbrev pub is_above : Option RunData → NameData → Bool
is_above None n = true
is_above (Some r) n = name_lt (last_name r) n

-- so many names from this one on have numbers that are in range
abbrev pub are_numbered : NameData → ℕ → Bool
are_numbered n len = nat_le (n.number + len) (NUMBERS + 1)

-- a context may have so many undone names; a state has no limit
abbrev pub may_have : Listing → ℕ → Bool
may_have Names n = nat_le n UNDO_ENTRIES
may_have Runs n = nat_le n UNDO_ENTRIES
may_have LongRuns n = true

-- a length of a run, above 0
abbrev pub some_at : Width → LeftData → Found ℕ
some_at w = tested (nat_lt 0) Zero (number w)

-- how many names a run has from this one on: one where each name is listed by itself, and else as many as a field says
abbrev pub run_length_at : Listing → ℕ → NameData → LeftData → Found ℕ
run_length_at Names so_far n l = Ok (1, l)
run_length_at Runs so_far n l = tested (λ len. are_numbered n len && may_have Runs (so_far + len)) Range (some_at w16) l
run_length_at LongRuns so_far n l = tested (λ len. are_numbered n len && may_have LongRuns (so_far + len)) Range (some_at w32) l

-- a run that could have been part of the run before is none
abbrev pub is_apart : Listing → Option RunData → RunData → Bool
is_apart k None r = true
is_apart k (Some before) r = not (joins k && goes_on before r)

-- the names of a run and their generation, whatever the run before is
unfoldable pub next_run_at : Listing → Before → LeftData → Found RunData
next_run_at k before l = do
  first ← tested (is_above before.run) Order (name_at (version_of k)) l
  len ← run_length_at k before.names first.0 first.1
  generation ← tested (nat_lt 0) Zero (number w16) len.1
  Ok (run_of first.0 len.0 generation.0, generation.1)

-- a run above the one before it, which it doesn't go on
abbrev pub run_at : Listing → Before → LeftData → Found RunData
run_at k before = tested (is_apart k before.run) Order (next_run_at k before)

abbrev pub before_next : Before → RunData → Before
before_next before r = record { run = Some r; names = before.names + r.len }

unfoldable pub runs_at : Listing → LeftData → Found (List RunData)
runs_at k l = do
  n ← bounded (runs_width k) 0 UNDO_ENTRIES Range l
  many (run_at k) before_next n.0 nothing_before n.1

-- ---- contexts and operations

unfoldable pub context_at : Version → LeftData → Found ContextData
context_at v l = do
  counts ← counts_at v l
  runs ← runs_at (listing_of v) counts.1
  Ok (record { counts = counts.0; entries = flat_map names_in runs.0 }, runs.1)

unfoldable pub op_at : Version → LeftData → Found OpData
op_at v l = do
  head ← head_at v l
  context ← context_at v head.1
  Ok (op_of head.0 context.0, context.1)
