-- What bytes begin with: the rules in the order in which they are tried.
use Rattle.std.specs.Prelude.{◌≡◌, ℕ, ◌+◌, ◌-◌, ◌*◌, Bool, true, ◌&&◌, ◌==◌, List, [], ◌∷◌, ◌++◌, length, take, drop, Result, Ok, Err, nat_lt, if◌then◌else◌}
use Rattle.std.specs.List.{list_all}
use Rattle.std.specs.Int.{w32, from_be_bytes}
use Rattle.op_name.specs.declared.member.Member.TheVariants.{Original}
use Rattle.context_vector.specs.Contexts.{ContextData, has, count_of, entry_of}
use Rattle.context_diff.specs.Operations.{OpData, inserting, deleting, undoing, context_of, IsWellFormed}
use Rattle.wire_codec.specs.declared.cause.Cause.TheVariants.{TooLong, Length, Own, Target, Stray}
use Rattle.wire_codec.specs.declared.fault.Fault.{Fault}
use Rattle.wire_codec.specs.declared.fault.Refused.{Refused}
use Rattle.wire_codec.specs.declared.fault.Refused.TheVariants.{More, Bad}
use Rattle.wire_codec.specs.declared.version.Version.{Version}
use Rattle.wire_codec.specs.declared.listing.Listing.{Listing}
use Rattle.wire_codec.specs.declared.listing.Listing.TheVariants.{Names, Runs, LongRuns}
use Rattle.wire_codec.specs.Versions.{site_len, longest, own_at, Fits}
use Rattle.wire_codec.specs.Runs.{RunData, names_in, runs_of, listing_of}
use Rattle.wire_codec.specs.Spelling.{frame}
use Rattle.wire_codec.specs.Reading.{LeftData, left_at, fault, ◌>>=◌, want, op_at}

-- the bytes of a site with its count
abbrev pub count_len : Version → ℕ
count_len v = site_len v + 4

-- the bytes of a run
abbrev pub run_len : Listing → ℕ
run_len Names = 7
run_len Runs = 10
run_len LongRuns = 12

-- an insert or delete knows just the earlier ones of its site
abbrev pub is_own : OpData → Bool
is_own (inserting n p text c) = count_of c n.site + 1 == n.number
is_own (deleting n p c) = count_of c n.site + 1 == n.number
is_own (undoing a t g c) = true

-- an undo knows its target, at the generation before its own
abbrev pub has_target : OpData → Bool
has_target (inserting n p text c) = true
has_target (deleting n p c) = true
has_target (undoing a t g c) = has c (Original t) && (entry_of c t + 1 == g)

-- each name of each run is an original of the context; else the fault is at the first run with a name that isn't
unfoldable pub stray_from : Listing → ContextData → ℕ → List RunData → Result (Unit {0}) Fault
stray_from k c at [] = Ok tt
stray_from k c at (r ∷ rs) = do
  _ ← want (list_all (λ e. has c (Original e.0)) (names_in r)) Stray at
  stray_from k c (at + run_len k) rs

-- the runs of an operation's undone names
abbrev pub runs_in : Version → OpData → List RunData
runs_in v o = runs_of (listing_of v) (context_of o).entries

-- where the runs begin, which end a body that ends at `stop`
abbrev pub runs_begin : Version → OpData → ℕ → ℕ
runs_begin v o stop = stop - run_len (listing_of v) * length (runs_in v o)

-- a whole body
unfoldable pub body_at : Version → LeftData → Result OpData Fault
body_at v l = do
  o ← op_at v l
  _ ← want (length o.1.bytes == 0) Length o.1.at
  _ ← want (is_own o.0) Own (own_at v)
  _ ← want (has_target o.0) Target (own_at v)
  _ ← stray_from (listing_of v) (context_of o.0) (runs_begin v o.0 o.1.at) (runs_in v o.0)
  Ok o.0

-- the length that four bytes say
abbrev pub length_of : List ℕ → ℕ
length_of bytes = from_be_bytes w32 (take 4 bytes)

abbrev pub judged : ℕ → Result OpData Fault → Result (OpData × ℕ) Refused
judged used (Ok o) = Ok (o, used)
judged used (Err f) = Err (Bad f)

-- the operation of the frame that the bytes begin with, and how many bytes it has
unfoldable pub judge : Version → List ℕ → Result (OpData × ℕ) Refused
judge v bytes =
    if nat_lt (length bytes) 4 then Err (More 4)
    else if nat_lt (longest v) (length_of bytes) then Err (Bad (fault TooLong 0))
    else if nat_lt (length bytes) (4 + length_of bytes) then Err (More (4 + length_of bytes))
    else judged (4 + length_of bytes) (body_at v (left_at 4 (take (length_of bytes) (drop 4 bytes))))

-- the first `used` bytes are the frame of a well-formed operation, all of whose sites a frame of this version can name
pub record IsFrame (v : Version) (bytes : List ℕ) (o : OpData) (used : ℕ) : Type 0 where
  pub well : IsWellFormed o
  pub fits : Fits v o
  pub size : used ≡ length (frame v o)
  pub parts : bytes ≡ frame v o ++ drop used bytes
