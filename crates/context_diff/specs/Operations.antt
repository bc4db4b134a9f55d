-- Operations as contracts see them (COT 2009: an operation carries the context that it was made in).
use Rattle.std.specs.Prelude.{◌≡◌, ℕ, ◌+◌, ◌<◌, ◌≤◌, Bool, true, false, List, length}
use Rattle.std.specs.Str.{all_scalars}
use Rattle.op_name.specs.declared.member.Member.{Member}
use Rattle.op_name.specs.declared.member.Member.TheVariants.{Original, Group}
use Rattle.op_name.specs.NameData.{NameData, IsName}
use Rattle.op_name.specs.declared.name.TheConstants.{SITES}
use Rattle.op_name.specs.declared.member.TheConstants.{GENERATIONS}
use Rattle.op_name.specs.declared.limits.TheConstants.{LETTERS}
use Rattle.context_vector.specs.Contexts.{ContextData, IsContext, HasNoStray, has, count_of, entry_of}
use Rattle.context_diff.specs.declared.op.TheConstants.{PLACES, UNDO_ENTRIES}

-- an insert has a name, a place, a text (the codes of its characters) and a context; a delete has no text; an undo has its author,
-- the original that it is of, a generation (odd: undo, even: redo) and a context. A place counts all cells, shown or hidden,
-- of the inserts that the context has
pub data OpData : Type 0 where
  inserting : NameData → ℕ → List ℕ → ContextData → OpData
  deleting : NameData → ℕ → ContextData → OpData
  undoing : ℕ → NameData → ℕ → ContextData → OpData

-- the member that an operation is: all undos of one original at one generation are one member
abbrev pub member_of : OpData → Member
member_of (inserting n p text c) = Original n
member_of (deleting n p c) = Original n
member_of (undoing a t g c) = Group t g

-- the context in which the operation was made
abbrev pub context_of : OpData → ContextData
context_of (inserting n p text c) = c
context_of (deleting n p c) = c
context_of (undoing a t g c) = c

-- an original is an insert or a delete
abbrev pub is_original : OpData → Bool
is_original (inserting n p text c) = true
is_original (deleting n p c) = true
is_original (undoing a t g c) = false

-- whether it is an insert
abbrev pub is_insert : OpData → Bool
is_insert (inserting n p text c) = true
is_insert (deleting n p c) = false
is_insert (undoing a t g c) = false

-- how many cells the operation puts: one for each character of an insert
abbrev pub cells_put : OpData → ℕ
cells_put (inserting n p text c) = length text
cells_put (deleting n p c) = 0
cells_put (undoing a t g c) = 0

-- the text of an insert: 1 to LETTERS characters, each a Unicode scalar value (RFC 3629)
pub record IsLetters (text : List ℕ) : Type 0 where
  pub some : 1 ≤ length text
  pub most : length text ≤ LETTERS
  pub scalars : all_scalars text ≡ true

-- Range: names and contexts are in their ranges, a place is at most PLACES, an insert has a text,
-- an author is one of the SITES sites, a generation is 1 to GENERATIONS, a context has at most UNDO_ENTRIES undo entries
abbrev pub IsInRange : OpData → Type 0
IsInRange (inserting n p text c) = IsName n.site n.number × (p ≤ PLACES) × IsLetters text × IsContext c × (length c.entries ≤ UNDO_ENTRIES)
IsInRange (deleting n p c) = IsName n.site n.number × (p ≤ PLACES) × IsContext c × (length c.entries ≤ UNDO_ENTRIES)
IsInRange (undoing a t g c) =
    (a < SITES) × IsName t.site t.number × (1 ≤ g) × (g ≤ GENERATIONS) × IsContext c × (length c.entries ≤ UNDO_ENTRIES)

-- Own: an original knows all earlier originals of its site and no others of it
abbrev pub KeepsOwn : OpData → Type 0
KeepsOwn (inserting n p text c) = count_of c n.site + 1 ≡ n.number
KeepsOwn (deleting n p c) = count_of c n.site + 1 ≡ n.number
KeepsOwn (undoing a t g c) = Unit {0}

-- Target: an undo knows its target, at the generation before its own
abbrev pub KeepsTarget : OpData → Type 0
KeepsTarget (inserting n p text c) = Unit {0}
KeepsTarget (deleting n p c) = Unit {0}
KeepsTarget (undoing a t g c) = (has c (Original t) ≡ true) × (entry_of c t + 1 ≡ g)

-- the rules that an operation keeps by itself, in the order in which they are judged
pub record IsWellFormed (o : OpData) : Type 0 where
  pub in_range : IsInRange o
  pub own : KeepsOwn o
  pub target : KeepsTarget o
  pub stray : HasNoStray (context_of o)
