-- Histories: lists of operations in the order in which a site integrated them, and which operation may come next.
use Rattle.std.specs.Prelude.{◌≡◌, ℕ, ◌+◌, ◌<◌, ◌≤◌, Bool, true, false, List, [], ◌∷◌, ◌++◌, ◌&&◌, ◌||◌, Contains, ◌↔◌, map, max, if◌then◌else◌}
use Rattle.op_name.specs.declared.member.Member.{Member}
use Rattle.op_name.specs.declared.member.Member.TheVariants.{Original}
use Rattle.op_name.specs.NameData.{NameData, name_eq}
use Rattle.op_name.specs.Members.{is_even, member_eq, member_lt}
use Rattle.context_vector.specs.Contexts.{ContextData, Within, has, count_of, empty, raised}
use Rattle.context_diff.specs.Operations.{OpData, inserting, deleting, undoing, member_of, context_of, is_original, cells_put, IsWellFormed}

-- the members of a history, in its order
abbrev pub members_in : List OpData → List Member
members_in h = map member_of h

-- whether some operation of the history is this member
abbrev pub is_known : List OpData → Member → Bool
is_known [] m = false
is_known (o ∷ os) m = member_eq (member_of o) m || is_known os m

-- the generation of an undo of this original, 0 for any other operation
abbrev pub generation_at : OpData → NameData → ℕ
generation_at (inserting n p text c) t = 0
generation_at (deleting n p c) t = 0
generation_at (undoing a n g c) t = if name_eq n t then g else 0

-- the greatest generation of an undo of this original, 0 if there is none
abbrev pub generation_in : List OpData → NameData → ℕ
generation_in [] t = 0
generation_in (o ∷ os) t = max (generation_at o t) (generation_in os t)

-- Force: the original is in force: not undone, or redone
abbrev pub in_force : List OpData → NameData → Bool
in_force h t = is_even (generation_in h t)

-- the members of the history as one context: what a local operation made after it knows
abbrev pub context_after : ContextData → List OpData → ContextData
context_after c [] = c
context_after c (o ∷ os) = context_after (raised c (member_of o)) os

abbrev pub context_of_all : List OpData → ContextData
context_of_all h = context_after empty h

-- Agree: no name has one content in the one and other content in the other
abbrev pub Agree : List OpData → List OpData → Type 0
Agree h p = (o q : OpData) (n : NameData) → Contains h o → Contains p q → member_of o ≡ Original n → member_of q ≡ Original n → o ≡ q

-- two histories with the same inserts and deletes, each at the same generation: authors and contexts of undos play no part
pub record Same (h k : List OpData) : Type 0 where
  pub originals : (o : OpData) → is_original o ≡ true → Contains h o ↔ Contains k o
  pub generations : (t : NameData) → is_known h (Original t) ≡ true → generation_in h t ≡ generation_in k t

-- Lacks, nothing: every member of the context is in the history
abbrev pub LacksNothing : List OpData → ContextData → Type 0
LacksNothing h c = (m : Member) → has c m ≡ true → is_known h m ≡ true

-- Lacks, a member: the least one, in the order of members, that the context names and the history hasn't
pub record LacksFirst (h : List OpData) (c : ContextData) (m : Member) : Type 0 where
  pub named : has c m ≡ true
  pub missing : is_known h m ≡ false
  pub first : (x : Member) → has c x ≡ true → is_known h x ≡ false → member_lt x m ≡ false

-- the context of the last original of this site that c has lies within c
abbrev pub CoversSite : List OpData → ContextData → ℕ → Type 0
CoversSite h c s =
    (o : OpData) (n : NameData) → Contains h o → member_of o ≡ Original n → n.site ≡ s → n.number ≡ count_of c s → Within (context_of o) c

-- closed: so it is for each site
abbrev pub IsClosed : List OpData → ContextData → Type 0
IsClosed h c = (s : ℕ) → CoversSite h c s

-- the number of cells of a context: the sum of the lengths of the inserts among its originals
abbrev pub cells_in : List OpData → ContextData → ℕ
cells_in [] c = 0
cells_in (o ∷ os) c = (if has c (member_of o) then cells_put o else 0) + cells_in os c

-- the number of cells of a history: the sum of the lengths of its inserts
abbrev pub all_cells : List OpData → ℕ
all_cells [] = 0
all_cells (o ∷ os) = cells_put o + all_cells os

-- a place counts the cells of the context: an insert may stand after the last one, a delete needs a cell
abbrev pub HasPlace : List OpData → OpData → Type 0
HasPlace h (inserting n p text c) = p ≤ cells_in h c
HasPlace h (deleting n p c) = p < cells_in h c
HasPlace h (undoing a t g c) = Unit {0}

-- Next: the operation may be integrated after the history
pub record IsNext (h : List OpData) (o : OpData) : Type 0 where
  pub formed : IsWellFormed o
  pub new : is_known h (member_of o) ≡ false
  pub ready : LacksNothing h (context_of o)
  pub closed : is_original o ≡ true → IsClosed h (context_of o)
  pub placed : HasPlace h o

-- each operation of the list is next after the history and those before it
abbrev pub IsValidAfter : List OpData → List OpData → Type 0
IsValidAfter h [] = Unit {0}
IsValidAfter h (o ∷ os) = IsNext h o × IsValidAfter (h ++ o ∷ []) os

-- Valid: each operation is next after those before it
abbrev pub IsValid : List OpData → Type 0
IsValid h = IsValidAfter [] h
