-- A history without its contexts, and the history that it is opened as.
use Rattle.std.specs.Prelude.{◌≡◌, ℕ, zero, suc, ◌+◌, ◌<◌, ◌≤◌, true, List, [], ◌∷◌, ◌++◌, length}
use Rattle.op_name.specs.NameData.{NameData, IsName}
use Rattle.op_name.specs.declared.member.Member.TheVariants.{Original}
use Rattle.context_vector.specs.Contexts.{ContextData, AreEntries, count_of, empty, has, raised}
use Rattle.context_diff.specs.Operations.{OpData, inserting, deleting, undoing, IsLetters}
use Rattle.context_diff.specs.declared.op.TheConstants.{PLACES}
use Rattle.ttf_form.specs.Families.{IsIn}

-- an original without its context: an insert with its text, or a delete. Its place counts all cells that the originals before it put
pub data Placed : Type 0 where
  inserted : NameData → ℕ → List ℕ → Placed
  deleted : NameData → ℕ → Placed

abbrev pub name_of : Placed → NameData
name_of (inserted n p text) = n
name_of (deleted n p) = n

-- how many cells it puts
abbrev pub cells_of : Placed → ℕ
cells_of (inserted n p text) = length text
cells_of (deleted n p) = 0

-- the originals in order, and the undone names, rising, each with its greatest generation
pub record Checkpoint : Type 0 where
  pub originals : List Placed
  pub undone : List (NameData × ℕ)

-- ---- as a history

-- the original as an operation, made in this context
abbrev pub made_in : ContextData → Placed → OpData
made_in c (inserted n p text) = inserting n p text c
made_in c (deleted n p) = deleting n p c

-- the context with this original as the last one of its site
abbrev pub with_placed : ContextData → Placed → ContextData
with_placed c e = raised c (Original (name_of e))

-- the context with these originals
abbrev pub with_all_placed : ContextData → List Placed → ContextData
with_all_placed c [] = c
with_all_placed c (e ∷ es) = with_all_placed (with_placed c e) es

-- each original with those of the context and all before it as its context
abbrev pub flat_originals : ContextData → List Placed → List OpData
flat_originals c [] = []
flat_originals c (e ∷ es) = made_in c e ∷ flat_originals (with_placed c e) es

-- the one undo entry of a name at a generation, none for generation 0
abbrev pub entry_at : NameData → ℕ → List (NameData × ℕ)
entry_at t zero = []
entry_at t (suc g) = (t, suc g) ∷ []

-- the undo by author 0 that follows generation g of an original: it knows the originals of that site up to its target, and the
-- target at g
abbrev pub flat_undo : NameData → ℕ → OpData
flat_undo t g = undoing 0 t (suc g) (record { counts = (t.site, t.number) ∷ []; entries = entry_at t g })

-- the undos of an original at each generation from 1 to this one
abbrev pub flat_undos : NameData → ℕ → List OpData
flat_undos t zero = []
flat_undos t (suc g) = flat_undos t g ++ flat_undo t g ∷ []

-- so for each undone name, one after the other
abbrev pub flat_groups : List (NameData × ℕ) → List OpData
flat_groups [] = []
flat_groups (e ∷ es) = flat_undos e.0 e.1 ++ flat_groups es

-- the history that a checkpoint is opened as
abbrev pub history_of : Checkpoint → List OpData
history_of p = flat_originals empty p.originals ++ flat_groups p.undone

-- ---- what makes a checkpoint one

-- the original is the next one of its site after those of the context, and its place is among so many cells
abbrev pub IsNextPlaced : ContextData → ℕ → Placed → Type 0
IsNextPlaced c k (inserted n p text) =
    IsName n.site n.number × (count_of c n.site + 1 ≡ n.number) × IsLetters text × (p ≤ PLACES) × (p ≤ k)
IsNextPlaced c k (deleted n p) = IsName n.site n.number × (count_of c n.site + 1 ≡ n.number) × (p ≤ PLACES) × (p < k)

-- so is each, after those before it
abbrev pub ArePlaced : ContextData → ℕ → List Placed → Type 0
ArePlaced c k [] = Unit {0}
ArePlaced c k (e ∷ es) = IsNextPlaced c k e × ArePlaced (with_placed c e) (k + cells_of e) es

-- each original may come after those before it, and the undone names are originals among them, rising, in their ranges
pub record IsCheckpoint (p : Checkpoint) : Type 0 where
  pub originals : ArePlaced empty 0 p.originals
  pub undone : AreEntries p.undone
  pub known : (e : NameData × ℕ) → IsIn e p.undone → has (with_all_placed empty p.originals) (Original e.0) ≡ true
