-- What a book keeps beside its operations.
use Rattle.std.specs.Prelude.{◌≡◌, ℕ, ◌<◌, ◌≤◌, Bool, true, false, List, Option, Some, None, IfSome, length, slice_get}
use Rattle.std.specs.Map.{lookup}
use Rattle.op_name.specs.declared.member.Member.{Member}
use Rattle.op_name.specs.declared.member.Member.TheVariants.{Group}
use Rattle.op_name.specs.NameData.{NameData}
use Rattle.op_name.specs.Members.{member_eq}
use Rattle.context_vector.specs.Contexts.{ContextData}
use Rattle.context_diff.specs.Operations.{OpData}
use Rattle.context_diff.specs.Histories.{IsValid, all_cells, context_of_all, is_known, members_in}
use Rattle.context_diff.specs.Code.Judged.{IsLately}
use Rattle.context_diff.specs.declared.judged.Lately.{Lately}
use Rattle.context_diff.specs.Code.Tallies.{AreTallies, ArePlaced}

-- the place of a member in a history, or that it isn't there
abbrev pub IsPlaceOf : List OpData → Member → Option ℕ → Type 0
IsPlaceOf h m None = is_known h m ≡ false
IsPlaceOf h m (Some i) = slice_get (members_in h) i ≡ Some m

-- each undo group of the history has its place, and no other group has one
abbrev pub AreGroups : List OpData → List (Member × ℕ) → Type 0
AreGroups h places = (t : NameData) (g : ℕ) → IsPlaceOf h (Group t g) (lookup (member_eq (Group t g)) places)

-- a valid history, whose members are `have`, with the number of its cells, the counts and the places of the originals of each site, the
-- places of undo groups, and how many cells the contexts of at most two of its inserts and deletes have; where there are operations, the
-- lists of the members may be changed in place
pub record IsBook (h : List OpData) (have : ContextData) (own : Bool) (number : ℕ)
    (counts places : ℕ → List ℕ) (seats : List (Member × ℕ)) (last earlier : Option Lately) : Type 0 where
  pub valid : IsValid h
  pub members : have ≡ context_of_all h
  pub in_place : 1 ≤ length h → own ≡ true
  pub cells : number ≡ all_cells h
  pub tallies : AreTallies h counts
  pub placed : ArePlaced h places
  pub groups : AreGroups h seats
  pub lately : IfSome last (IsLately h)
  pub before : IfSome earlier (IsLately h)
  pub short : length h < 4294967296
  pub few : all_cells h < 4294967296
