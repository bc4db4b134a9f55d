-- Operations that wait, as a list in the order of arrival: what none of them share, and which of them is ready.
use Rattle.std.specs.Prelude.{◌≡◌, ◌≢◌, ◌⊎◌, ℕ, ◌<◌, true, Some, List, [], ◌∷◌, Contains, length, slice_get}
use Rattle.std.specs.Option.{option_map_or}
use Rattle.op_name.specs.declared.member.Member.TheVariants.{Original}
use Rattle.op_name.specs.NameData.{NameData}
use Rattle.context_vector.specs.Contexts.{ContextData, empty, has, Within}
use Rattle.context_diff.specs.Operations.{OpData, member_of, context_of}

-- the operation is in the set, or the set has all that it was made after
abbrev pub IsReady : ContextData → OpData → Type 0
IsReady have o = (has have (member_of o) ≡ true) ⊎ Within (context_of o) have

-- the i-th is ready, and none before it
pub record IsFirstReady (have : ContextData) (os : List OpData) (i : ℕ) : Type 0 where
  pub op : OpData
  pub there : slice_get os i ≡ Some op
  pub ready : IsReady have op
  pub first : (j : ℕ) (o : OpData) → j < i → slice_get os j ≡ Some o → ¬ IsReady have o

abbrev pub NoneReady : ContextData → List OpData → Type 0
NoneReady have os = (o : OpData) → Contains os o → ¬ IsReady have o

-- if both are inserts or deletes, they have different names
abbrev pub HasOtherName : OpData → OpData → Type 0
HasOtherName a b = (n : NameData) → member_of a ≡ Original n → ¬ (member_of b ≡ Original n)

-- an insert or delete of the list that has the operation's name is the operation
abbrev pub NamesAgree : List OpData → OpData → Type 0
NamesAgree os o = (x : OpData) (n : NameData) → Contains os x → member_of x ≡ Original n → member_of o ≡ Original n → x ≡ o

-- each of the list is another operation, of another name
abbrev pub AllDifferFrom : OpData → List OpData → Type 0
AllDifferFrom o [] = Unit {0}
AllDifferFrom o (x ∷ xs) = (x ≢ o) × HasOtherName x o × AllDifferFrom o xs

-- no two of the list are equal, and no two inserts or deletes of it have one name
abbrev pub AreApart : List OpData → Type 0
AreApart [] = Unit {0}
AreApart (o ∷ os) = AllDifferFrom o os × AreApart os

-- what waits: all apart, and fewer than 4,294,967,296
pub record IsPool (os : List OpData) : Type 0 where
  pub apart : AreApart os
  pub short : length os < 4294967296

-- what the i-th was made after, nothing past the end
abbrev pub context_at : List OpData → ℕ → ContextData
context_at os i = option_map_or context_of (slice_get os i) empty
