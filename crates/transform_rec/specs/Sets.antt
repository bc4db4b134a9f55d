-- Sets of members, as tests. Two sets are the same if their tests agree on every member.
use Rattle.std.specs.Prelude.{◌≡◌, Bool, true, false, not, ◌&&◌, ◌||◌, List, [], ◌∷◌}
use Rattle.op_name.specs.declared.member.Member.{Member}
use Rattle.op_name.specs.Members.{member_eq}

-- the set without members
abbrev pub none : Member → Bool
none x = false

abbrev pub IsSubset : (Member → Bool) → (Member → Bool) → Type 0
IsSubset C D = (x : Member) → C x ≡ true → D x ≡ true

abbrev pub SameSet : (Member → Bool) → (Member → Bool) → Type 0
SameSet C D = (x : Member) → C x ≡ D x

-- C with x
abbrev pub plus : (Member → Bool) → Member → Member → Bool
plus C x y = C y || member_eq x y

-- C without x
abbrev pub minus : (Member → Bool) → Member → Member → Bool
minus C x y = C y && not (member_eq x y)

-- the members that both sets have
abbrev pub meet : (Member → Bool) → (Member → Bool) → Member → Bool
meet C D y = C y && D y

-- C with the members of a list
abbrev pub plus_all : (Member → Bool) → List Member → Member → Bool
plus_all C [] = C
plus_all C (x ∷ xs) = plus_all (plus C x) xs
