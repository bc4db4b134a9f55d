-- Members of contexts as contracts see them, and their order.
use Rattle.std.specs.Prelude.{ℕ, ◌+◌, ◌*◌, ◌^◌, ◌≤◌, ◌%◌, Bool, true, false, ◌&&◌, ◌||◌, ◌==◌, nat_lt}
use Rattle.op_name.specs.declared.member.Member.{Member}
use Rattle.op_name.specs.declared.member.Member.TheVariants.{Original, Group}
use Rattle.op_name.specs.NameData.{NameData, name_eq, name_lt}

-- the original that a member is, or whose undo group it is
abbrev pub target_of : Member → NameData
target_of (Original n) = n
target_of (Group n g) = n

-- the generation of a group is at least 1 (the type keeps it to GENERATIONS, and names in their ranges)
abbrev pub IsMember : Member → Type 0
IsMember (Original n) = Unit {0}
IsMember (Group n g) = 1 ≤ g

-- groups of odd generations undo, those of even ones redo; without a group the generation is 0
abbrev pub is_even : ℕ → Bool
is_even g = g % 2 == 0

-- the same original, or the group of the same original at the same generation
abbrev pub member_eq : Member → Member → Bool
member_eq (Original n) (Original m) = name_eq n m
member_eq (Original n) (Group m h) = false
member_eq (Group n g) (Original m) = false
member_eq (Group n g) (Group m h) = name_eq n m && (g == h)

-- originals before groups, then by name, then by generation
abbrev pub member_lt : Member → Member → Bool
member_lt (Original n) (Original m) = name_lt n m
member_lt (Original n) (Group m h) = true
member_lt (Group n g) (Original m) = false
member_lt (Group n g) (Group m h) = name_lt n m || (name_eq n m && nat_lt g h)

-- the member in one number: its generation, 0 for an original, its site and its number side by side
abbrev pub code_of : Member → ℕ
code_of (Original n) = n.site * 2 ^ 32 + n.number
code_of (Group n g) = (g * 2 ^ 16 + n.site) * 2 ^ 32 + n.number
