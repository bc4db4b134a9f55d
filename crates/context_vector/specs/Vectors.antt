-- Vectors as contracts see them: a context beside the room that its lists have left, and what the calls do to the context.
use Rattle.std.specs.Prelude.{◌≡◌, ℕ, ◌+◌, ◌-◌, ◌<◌, ◌≤◌, Bool, true, false, List, [], ◌∷◌, ◌==◌, ◌&&◌, nat_le, if◌then◌else◌}
use Rattle.op_name.specs.declared.member.Member.{Member}
use Rattle.op_name.specs.declared.member.Member.TheVariants.{Original, Group}
use Rattle.op_name.specs.NameData.{NameData, name_eq, name_lt}
use Rattle.op_name.specs.Members.{member_lt}
use Rattle.context_vector.specs.Contexts.{ContextData, count_of, entry_of, has, put_count, put_entry}

-- whether the lists may be changed in place, and for how many more sites and undone names, at least, they have room
pub record Room : Type 0 where
  pub own : Bool
  pub counts : ℕ
  pub entries : ℕ

-- a set of members, and room for more
pub record VectorData : Type 0 where
  pub set : ContextData
  pub room : Room

-- the member can be added without memory: the lists may be changed in place, and its site or its group is there, or there is a spare place
abbrev pub HasRoomFor : VectorData → Member → Type 0
HasRoomFor v (Original n) = (v.room.own ≡ true) × (count_of v.set n.site ≡ 0 → 1 ≤ v.room.counts)
HasRoomFor v (Group n g) = (v.room.own ≡ true) × (entry_of v.set n < g → 1 ≤ v.room.entries)

-- the member is the last of its site or its name
abbrev pub IsLastMember : ContextData → Member → Type 0
IsLastMember c (Original n) = n.number ≡ count_of c n.site
IsLastMember c (Group n g) = g ≡ entry_of c n

-- the counts without the site
abbrev pub without_site : ℕ → List (ℕ × ℕ) → List (ℕ × ℕ)
without_site s [] = []
without_site s (p ∷ ps) = if p.0 == s then ps else p ∷ without_site s ps

-- the entries without the name
abbrev pub without_name : NameData → List (NameData × ℕ) → List (NameData × ℕ)
without_name n [] = []
without_name n (e ∷ es) = if name_eq e.0 n then es else e ∷ without_name n es

-- the counts with one less than k, at least 1, for the site, which has no pair at 0
abbrev pub lower_count : ℕ → ℕ → List (ℕ × ℕ) → List (ℕ × ℕ)
lower_count s k ps = if k == 1 then without_site s ps else put_count s (k - 1) ps

-- the entries with one less than g, at least 1, for the name, which has no entry at 0
abbrev pub lower_entry : NameData → ℕ → List (NameData × ℕ) → List (NameData × ℕ)
lower_entry n g es = if g == 1 then without_name n es else put_entry n (g - 1) es

-- the context without this member, the last of its site or its name
abbrev pub lowered : ContextData → Member → ContextData
lowered c (Original n) = record c { counts = lower_count n.site n.number c.counts }
lowered c (Group n g) = record c { entries = lower_entry n g c.entries }

-- the first member is at or below the second: of the same site with no greater number, or of the same name with no greater generation
abbrev pub up_to : Member → Member → Bool
up_to (Original n) (Original m) = (n.site == m.site) && (nat_le 1 n.number && nat_le n.number m.number)
up_to (Original n) (Group m h) = false
up_to (Group n g) (Original m) = false
up_to (Group n g) (Group m h) = name_eq n m && (nat_le 1 g && nat_le g h)

-- the number or the generation that the next member of the member's site or name has
abbrev pub next_of : ContextData → Member → ℕ
next_of c (Original n) = count_of c n.site + 1
next_of c (Group n g) = entry_of c n + 1

-- the first member, in the order of members, that `other` has and `c` lacks
pub record IsFirstMissing (c other : ContextData) (m : Member) : Type 0 where
  pub there : has other m ≡ true
  pub lacking : has c m ≡ false
  pub first : (y : Member) → has other y ≡ true → has c y ≡ false → member_lt y m ≡ false

-- each site of the list is below this one
abbrev pub SitesBelow : List (ℕ × ℕ) → ℕ → Type 0
SitesBelow [] s = Unit {0}
SitesBelow (p ∷ ps) s = (p.0 < s) × SitesBelow ps s

-- each name of the list is before this one
abbrev pub NamesBelow : List (NameData × ℕ) → NameData → Type 0
NamesBelow [] n = Unit {0}
NamesBelow (e ∷ es) n = (name_lt e.0 n ≡ true) × NamesBelow es n
