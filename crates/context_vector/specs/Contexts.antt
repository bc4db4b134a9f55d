-- Contexts: sets of members, each closed downwards, kept as a count for each site and a greatest generation for each
-- undone name (COT 2009: the context of an operation is the set of operations that it was made after).
use Rattle.std.specs.Prelude.{◌≡◌, ℕ, ◌+◌, ◌<◌, ◌≤◌, Bool, true, List, [], ◌∷◌, ◌&&◌, ◌==◌, nat_le, if◌then◌else◌}
use Rattle.op_name.specs.declared.name.TheConstants.{SITES, NUMBERS}
use Rattle.op_name.specs.declared.member.TheConstants.{GENERATIONS}
use Rattle.op_name.specs.declared.member.Member.{Member}
use Rattle.op_name.specs.declared.member.Member.TheVariants.{Original, Group}
use Rattle.op_name.specs.NameData.{NameData, IsName, name_eq, name_lt}
pub use Rattle.op_name.specs.NameData.{IsBefore}

-- a site with its count, sites rising; an undone name with its greatest generation, names rising
pub record ContextData : Type 0 where
  pub counts : List (ℕ × ℕ)
  pub entries : List (NameData × ℕ)

-- the empty context
abbrev pub empty : ContextData
empty = record { counts = []; entries = [] }

-- the count of the first pair of the site, 0 if there is none
abbrev pub count_in : List (ℕ × ℕ) → ℕ → ℕ
count_in [] s = 0
count_in (p ∷ ps) s = if p.0 == s then p.1 else count_in ps s

-- the generation of the first entry of the name, 0 if there is none
abbrev pub entry_in : List (NameData × ℕ) → NameData → ℕ
entry_in [] n = 0
entry_in (e ∷ es) n = if name_eq e.0 n then e.1 else entry_in es n

-- how many originals of a site the context has; they are its first ones
abbrev pub count_of : ContextData → ℕ → ℕ
count_of c s = count_in c.counts s

-- the greatest generation at which the context has a group of the name, 0 if it has none
abbrev pub entry_of : ContextData → NameData → ℕ
entry_of c n = entry_in c.entries n

-- whether a member is in a context
abbrev pub has : ContextData → Member → Bool
has c (Original n) = nat_le 1 n.number && nat_le n.number (count_of c n.site)
has c (Group n g) = nat_le 1 g && nat_le g (entry_of c n)

-- every member of the one context is in the other
abbrev pub Within : ContextData → ContextData → Type 0
Within c d = (m : Member) → has c m ≡ true → has d m ≡ true

-- all counts added up
abbrev pub sum_of_counts : List (ℕ × ℕ) → ℕ
sum_of_counts [] = 0
sum_of_counts (p ∷ ps) = p.1 + sum_of_counts ps

-- the number of originals in a context: it has the first ones of each of its sites
abbrev pub rank_of : ContextData → ℕ
rank_of c = sum_of_counts c.counts

-- sites from `low` on, rising, each below SITES with a count of 1 to NUMBERS
abbrev pub AreCounts : ℕ → List (ℕ × ℕ) → Type 0
AreCounts low [] = Unit {0}
AreCounts low (p ∷ ps) = (low ≤ p.0) × (p.0 < SITES) × (1 ≤ p.1) × (p.1 ≤ NUMBERS) × AreCounts (p.0 + 1) ps

-- names in range, rising, each with a generation of 1 to GENERATIONS
abbrev pub AreEntries : List (NameData × ℕ) → Type 0
AreEntries [] = Unit {0}
AreEntries (e ∷ es) = IsName e.0.site e.0.number × (1 ≤ e.1) × (e.1 ≤ GENERATIONS) × IsBefore e.0 es × AreEntries es

-- the form and the ranges that every context has, so that equal sets are equal contexts
pub record IsContext (c : ContextData) : Type 0 where
  pub counts : AreCounts 0 c.counts
  pub entries : AreEntries c.entries

-- each undo entry names an original that the context has
abbrev pub HasNoStray : ContextData → Type 0
HasNoStray c = (n : NameData) (g : ℕ) → has c (Group n g) ≡ true → has c (Original n) ≡ true

-- the counts with this one for the site, at its place in the order
abbrev pub put_count : ℕ → ℕ → List (ℕ × ℕ) → List (ℕ × ℕ)
put_count s k [] = (s, k) ∷ []
put_count s k (p ∷ ps) = if p.0 == s then (s, k) ∷ ps else if nat_le s p.0 then (s, k) ∷ (p ∷ ps) else p ∷ put_count s k ps

-- the entries with this generation for the name, at its place in the order
abbrev pub put_entry : NameData → ℕ → List (NameData × ℕ) → List (NameData × ℕ)
put_entry n g [] = (n, g) ∷ []
put_entry n g (e ∷ es) = if name_eq e.0 n then (n, g) ∷ es else if name_lt n e.0 then (n, g) ∷ (e ∷ es) else e ∷ put_entry n g es

-- the context in which this member is the last of its site or its name (number or generation at least 1): where it is the next one, the
-- context with it
abbrev pub raised : ContextData → Member → ContextData
raised c (Original n) = record c { counts = put_count n.site n.number c.counts }
raised c (Group n g) = record c { entries = put_entry n g c.entries }

-- the member is the next of its site or its name
abbrev pub IsNextMember : ContextData → Member → Type 0
IsNextMember c (Original n) = n.number ≡ count_of c n.site + 1
IsNextMember c (Group n g) = g ≡ entry_of c n + 1
