-- Names as contracts see them, their ranges and their order.
use Rattle.std.specs.Prelude.{◌≡◌, ℕ, ◌<◌, ◌≤◌, Bool, true, List, [], ◌∷◌, ◌&&◌, ◌||◌, ◌==◌, nat_lt}
use Rattle.std.specs.declared.cmp.Ordering.{Ordering}
use Rattle.std.specs.Ordering.{ordering_then, nat_cmp}
use Rattle.op_name.specs.declared.name.TheConstants.{SITES, NUMBERS}

-- a site and a number of that site
pub record NameData : Type 0 where
  pub site : ℕ
  pub number : ℕ

-- the ranges of a name
abbrev pub IsName : ℕ → ℕ → Type 0
IsName site number = (site < SITES) × (1 ≤ number) × (number ≤ NUMBERS)

-- the same site and the same number
abbrev pub name_eq : NameData → NameData → Bool
name_eq n m = (n.site == m.site) && (n.number == m.number)

-- by site, then by number
abbrev pub name_lt : NameData → NameData → Bool
name_lt n m = nat_lt n.site m.site || ((n.site == m.site) && nat_lt n.number m.number)

abbrev pub name_cmp : NameData → NameData → Ordering
name_cmp n m = ordering_then (nat_cmp n.site m.site) (nat_cmp n.number m.number)

-- the name is before the first of the list
abbrev pub IsBefore : NameData → List (NameData × ℕ) → Type 0
IsBefore n [] = Unit {0}
IsBefore n (e ∷ es) = name_lt n e.0 ≡ true
