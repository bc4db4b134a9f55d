-- Lists of runs whose names rise, and when each run of a list is as long as can be.
use Rattle.std.specs.Prelude.{◌≡◌, ℕ, ◌+◌, ◌<◌, ◌≤◌, Bool, true, ◌&&◌, ◌==◌, List, [], ◌∷◌, Some, nat_le, nat_lt}
use Rattle.op_name.specs.declared.name.TheConstants.{NUMBERS}
use Rattle.op_name.specs.declared.member.TheConstants.{GENERATIONS}
use Rattle.op_name.specs.NameData.{NameData, IsName, name_lt}
use Rattle.wire_codec.specs.declared.listing.Listing.{Listing}
use Rattle.wire_codec.specs.declared.listing.Listing.TheVariants.{Names, Runs, LongRuns}
use Rattle.wire_codec.specs.Versions.{sites}
use Rattle.wire_codec.specs.Runs.{RunData, last_name, version_of}
use Rattle.wire_codec.specs.Reading.{is_apart, may_have}

-- at least one name, all of them in range
pub record HasNames (r : RunData) : Type 0 where
  pub first : IsName r.first.site r.first.number
  pub some : 1 ≤ r.len
  pub last : r.first.number + r.len ≤ NUMBERS + 1

-- its last name is before the first run
abbrev pub StandsBelow : RunData → List RunData → Type 0
StandsBelow r [] = Unit {0}
StandsBelow r (s ∷ rs) = name_lt (last_name r) s.first ≡ true

-- runs whose names rise, each with a generation
abbrev pub AreRuns : List RunData → Type 0
AreRuns [] = Unit {0}
AreRuns (r ∷ rs) = HasNames r × (1 ≤ r.generation) × (r.generation ≤ GENERATIONS) × StandsBelow r rs × AreRuns rs

-- one name, where each is listed by itself
abbrev pub HasLength : Listing → ℕ → Type 0
HasLength Names len = len ≡ 1
HasLength Runs len = 1 ≤ len
HasLength LongRuns len = 1 ≤ len

-- the first run doesn't go on this one
abbrev pub StandsApart : Listing → RunData → List RunData → Type 0
StandsApart k r [] = Unit {0}
StandsApart k r (s ∷ rs) = is_apart k (Some r) s ≡ true

-- runs as a list of undone names is cut into
abbrev pub AreApart : Listing → List RunData → Type 0
AreApart k [] = Unit {0}
AreApart k (r ∷ rs) = HasLength k r.len × StandsApart k r rs × AreApart k rs

-- the name is one of the run's
abbrev pub holds : RunData → NameData → Bool
holds r n = (r.first.site == n.site) && (nat_le r.first.number n.number && nat_lt n.number (r.first.number + r.len))

-- runs that are written: few names each, and sites that the version can name
abbrev pub FitOut : Listing → List RunData → Type 0
FitOut k [] = Unit {0}
FitOut k (r ∷ rs) = (may_have k r.len ≡ true) × (r.first.site < sites (version_of k)) × FitOut k rs
