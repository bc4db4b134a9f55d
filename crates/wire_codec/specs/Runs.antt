-- Undone names in runs: names of one site whose numbers follow one another, undone at one generation.
use Rattle.std.specs.Prelude.{ℕ, zero, suc, ◌+◌, ◌-◌, Bool, true, false, ◌&&◌, ◌==◌, List, [], ◌∷◌, if◌then◌else◌}
use Rattle.std.specs.Int.{Width, w16, w32}
use Rattle.op_name.specs.NameData.{NameData}
use Rattle.wire_codec.specs.declared.version.Version.{Version}
use Rattle.wire_codec.specs.declared.version.Version.TheVariants.{One, Two}
use Rattle.wire_codec.specs.declared.listing.Listing.{Listing}
use Rattle.wire_codec.specs.declared.listing.Listing.TheVariants.{Names, Runs, LongRuns}

-- so many names from the first one on, each with this generation
pub record RunData : Type 0 where
  pub first : NameData
  pub len : ℕ
  pub generation : ℕ

abbrev pub run_of : NameData → ℕ → ℕ → RunData
run_of first len generation = record { first = first; len = len; generation = generation }

-- the name that is so many numbers further
abbrev pub further : NameData → ℕ → NameData
further n k = record { site = n.site; number = n.number + k }

-- so many names, and their generation with each
unfoldable pub names_from : NameData → ℕ → ℕ → List (NameData × ℕ)
names_from n zero g = []
names_from n (suc k) g = (n, g) ∷ names_from (further n 1) k g

-- the undone names of a run
abbrev pub names_in : RunData → List (NameData × ℕ)
names_in r = names_from r.first r.len r.generation

-- the last name of a run that has one
abbrev pub last_name : RunData → NameData
last_name r = further r.first (r.len - 1)

-- ---- How lists of undone names are cut into runs

-- frames of version 1 list names, those of version 2 runs; a state lists runs of any length
abbrev pub listing_of : Version → Listing
listing_of One = Names
listing_of Two = Runs

-- and their sites are spelled as in that version
abbrev pub version_of : Listing → Version
version_of Names = One
version_of Runs = Two
version_of LongRuns = Two

-- a run may have several names
abbrev pub joins : Listing → Bool
joins Names = false
joins Runs = true
joins LongRuns = true

-- the second run directly continues the first: of the same site and generation, from the next number on
abbrev pub goes_on : RunData → RunData → Bool
goes_on a b = (a.first.site == b.first.site) && (a.first.number + a.len == b.first.number) && (a.generation == b.generation)

-- a run in front of others makes the next one longer where that directly continues it, and else stands by itself
abbrev pub in_front : Listing → RunData → List RunData → List RunData
in_front k a [] = a ∷ []
in_front k a (b ∷ rs) =
    if joins k && goes_on a b then run_of a.first (a.len + b.len) a.generation ∷ rs else a ∷ (b ∷ rs)

-- the runs of a list of undone names, each as long as can be; or each name by itself
unfoldable pub runs_of : Listing → List (NameData × ℕ) → List RunData
runs_of k [] = []
runs_of k (e ∷ es) = in_front k (run_of e.0 1 e.1) (runs_of k es)

-- ---- Widths

-- of the number of runs
abbrev pub runs_width : Listing → Width
runs_width Names = w16
runs_width Runs = w16
runs_width LongRuns = w32
