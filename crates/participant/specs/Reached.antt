-- What a call reaches: a state of the site, with the releases on the way.
use Rattle.std.specs.Prelude.{List, [], ◌++◌, map}
use Rattle.context_diff.specs.Operations.{OpData}
use Rattle.site_answers.specs.declared.release.Release.{Release}
use Rattle.cot_site.specs.Sites.{SiteData, state_of}
use Rattle.cot_site.specs.States.{State, with_last, delivered}
use Rattle.cot_site.specs.Releases.{all_releases, settled, release_of, IsPartlySettled}

-- a state, and what was released on the way there, in order
pub record Reached : Type 0 where
  pub state : State
  pub released : List Release

-- what is said of a site, with what was released
abbrev pub at : SiteData → List Release → Reached
at s rs = record { state = state_of s; released = rs }

-- the state at which a call begins, which has released nothing yet
abbrev pub from : State → Reached
from s = record { state = s; released = [] }

-- an operation more is the last of the history
abbrev pub with_one : Reached → OpData → Reached
with_one a o = record a { state = with_last a.state o }

-- an operation was delivered, with its verdict and effect
abbrev pub with_delivered : Reached → OpData → Reached
with_delivered a o = record a { state = delivered a.state o }

-- all waiting operations that are ready are released, one after the other, until none is
abbrev pub all_settled : Reached → Reached
all_settled a = record { state = settled a.state; released = a.released ++ map release_of (all_releases a.state) }

-- memory ran out on the way there: the first of these releases are done and listed, and an operation is ready yet
abbrev pub IsHalfSettled : Reached → Reached → Type 0
IsHalfSettled a b = IsPartlySettled a.state b.state a.released b.released
