-- A site as a handle keeps it, and what is said of it.
use Rattle.std.specs.Prelude.{List, []}
use Rattle.site_answers.specs.declared.release.Release.{Release}
use Rattle.cot_site.specs.Sites.{SiteData}
use Rattle.participant.specs.Reached.{Reached, at}

-- a site, and what the last call that could change it released, in order
pub record HostedData : Type 0 where
  pub site : SiteData
  pub released : List Release

-- the site with nothing released
abbrev pub hosting : SiteData → HostedData
hosting s = record { site = s; released = [] }

-- what is said of a site in a handle
abbrev pub reached : HostedData → Reached
reached h = at h.site h.released
