-- How a site is lent to a call that changes it.
use base.Fml.{Fml}
use Rattle.std.specs.Borrow.{Lends, MutBor}
use Rattle.cot_site.specs.contracts.site.Site as site
use Rattle.cotpad_c.specs.Hosting.{HostedData}
use Rattle.cotpad_c.specs.contracts.hosted.Hosted as hosted

-- the same releases beside this site
abbrev pub with_site : HostedData → site.the_row.Denot → HostedData
with_site h s = record h { site = s }

-- the site ends with the last value behind the reference
abbrev pub LendsSite : MutBor HostedData → MutBor site.the_row.Denot → Fml
LendsSite h r = Lends hosted.the_row site.the_row h r (with_site h.now)
