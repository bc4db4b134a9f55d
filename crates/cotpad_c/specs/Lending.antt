-- How a handle lends what it has.
use base.Fml.{Fml}
use Rattle.std.specs.Prelude.{Some}
use Rattle.std.specs.Borrow.{Lends, MutBor}
use Rattle.cotpad_c.specs.contracts.hosted.Hosted as hosted
use Rattle.cotpad_c.specs.declared.handle.CotpadSite.{CotpadSite}
use Rattle.cotpad_c.specs.contracts.handle.CotpadSite.{the_row}

-- the handle with this site
abbrev pub with_hosted : CotpadSite → hosted.the_row.Denot → CotpadSite
with_hosted h s = record h { site = Some s }

-- the handle ends with the last value behind the reference
abbrev pub LendsHosted : MutBor CotpadSite → MutBor hosted.the_row.Denot → Fml
LendsHosted h r = Lends the_row hosted.the_row h r (with_hosted h.now)
