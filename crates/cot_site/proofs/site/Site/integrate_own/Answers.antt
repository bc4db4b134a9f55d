use Rattle.std.proofs.Common.{sym, subst}
use Rattle.cot_site.specs.Sites.{AllFormed}
use Rattle.cot_site.proofs.site.Site.integrate_own.Goals as goal

pub invariant_of-self-2 : goal.invariant_of-self-2
invariant_of-self-2 c = (c.self.invariant.0, subst AllFormed (sym c.renew.ensures) c.self.invariant.1)
