use Rattle.std.proofs.Common.{subst, IfSome}
use Rattle.cot_site.specs.Sites.{SiteData, IsFormOf}
use Rattle.cot_site.proofs.site.Site.cached.Goals as goal

pub returns-clause-derived : goal.returns-clause-derived
returns-clause-derived c =
    subst (λ (s : SiteData). IfSome c.cached.result (IsFormOf s.history c.args.key.now)) c.self.view_is c.cached.ensures.derived
