use Rattle.std.proofs.Common.{subst}
use Rattle.cot_site.specs.Sites.{SiteData, AreExecuted, AreCached, AllFormed}
use Rattle.cot_site.proofs.site.Site.known.Goals as goal

pub returns-clause-waiting : goal.returns-clause-waiting
returns-clause-waiting c = subst (λ (s : SiteData). AllFormed s.waiting) c.self.view_is c.self.invariant.1

pub returns-clause-forms : goal.returns-clause-forms
returns-clause-forms c = subst (λ (s : SiteData). AreExecuted s.history s.forms) c.self.view_is c.known.ensures.forms

pub returns-clause-entries : goal.returns-clause-entries
returns-clause-entries c = subst (λ (s : SiteData). AreCached s.history s.entries) c.self.view_is c.known.ensures.entries
