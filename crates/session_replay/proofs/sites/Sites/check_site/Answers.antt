use Rattle.std.proofs.Common.{◌∙◌, sym, subst}
use Rattle.std.specs.Prelude.{Err}
use Rattle.session_replay.specs.Code.Doing.{IsPlace}
use Rattle.session_replay.proofs.Lines.{site_found, site_within, site_missing}
use Rattle.session_replay.proofs.sites.Sites.check_site.Goals as goal

pub returns-in-Ok-clause-there : goal.returns-in-Ok-clause-there
returns-in-Ok-clause-there c = site_within _ c.in-Some.site _ c.args.self.now (sym c.site.ensures ∙ c.in-Some.is) c.in-Ok.ensures

pub returns-in-Ok-clause-ok : goal.returns-in-Ok-clause-ok
returns-in-Ok-clause-ok c = site_found _ c.in-Some.site _ c.args.self.now _ (sym c.site.ensures ∙ c.in-Some.is) c.in-Ok.ensures

pub returns-in-Err-clause-refused : goal.returns-in-Err-clause-refused
returns-in-Err-clause-refused c = site_missing _ c.in-Some.site _ c.args.self.now _ (sym c.site.ensures ∙ c.in-Some.is) c.in-Err.ensures

pub returns-in-Err-clause-known : goal.returns-in-Err-clause-known
returns-in-Err-clause-known c = λ memory. subst (λ w. IsPlace c.args.self.now c.in-Some.site (Err w)) memory c.in-Err.ensures
