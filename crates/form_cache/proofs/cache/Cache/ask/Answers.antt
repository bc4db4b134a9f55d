use Rattle.std.proofs.Common.{sym, ap, ◌∙◌}
use Rattle.form_cache.specs.Entries.{used}
use Rattle.form_cache.proofs.Entries.{asked_none, asked_often}
use Rattle.form_cache.proofs.cache.Cache.ask.Goals as goal

pub returns-in_err-kept-clause-entries : goal.returns-in_err-kept-clause-entries
returns-in_err-kept-clause-entries g c =
    c.spend.ensures.entries ∙ asked_none c.args.self.now.entries c.args.key.now (sym c.spend.ensures.found ∙ c.in_err-kept.was)

pub returns-clause-entries : goal.returns-clause-entries
returns-clause-entries g c =
    ap (λ l. l.entries) c.promote.ensures.entries
    ∙ (ap (λ d. used d.entries c.args.key.now) c.self.view_is
    ∙ (ap (λ es. used es c.args.key.now) c.spend.ensures.entries
    ∙ asked_often c.args.self.now.entries c.args.key.now c.in_ok-kept.kept c.known.ensures.distinct
    (sym c.spend.ensures.found ∙ c.in_ok-kept.was) c.if-kept.false))
