use Rattle.transform_rec.specs.Histories.{family_in}
use Rattle.transform_rec.proofs.Keeping.{found_if, forms_asked}
use Rattle.transform_rec.proofs.work_list.form_kept.Goals as goal

pub returns-clause-form : goal.returns-clause-form
returns-clause-form g c =
    found_if g.F.Include.over (family_in c.args.book.now.ops (g.B.Bases.base_form c.args.bases.now)) c.args.cache.now.entries c.args.key.now
    c.ask.result c.requires c.ask.ensures.form

pub returns-clause-known : goal.returns-clause-known
returns-clause-known g c =
    forms_asked g.F.Include.over (family_in c.args.book.now.ops (g.B.Bases.base_form c.args.bases.now)) c.args.cache.now.entries
    c.ask.new.self.entries c.args.key.now c.requires c.ask.ensures.entries
