use Rattle.std.proofs.Common.{sym, subst}
use Rattle.char_marks.specs.Marks.{MarksData}
use Rattle.char_marks.specs.Covered.{AreFit}
use Rattle.site_cases.proofs.marks.undoes.Goals as goal

pub returns-in-Ok : goal.returns-in-Ok
returns-in-Ok c = subst (λ (m : MarksData). AreFit c.args.site.now.history m.kept) (sym c.in-Ok.ensures.raised) c.requires

pub returns-in-Err : goal.returns-in-Err
returns-in-Err c = subst (λ (m : MarksData). AreFit c.args.site.now.history m.kept) (sym c.in-Err.ensures.err) c.requires
