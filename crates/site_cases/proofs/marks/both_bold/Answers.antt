use Rattle.std.proofs.Common.{sym, subst}
use Rattle.char_marks.specs.Marks.{MarksData}
use Rattle.char_marks.specs.Covered.{AreFit}
use Rattle.site_cases.proofs.marks.both_bold.Goals as goal

pub returns-then-made : goal.returns-then-made
returns-then-made c =
    let h = c.args.site.now.history in
    c.make.ensures.fit
    (subst (λ (m : MarksData). AreFit h m.kept) (sym c.new-marks.ensures) (c.no_marks_fit.ensures h))
