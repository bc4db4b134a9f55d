use Rattle.std.proofs.Common.{sym, subst}
use Rattle.char_marks.specs.Marks.{MarksData}
use Rattle.char_marks.specs.Covered.{AreFit}
use Rattle.char_marks.proofs.marks.Marks.keep.Goals as goal

pub invariant_of-self : goal.invariant_of-self
invariant_of-self c = (c.add.ensures.rising, c.add.ensures.few c.self.invariant.1)

pub returns-clause-fit : goal.returns-clause-fit
returns-clause-fit c =
    let h = c.args.site.now.history in
    λ fits. c.add.ensures.fit h (subst (λ (s : MarksData). AreFit h s.kept) (sym c.self.view_is) fits) c.with_ends.ensures.fit
