use Rattle.std.proofs.Common.{ap, sym, ◌∙◌}
use Rattle.char_marks.specs.Marks.{MarkData, mark_named}
use Rattle.char_marks.proofs.marks.Marks.check.Goals as goal

pub returns-in-Some : goal.returns-in-Some
returns-in-Some c =
    let ks = c.args.self.now.kept in
    c.known_verdict.ensures c.args.site.now.history ks
    (ap (λ (m : MarkData). mark_named ks m.name) (sym c.mark.view_is) ∙ sym c.in-Some.ensures.mark)
