use Rattle.char_marks.proofs.Made.{made_kept}
use Rattle.char_marks.proofs.marks.Marks.make.Goals as goal

pub keep_own-requires-clause-kept : goal.keep_own-requires-clause-kept
keep_own-requires-clause-kept c =
    made_kept c.args.site.now.number c.args.site.now.history c.args.self.now.kept c.args.v c.args.count c.args.value c.in-Ok.mark
    c.known.ensures.history c.in-Ok.ensures.made
