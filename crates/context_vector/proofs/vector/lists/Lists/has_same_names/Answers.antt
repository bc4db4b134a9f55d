use Rattle.std.proofs.Common.{sym, ◌∙◌}
use Rattle.context_vector.specs.Code.Sharing.{data_of}
use Rattle.context_vector.proofs.Marks.{marks_differ}
use Rattle.context_vector.proofs.vector.lists.Lists.has_same_names.Goals as goal

pub returns-then-names_mark : goal.returns-then-names_mark
returns-then-names_mark c =
    let mine = (data_of c.args.self.now).set.entries in
    let theirs = (data_of c.args.other.now).set.entries in
    sym (marks_differ mine theirs (λ same. c.if-names_mark.true (c.names_mark.ensures ∙ (same ∙ sym c.names_mark-2.ensures))))
