use Rattle.std.proofs.Common.{sym, ◌∙◌}
use Rattle.op_name.specs.NameData.{name_eq}
use Rattle.op_name.proofs.CallerLemmas.{name_same}
use Rattle.char_marks.specs.contracts.mark.Mark.{the_view}
use Rattle.char_marks.proofs.SameMarks.{by_contexts, not_not}
use Rattle.char_marks.proofs.mark.Mark.is_same.Goals as goal

pub returns : goal.returns
returns c =
    let x = the_view c.self.inside in
    let y = the_view c.other.inside in
    by_contexts x y c.args.self.now c.args.other.now c.eq.result c.self.view_is c.other.view_is
    (name_same x.name y.name (not_not (name_eq x.name y.name) (sym c.ne.ensures ∙ c.if-ne.false))) c.if-self-other.false
    c.if-self-other-2.false c.if-self-other-3.false (c.is_same_value.ensures.0 c.if-not-is_same_value.false) c.eq.ensures
