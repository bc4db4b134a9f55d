use Rattle.std.proofs.Common.{sym, ◌∙◌}
use Rattle.context_vector.specs.Equality.{context_eq_decides}
use Rattle.context_diff.proofs.judged.are_same.Goals as goal

pub returns : goal.returns
returns c sure = (context_eq_decides c.args.a.now.set c.args.b.now.set).0 (sym c.eq.ensures ∙ sure)
