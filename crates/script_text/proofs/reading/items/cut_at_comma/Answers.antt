use Rattle.script_text.proofs.FieldLaws.{cut_by_parts}
use Rattle.std.proofs.Common.{arith}
use Rattle.script_text.proofs.reading.items.cut_at_comma.Goals as goal

pub returns : goal.returns
returns c = cut_by_parts 44 _ _ c.split_once.ensures.cases (omega arith)
