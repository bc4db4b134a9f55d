use Rattle.tombstone_text.specs.Measures.{weight}
use Rattle.tombstone_text.proofs.Measuring.{by_three}
use Rattle.tombstone_text.proofs.measure.Weight.of.Goals as goal

pub returns : goal.returns
returns c = by_three (λ m. weight m c.args.c) _ _ _ c.len_utf8.ensures.value c.units_of.ensures c.lines_of.ensures
