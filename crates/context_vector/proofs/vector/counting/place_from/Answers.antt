use Rattle.context_vector.proofs.Counting.{place_parts, gap_parts}
use Rattle.context_vector.proofs.vector.counting.place_from.Goals as goal

pub returns-in-Ok-clause-below : goal.returns-in-Ok-clause-below
returns-in-Ok-clause-below c = (place_parts c.args.counts.now c.args.site c.in-Ok.at c.requires c.in-Ok.ensures.found).0

pub returns-in-Ok-clause-from : goal.returns-in-Ok-clause-from
returns-in-Ok-clause-from c = (place_parts c.args.counts.now c.args.site c.in-Ok.at c.requires c.in-Ok.ensures.found).1

pub returns-in-Err-clause-below : goal.returns-in-Err-clause-below
returns-in-Err-clause-below c = (gap_parts c.args.counts.now c.args.site c.in-Err.at c.in-Err.ensures.absent).0

pub returns-in-Err-clause-from : goal.returns-in-Err-clause-from
returns-in-Err-clause-from c = (gap_parts c.args.counts.now c.args.site c.in-Err.at c.in-Err.ensures.absent).1
