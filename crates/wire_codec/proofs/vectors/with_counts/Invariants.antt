use Rattle.std.proofs.Common.{◌≡◌, [], ◌++◌}
use Rattle.wire_codec.proofs.vectors.with_counts.Given as goal

abbrev pub invariant-loop-site : goal.invariant-loop-site
invariant-loop-site l = (l.vector.set.counts ++ l.site-iterator ≡ l.counts) × (l.vector.set.entries ≡ [])
