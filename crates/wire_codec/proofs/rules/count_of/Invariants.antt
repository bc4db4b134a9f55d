use Rattle.std.proofs.Common.{◌≡◌}
use Rattle.context_vector.specs.Contexts.{count_in}
use Rattle.wire_codec.proofs.rules.count_of.Given as goal

abbrev pub invariant-loop-s : goal.invariant-loop-s
invariant-loop-s l = count_in l.context.counts l.site ≡ count_in l.s-iterator l.site
