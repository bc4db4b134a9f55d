use Rattle.std.proofs.Common.{◌≡◌}
use Rattle.std.specs.List.{flat_map}
use Rattle.context_vector.specs.Contexts.{entry_in}
use Rattle.wire_codec.specs.Runs.{names_in}
use Rattle.wire_codec.proofs.runs.generation_of.Given as goal

abbrev pub invariant-loop-run : goal.invariant-loop-run
invariant-loop-run l = entry_in (flat_map names_in l.runs) l.name ≡ entry_in (flat_map names_in l.run-iterator) l.name
