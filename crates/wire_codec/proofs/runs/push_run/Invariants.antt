use Rattle.std.proofs.Common.{◌≡◌, ◌++◌}
use Rattle.context_vector.specs.Vectors.{NamesBelow}
use Rattle.wire_codec.specs.Runs.{further, names_from}
use Rattle.wire_codec.proofs.runs.push_run.Given as goal

abbrev pub invariant-loop-i : goal.invariant-loop-i
invariant-loop-i l =
    (l.vector.set
    ≡ record l.initial.vector.set { entries = l.initial.vector.set.entries ++ names_from l.run.first l.i l.run.generation })
    × NamesBelow l.vector.set.entries (further l.run.first l.i)
