use Rattle.std.proofs.Common.{◌≡◌, ◌++◌}
use Rattle.std.specs.List.{flat_map}
use Rattle.wire_codec.specs.Runs.{names_in}
use Rattle.wire_codec.specs.Code.RunLists.{AreRuns}
use Rattle.wire_codec.proofs.runs.with_entries.Given as goal

abbrev pub invariant-loop-run : goal.invariant-loop-run
invariant-loop-run l =
    (l.vector.set.entries ++ flat_map names_in l.run-iterator ≡ flat_map names_in l.runs)
    × (l.vector.set.counts ≡ l.initial.vector.set.counts)
    × AreRuns l.run-iterator
