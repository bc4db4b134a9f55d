use Rattle.std.proofs.Common.{◌≡◌, ◌+◌, ◌*◌, ◌<◌, ◌^◌, length}
use Rattle.context_vector.specs.Contexts.{count_in}
use Rattle.wire_codec.specs.Judging.{run_len, stray_from}
use Rattle.wire_codec.specs.Code.Lent.{context_seen}
use Rattle.wire_codec.proofs.originals.originals.Given as goal

abbrev pub invariant-loop-run : goal.invariant-loop-run
invariant-loop-run l =
    (stray_from l.listing (context_seen l.context) l.at l.run-iterator
    ≡ stray_from l.listing (context_seen l.context) l.begin l.context.runs)
    × (l.at + run_len l.listing * length l.run-iterator < 2 ^ 32)
    × (l.known.count ≡ count_in l.context.counts l.known.site)
