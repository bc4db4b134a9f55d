use Rattle.std.proofs.Common.{◌≡◌, map}
use Rattle.tombstone_text.specs.Code.Spans.{raised_run}
use Rattle.tombstone_text.proofs.Raising.{changed_first}
use Rattle.tombstone_text.proofs.chunks.Chunks.raise_from.Given as goal

abbrev pub invariant-loop-i : goal.invariant-loop-i
invariant-loop-i l =
    (l.self.chunks ≡ changed_first l.i (map (raised_run l.generation l.name)) l.fn.self.chunks) × (l.self.text ≡ l.fn.self.text)
