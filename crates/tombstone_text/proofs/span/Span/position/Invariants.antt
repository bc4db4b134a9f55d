use Rattle.tombstone_text.specs.Code.Cells.{is_sought}
use Rattle.tombstone_text.specs.Code.Spans.{span_cells}
use Rattle.tombstone_text.proofs.Searches.{NoneBefore}
use Rattle.tombstone_text.proofs.span.Span.position.Given as goal

abbrev pub invariant-loop-k : goal.invariant-loop-k
invariant-loop-k l = NoneBefore (is_sought l.sought) (span_cells l.self) l.k
