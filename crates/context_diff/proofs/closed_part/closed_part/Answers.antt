use Rattle.std.proofs.Common.{sym, subst}
use Rattle.context_vector.specs.Contexts.{ContextData}
use Rattle.context_diff.specs.Histories.{IsClosed}
use Rattle.context_diff.specs.Ops.{data_of}
use Rattle.context_diff.proofs.Complete.{complete}
use Rattle.context_diff.proofs.closed_part.closed_part.Goals as goal

pub returns-then-covers : goal.returns-then-covers
returns-then-covers c =
    let h = c.args.book.now.ops in
    let o = data_of c.in_ok-op.op.now in
    record {
      within = c.covers.ensures.0 c.if-covers.true;
      closed = subst (λ (d : ContextData). IsClosed h d) (sym c.context-part.ensures)
          ((complete h c.known.ensures.valid).closed o c.in_ok-op.ensures.there c.in_ok-op.ensures.original);
    }
