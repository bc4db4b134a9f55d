use Rattle.std.proofs.Common.{sym, subst}
use Rattle.tombstone_text.specs.Code.Inserts.{AreInserts}
use Rattle.tombstone_text.proofs.Inserts.{inserts_raised}
use Rattle.tombstone_text.proofs.cells.Cells.raise.Goals as goal

pub invariant_of-self : goal.invariant_of-self
invariant_of-self c = (
  tt,
  subst AreInserts (sym c.raise.ensures.cells)
      (inserts_raised c.args.generation c.args.name.now c.self.inside.chunks.cells c.self.invariant.1),
)
