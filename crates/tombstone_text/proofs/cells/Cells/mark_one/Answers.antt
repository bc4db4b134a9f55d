use Rattle.std.proofs.Common.{sym, subst}
use Rattle.tombstone_text.specs.Cells.{HasGaps}
use Rattle.tombstone_text.specs.Code.Inserts.{AreInserts}
use Rattle.tombstone_text.proofs.Inserts.{inserts_changed}
use Rattle.tombstone_text.proofs.cells.Cells.mark_one.Goals as goal

pub invariant_of-self : goal.invariant_of-self
invariant_of-self c = (
  tt,
  subst AreInserts (sym c.mark.ensures.cells)
      (inserts_changed c.args.cover.now.mark c.args.cover.now.place c.self.inside.chunks.cells c.self.invariant.1),
)

pub mark-requires-clause-gaps : goal.mark-requires-clause-gaps
mark-requires-clause-gaps c =
    subst (λ v. HasGaps v.chunks v.room.gaps c.args.cover.now.place) (sym c.self.view_is) c.requires.room.1
