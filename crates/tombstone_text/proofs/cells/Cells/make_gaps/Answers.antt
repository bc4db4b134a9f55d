use Rattle.std.proofs.Common.{OnErr, subst}
use Rattle.tombstone_text.specs.Cells.{HasGaps}
use Rattle.tombstone_text.proofs.cells.Cells.make_gaps.Goals as goal

pub returns-clause-memory : goal.returns-clause-memory
returns-clause-memory c =
    subst (λ v. OnErr c.make_gaps.result (¬ HasGaps v.chunks v.room.gaps c.args.place)) c.self.view_is c.make_gaps.ensures.memory
