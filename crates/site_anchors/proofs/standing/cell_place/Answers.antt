use Rattle.std.proofs.Common.{refl}
use Rattle.site_anchors.specs.Anchors.{cell_at}
use Rattle.site_anchors.proofs.Told.{stood_had}
use Rattle.site_anchors.proofs.standing.cell_place.Goals as goal

pub returns-then-stands_at-clause-some : goal.returns-then-stands_at-clause-some
returns-then-stands_at-clause-some c = (
  λ _. stood_had c.args.site.now.history c.args.cells.now.cells (cell_at c.args.id.now) c.in-Some.at c.known.ensures.history c.requires
      (c.if-stands_at.ensures refl),
  λ _. refl,
)
