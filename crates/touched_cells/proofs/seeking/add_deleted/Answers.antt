use Rattle.touched_cells.specs.Code.Seeking.{IsDeletedAt}
use Rattle.touched_cells.proofs.Lists.{with_one}
use Rattle.touched_cells.proofs.seeking.add_deleted.Goals as goal

pub returns : goal.returns
returns c = λ all. with_one (IsDeletedAt c.args.cells.now.cells c.args.name.now) c.args.places.now.items c.add_place.new.places.items
    c.args.place c.requires (c.is_deleted_at.ensures.0 c.if-not-is_deleted_at.false) c.in_ok-add_place.ensures
