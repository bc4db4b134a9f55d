use Rattle.std.proofs.Common.{◌≡◌, ℕ, subst, arith}
use Rattle.ttf_form.specs.Cells.{cells_of}
use Rattle.touched_cells.specs.Code.Seeking.{AreWith, IsOneOf}
use Rattle.touched_cells.proofs.Lists.{with_next}
use Rattle.touched_cells.proofs.seeking.add_insert.Goals as goal

pub loop-offset-preserved : goal.loop-offset-preserved
loop-offset-preserved c =
    with_next (cells_of c.args.cells.now.cells) c.args.name.now c.loop-offset.offset c.args.places.now.items c.loop-offset.places.items
    c.add_place.new.places.items c.in-Some.place c.requires c.in-Some.ensures.stands c.loop-offset.invariant
    c.in_ok-add_place-in-Some.ensures

pub returns : goal.returns
returns c = λ all.
    let last : c.loop-offset.offset ≡ c.args.count = omega arith in
    subst (λ (k : ℕ). AreWith (IsOneOf (cells_of c.args.cells.now.cells) c.args.name.now k) c.args.places.now.items
    c.loop-offset.places.items) last c.loop-offset.invariant
