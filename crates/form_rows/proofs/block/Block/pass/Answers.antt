use Rattle.std.proofs.Common.{List, sym, subst, arith}
use Rattle.form_rows.specs.RowSets.{PassFits}
use Rattle.form_rows.specs.Code.Blocks.{AreWithin}
use Rattle.form_rows.proofs.BlockPasses.{block_passed, block_moved}
use Rattle.form_rows.proofs.block.Block.pass.Goals as goal

pub invariant_of-self : goal.invariant_of-self
invariant_of-self g c =
    block_moved g.F.Include.over g.F.Include.place g.F.Include.extent g.F.Named.named g.met.F.Include.extent_over g.met.F.Named.named_over
    g.F.Placed.shifted g.met.F.Placed.stays_before g.met.F.Placed.moves_after g.met.F.Placed.place_shifted
    c.args.form c.self.inside.forms.items c.in_front.new.forms.items c.self.inside.low c.self.inside.high
    c.saturating_add-self-inside.result c.saturating_add-self-inside-then-place-self.result c.self.inside.cells c.self.inside.site
    c.self.inside.least
    c.cells.result c.cells-then-place-self.result c.self.invariant (omega (arith, c.if-place-self.true, c.at-place.ensures))
    (subst (λ (l : List g.row.F.Denot). PassFits g.F.Include.over g.F.Include.place g.F.Include.extent c.args.form l) (sym c.self.view_is)
    c.requires)
    c.in_front.ensures.row c.cells.ensures c.cells-then-place-self.ensures c.saturating_add-self-inside.ensures
    c.saturating_add-self-inside-then-place-self.ensures

pub invariant_of-self-2 : goal.invariant_of-self-2
invariant_of-self-2 g c =
    block_passed g.F.Include.over g.F.Include.place g.F.Include.extent g.F.Named.named g.met.F.Include.extent_over g.met.F.Named.named_over
    c.args.form c.self.inside.forms.items c.among-form.new.forms.items c.self.inside.low c.self.inside.high c.bounds-low.result.0
    c.bounds-low.result.1 c.self.inside.cells c.self.inside.site c.self.inside.least c.self.invariant c.among-form.ensures.row
    (subst (λ (l : List g.row.F.Denot). AreWithin g.F.Include.place c.bounds-low.result.0 c.bounds-low.result.1 l)
    c.as_slice-2.ensures.value c.bounds-low.ensures)
