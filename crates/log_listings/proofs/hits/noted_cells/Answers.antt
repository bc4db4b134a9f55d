use Rattle.std.proofs.Common.{List, sym, subst, arith}
use Rattle.std.proofs.lemmas.List.{take_all}
use Rattle.ttf_form.specs.Cells.{CellData}
use Rattle.log_listings.specs.Code.Hits.{AreNoted}
use Rattle.log_listings.proofs.Appending.{taken_more}
use Rattle.log_listings.proofs.Hitting.{none_noted}
use Rattle.log_listings.proofs.hits.noted_cells.Goals as goal

pub loop-i-init : goal.loop-i-init
loop-i-init c = none_noted c.new-noted.result.entries c.new-noted.ensures.empty

pub loop-i-preserved : goal.loop-i-preserved
loop-i-preserved c =
    let cs = c.args.cells.now.cells in
    subst (λ (xs : List CellData). AreNoted xs c.note_cell.new.noted.entries)
    (sym (taken_more cs c.loop-i.i c.in-Some.cell (sym c.in-Some.ensures)))
    (c.in_ok-note_cell-in-Some.ensures _ c.loop-i.invariant)

pub returns : goal.returns
returns c =
    subst (λ (xs : List CellData). AreNoted xs c.loop-i.noted.entries)
    (take_all c.loop-i.i c.args.cells.now.cells (omega (arith, c.loop-i-test.false, c.len-i-end.ensures))) c.loop-i.invariant
