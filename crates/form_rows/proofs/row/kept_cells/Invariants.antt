use Rattle.std.proofs.Common.{List, []}
use Rattle.form_rows.specs.Code.Blocks.{AreCounted}
use Rattle.form_rows.proofs.Looks.{IsAdding}
use Rattle.form_rows.proofs.row.kept_cells.Given as goal

-- the cells of those so far
abbrev pub invariant-loop-i : goal.invariant-loop-i
invariant-loop-i g l =
    record {
      added : (now : List g.row.F.Denot) × IsAdding g.F.Include.IsInert l.forms l.from [] l.i now
          × AreCounted g.F.Include.extent l.cells now;
    }
