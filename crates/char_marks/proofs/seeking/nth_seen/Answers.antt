use Rattle.std.proofs.Common.{◌<◌, length, sym, ◌∙◌, arith}
use Rattle.char_marks.specs.Code.Cells.{cell_at}
use Rattle.char_marks.proofs.Passing.{chunk_found, chunk_passed}
use Rattle.char_marks.proofs.seeking.nth_seen.Goals as goal

pub returns-in-Found : goal.returns-in-Found
returns-in-Found c =
    let chunks = c.args.cells.now.chunks in
    let lt : c.loop-i.i < length chunks = omega (arith, c.loop-i-test.true, c.chunk_count-i-end.ensures) in
    sym (c.loop-i.invariant
    ∙ chunk_found c.args.context.now.set chunks c.loop-i.i c.loop-i.left (cell_at c.in-Found.id) lt c.in-Found.ensures)

pub loop-i-preserved : goal.loop-i-preserved
loop-i-preserved c =
    let chunks = c.args.cells.now.chunks in
    let lt : c.loop-i.i < length chunks = omega (arith, c.loop-i-test.true, c.chunk_count-i-end.ensures) in
    c.loop-i.invariant
    ∙ chunk_passed c.args.context.now.set chunks c.loop-i.i c.loop-i.left c.in-Passed.more lt c.in-Passed.ensures
