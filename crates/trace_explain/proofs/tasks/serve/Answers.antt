use Rattle.std.proofs.Common.{refl}
use Rattle.trace_explain.specs.Code.Listed.{data_of}
use Rattle.trace_explain.proofs.DerivedForms.{short_history}
use Rattle.trace_explain.proofs.Turned.{line_put, turn_found}
use Rattle.trace_explain.proofs.tasks.serve.Goals as goal

pub returns : goal.returns
returns c =
    let s = short_history c.args.book.now.ops c.known.ensures.valid c.known.ensures.cells in
    turn_found c.args.book.now.ops s c.args.key.now c.args.work.now c.put.new.self (data_of c.args.listing.now) c.args.line.now
    c.requires.derived c.requires.tasks c.requires.there
    (line_put c.args.work.now c.args.work.now c.put.new.self c.args.line.now c.args.line.now c.args.work.now.done refl refl refl
    c.in_ok-put.ensures)
