use Rattle.std.proofs.Common.{sym, ap, ◌∙◌, Bor}
use Rattle.std.specs.Prelude.{option_map}
use Rattle.context_diff.specs.Ops.{data_of}
use Rattle.context_diff.specs.declared.op.Op.{Op}
use Rattle.context_diff.proofs.Judging.{judged_some, lately_fits}
use Rattle.context_diff.proofs.book.Book.judged_at.Goals as goal

pub cells_by-requires : goal.cells_by-requires
cells_by-requires c =
    let at = sym c.op.ensures ∙ ap (option_map (λ (o : Bor Op). data_of o.now)) c.in-Some.is in
    lately_fits c.args.self.now.ops c.known.ensures.valid c.args.lately c.requires c.known.ensures.cells (data_of c.in-Some.op.now) at

pub returns-in-Some : goal.returns-in-Some
returns-in-Some c =
    let at = sym c.op.ensures ∙ ap (option_map (λ (o : Bor Op). data_of o.now)) c.in-Some.is in
    judged_some c.args.self.now.ops c.known.ensures.valid c.args.lately c.requires (data_of c.in-Some.op.now) at c.args.v.now.set
    c.cells_by.result c.cells_by.ensures
