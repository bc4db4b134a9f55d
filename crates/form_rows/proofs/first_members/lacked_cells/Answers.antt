use Rattle.std.proofs.Common.{◌∙◌, ap}
use Rattle.std.specs.Prelude.{slice_get}
use Rattle.form_rows.proofs.Prefixes.{lacking_before, lacking_whole}
use Rattle.form_rows.proofs.first_members.lacked_cells.Goals as goal

pub returns : goal.returns
returns c =
    let h = c.args.book.now.ops in
    let whole =
    lacking_whole h c.known.ensures.valid c.args.book.now.have.set c.args.context.now.set c.known.ensures.have c.cells.result
    c.cells_of_last-had.result c.saturating_sub.result c.cells.ensures c.cells_of_last-had.ensures c.saturating_sub.ensures in
    lacking_before h c.known.ensures.valid c.args.context.now.set c.requires.last c.cells_at-last.result
    (λ o at. c.cells_at-last.ensures o (ap (slice_get h) c.last_place.ensures ∙ at)) c.saturating_sub.result c.saturating_sub-2.result
    whole c.saturating_sub-2.ensures
