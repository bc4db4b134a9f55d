use Rattle.std.proofs.Common.{◌∙◌, ◌++◌, List, sym, ap, slice_get}
use Rattle.form_rows.specs.Code.Blocks.{joined}
use Rattle.form_rows.proofs.Turns.{first_joined}
use Rattle.form_rows.proofs.blocks.Blocks.first.Goals as goal

pub returns-in-Some : goal.returns-in-Some
returns-in-Some g c =
    sym (first_joined c.deref.result.now c.self.inside.rest.items c.in-Some.block.now c.first.result c.in-Some.ensures.lookup.3.0
    c.in-Some.ensures.lookup.1 c.first.ensures)
    ∙ (ap (λ (bs : List (List g.row.F.Denot)). slice_get (joined bs ++ c.self.inside.rest.items) 0) c.deref.ensures.value
    ∙ ap (λ (l : List g.row.F.Denot). slice_get l 0) c.self.view_is)
