use Rattle.std.proofs.Common.{length, filter, ap, ◌∙◌}
use Rattle.ttf_form.specs.Cells.{cell_shown}
use Rattle.tombstone_text.proofs.Chunked as chunked
use Rattle.tombstone_text.proofs.chunks.Chunks.shown_len.Goals as goal

pub returns : goal.returns
returns c =
    c.total.ensures.total ∙ chunked.text-shown _ _ _ _ c.self.invariant.0 ∙ ap (λ v. length (filter cell_shown v.cells)) c.self.view_is
