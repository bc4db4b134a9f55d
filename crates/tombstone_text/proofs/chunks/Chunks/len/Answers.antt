use Rattle.std.proofs.Common.{length, ap, ◌∙◌}
use Rattle.tombstone_text.proofs.Chunked as chunked
use Rattle.tombstone_text.proofs.chunks.Chunks.len.Goals as goal

pub returns : goal.returns
returns c = c.total.ensures.total ∙ chunked.text-len _ _ _ _ c.self.invariant.0 ∙ ap (λ v. length v.cells) c.self.view_is
