use Rattle.std.proofs.Common.{ℕ, List, length, take, ap, ◌∙◌}
use Rattle.std.specs.List.{sum}
use Rattle.tombstone_text.specs.Chunks.{flat}
use Rattle.tombstone_text.specs.Code.Chunks.{bodies}
use Rattle.tombstone_text.proofs.Chunked as chunked
use Rattle.tombstone_text.proofs.chunks.Chunks.chunk_start.Goals as goal

pub returns : goal.returns
returns c =
    c.start_of.ensures ∙ ap (λ (ls : List ℕ). sum (take c.args.i ls)) c.self.invariant.0.lens_are
    ∙ chunked.sum-lens-take (bodies c.self.inside.list.items) c.args.i
    ∙ ap (λ v. length (flat (take c.args.i v.chunks))) c.self.view_is
