use Rattle.std.proofs.Common.{ℕ, List, take, ap, ◌∙◌}
use Rattle.std.specs.List.{sum}
use Rattle.std.proofs.lemmas.List.{take-map}
use Rattle.tombstone_text.specs.Chunks.{flat, shown_in}
use Rattle.tombstone_text.specs.Code.Chunks.{bodies}
use Rattle.tombstone_text.proofs.Chunked as chunked
use Rattle.tombstone_text.proofs.chunks.Chunks.shown_start.Goals as goal

pub returns : goal.returns
returns c =
    let cs = bodies c.self.inside.list.items in
    c.start_of.ensures ∙ ap (λ (ss : List ℕ). sum (take c.args.i ss)) c.self.invariant.0.shown_are
    ∙ ap sum (take-map shown_in c.args.i cs) ∙ chunked.sum-shown (take c.args.i cs)
    ∙ ap (λ v. shown_in (flat (take c.args.i v.chunks))) c.self.view_is
