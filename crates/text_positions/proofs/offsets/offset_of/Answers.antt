use Rattle.std.proofs.Common.{ℕ, List, ap, ◌∙◌}
use Rattle.fixed_replay.proofs.CallerLemmas.{replayed_chars_beside}
use Rattle.text_positions.specs.Offsets.{offset_at}
use Rattle.text_positions.proofs.offsets.offset_of.Goals as goal

pub returns : goal.returns
returns c =
    let t = c.cells.result.now in
    c.offset.ensures
    ∙ ap (λ (l : List ℕ). offset_at c.args.measure l c.args.v)
    (replayed_chars_beside c.args.site.now.history t.cells c.cells.ensures.replayed t.text c.cells.ensures.text)
