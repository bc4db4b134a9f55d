use Rattle.std.proofs.Common.{ℕ, List, length, ap, arith}
use Rattle.fixed_replay.proofs.CallerLemmas.{replayed_chars_beside}
use Rattle.text_positions.proofs.Chunks.{chars_few}
use Rattle.text_positions.proofs.lines.known_few.Goals as goal

pub returns : goal.returns
returns c =
    let t = c.cells.result.now in
    let is = replayed_chars_beside c.args.site.now.history t.cells c.cells.ensures.replayed t.text c.cells.ensures.text in
    omega (arith, ap (λ (l : List ℕ). length l) is, chars_few t.cells t.text, c.known.ensures.most)
