use Rattle.std.proofs.Common.{ℕ, List, ap, ◌∙◌}
use Rattle.tombstone_text.specs.Measures.{weight_shown}
use Rattle.tombstone_text.specs.Code.Weights.{weight_flagged}
use Rattle.tombstone_text.proofs.Measuring.{flagged_shown}
use Rattle.tombstone_text.proofs.chunk.Chunk.weight.Goals as goal

pub returns : goal.returns
returns c m =
    let d = c.args.self.now in
    c.weigh_shown.ensures m ∙ ap (λ (fs : List ℕ). weight_flagged m fs c.text.result.now) c.flags.ensures.flags
    ∙ flagged_shown m d.cells c.text.result.now ∙ ap (λ (ts : List ℕ). weight_shown m d.cells ts) c.text.ensures.text
