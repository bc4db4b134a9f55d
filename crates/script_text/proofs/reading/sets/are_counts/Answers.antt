use Rattle.std.proofs.Common.{List, ℕ, ap, sym, arith}
use Rattle.std.specs.Prelude.{is_some}
use Rattle.script_text.specs.Sets.{counts_of, rising_counts}
use Rattle.script_text.proofs.reading.sets.are_counts.Goals as goal

pub loop-item-init : goal.loop-item-init
unfolding counts_of
loop-item-init c = (ap (λ (ws : List (List ℕ)). is_some (rising_counts 0 ws)) (sym c.of-items.ensures), omega arith)
