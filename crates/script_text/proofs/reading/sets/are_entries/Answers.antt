use Rattle.std.proofs.Common.{List, ℕ, ap, sym}
use Rattle.std.specs.Prelude.{is_some, None}
use Rattle.script_text.specs.Sets.{entries_of, rising_entries}
use Rattle.script_text.proofs.reading.sets.are_entries.Goals as goal

pub loop-item-init : goal.loop-item-init
unfolding entries_of
loop-item-init c = ap (λ (ws : List (List ℕ)). is_some (rising_entries None ws)) (sym c.of-items.ensures)
