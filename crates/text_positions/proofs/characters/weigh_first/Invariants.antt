-- So many of the first characters are left to be weighed.
use Rattle.std.proofs.Common.{◌≡◌, ◌-◌, ◌≤◌, length, take}
use Rattle.tombstone_text.specs.Measures.{weight_of}
use Rattle.visible_view.specs.Code.{flagged}
use Rattle.text_positions.proofs.characters.weigh_first.Given as goal

abbrev pub invariant-loop-at : goal.invariant-loop-at
invariant-loop-at l =
    let front = flagged (take l.at l.flags) (take l.at l.text) in
    (l.total ≡ weight_of l.measure (take l.count front)) × (l.left ≡ l.count - length front) × (length front ≤ l.at)
