-- So many characters are in front of the place, unless the offset is reached behind one of the first ones.
use Rattle.std.proofs.Common.{◌≤◌, length, take}
use Rattle.visible_view.specs.Code.{flagged}
use Rattle.text_positions.proofs.Walks.{IsReached}
use Rattle.text_positions.proofs.characters.find.Given as goal

abbrev pub invariant-loop-at : goal.invariant-loop-at
invariant-loop-at l =
    let front = flagged (take l.at l.flags) (take l.at l.text) in
    IsReached l.measure front l.offset l.count l.total × (length front ≤ l.at)
