use Rattle.std.proofs.Common.{◌-◌, ◌≤◌, length}
use Rattle.char_marks.proofs.Finding.{AllBefore, NoneAfter}
use Rattle.char_marks.proofs.kept.place_by_name.Given as goal

-- what stands before the lower place has a lesser name, and what stands from the upper one on hasn't
abbrev pub invariant-loop-low : goal.invariant-loop-low
invariant-loop-low l = (l.low ≤ l.high) × (l.high ≤ length l.kept) × AllBefore l.kept l.name l.low × NoneAfter l.kept l.name l.high

abbrev pub decreases-loop-low : goal.decreases-loop-low
decreases-loop-low l = l.high - l.low
