use Rattle.std.proofs.Common.{◌≡◌, max, drop}
use Rattle.char_marks.specs.Making.{greatest_number}
use Rattle.char_marks.proofs.making.greatest_number.Given as goal

-- the greatest one so far, and those of what is left
abbrev pub invariant-loop-one : goal.invariant-loop-one
invariant-loop-one l = max l.best (greatest_number l.site (drop l.one-index l.kept)) ≡ greatest_number l.site l.kept
