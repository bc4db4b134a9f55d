use Rattle.std.proofs.Common.{◌≡◌, length}
use Rattle.form_rows.specs.Stretches.{AreNoted}
use Rattle.form_rows.proofs.passages.Passages.note.Given as goal

-- there is a passage over each stretch so far
abbrev pub invariant-loop-i : goal.invariant-loop-i
invariant-loop-i l = record { noted : AreNoted l.self l.executed; count : length l.self ≡ l.i }
