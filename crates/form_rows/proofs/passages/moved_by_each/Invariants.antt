use Rattle.std.proofs.Common.{◌≡◌, drop}
use Rattle.std.specs.Prelude.{fold}
use Rattle.form_rows.specs.Stretches.{place_after}
use Rattle.form_rows.proofs.passages.moved_by_each.Given as goal

-- the forms that are left bring the place to where all of them bring the first one
abbrev pub invariant-loop-i : goal.invariant-loop-i
invariant-loop-i l = fold place_after l.now (drop l.i l.executed) ≡ fold place_after l.place (drop l.from l.executed)
