use Rattle.std.proofs.Common.{◌≡◌, take, length}
use Rattle.change_list.specs.Told.{after, told}
use Rattle.change_list.specs.Code.Rows.{marks_of}
use Rattle.change_list.proofs.tests.told_of.Given as goal

abbrev pub invariant-loop-was : goal.invariant-loop-was
invariant-loop-was l = record {
  changes : l.changes.items ≡ told (marks_of (take l.was-index l.marks));
  place : l.place ≡ length (after (marks_of (take l.was-index l.marks)));
}
