use Rattle.std.proofs.Common.{◌≡◌, drop}
use Rattle.cot_site.specs.Code.Notes.{first_of}
use Rattle.cot_site.proofs.notes.Notes.place_of.Given as goal

-- no note before this place is of the key
abbrev pub invariant-loop-at : goal.invariant-loop-at
invariant-loop-at l = first_of l.book.ops l.key l.at (drop l.at l.self) ≡ first_of l.book.ops l.key 0 l.self
