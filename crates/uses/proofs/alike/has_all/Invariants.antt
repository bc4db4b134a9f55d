use Rattle.std.specs.List.{AllWithin}
use Rattle.cot_site.specs.Verdicts.{IsRepeat}
use Rattle.uses.proofs.alike.has_all.Given as goal

-- the operations so far are repeats
abbrev pub invariant-loop-i : goal.invariant-loop-i
invariant-loop-i l = AllWithin (IsRepeat l.site.history) l.book.ops 0 l.i
