use Rattle.std.proofs.Common.{◌≡◌, ◌++◌, take, encode_utf8_all}
use Rattle.visible_view.specs.Code.{flagged}
use Rattle.visible_view.proofs.text.push_flagged.Given as goal

abbrev pub invariant-loop-at : goal.invariant-loop-at
invariant-loop-at l = l.out.items ≡ l.fn.out.items ++ encode_utf8_all (flagged (take l.at l.flags) (take l.at l.text))
