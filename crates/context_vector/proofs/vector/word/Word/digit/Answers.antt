use Rattle.std.proofs.Common.{sym}
use Rattle.context_vector.proofs.Digits.{digit_shift}
use Rattle.context_vector.proofs.vector.word.Word.digit.Goals as goal

pub returns-clause-digit : goal.returns-clause-digit
returns-clause-digit c = rw c.digits.ensures (sym (digit_shift c.args.self.now.1 c.args.place))
