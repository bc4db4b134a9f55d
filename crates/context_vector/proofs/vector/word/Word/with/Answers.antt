use Rattle.std.proofs.Common.{◌≡◌, ◌+◌, ◌-◌, ◌*◌, ◌%◌, ◌^◌, ◌<◌, ◌∙◌, arith}
use Rattle.context_vector.specs.Code.Words.{with_digit}
use Rattle.context_vector.proofs.Digits.{digit_cleared, digit_put, with_digit_fits}
use Rattle.context_vector.proofs.vector.word.Word.with.Goals as goal
use Rattle.context_vector.proofs.vector.word.Word.with.Goals.{After-from-2}

-- the sum that is made of the digits
whole : (c : After-from-2) →
    c.digits.result - c.from.result * 2 ^ (4 * c.args.place) % 2 ^ 32 + c.from-2.result * 2 ^ (4 * c.args.place) % 2 ^ 32
    ≡ with_digit c.args.self.now.1 c.args.place c.args.digit
whole c =
    let had = c.from.ensures ∙ c.digit.ensures.digit in
    rw (c.digits.ensures, c.from-2.ensures)
    (digit_put c.args.self.now.1 c.args.place c.from.result c.args.digit c.requires.place had c.requires.digit)

pub overflow_sub-digits : goal.overflow_sub-digits
overflow_sub-digits c =
    let had = c.from.ensures ∙ c.digit.ensures.digit in
    rw c.digits.ensures (digit_cleared c.args.self.now.1 c.args.place c.from.result c.requires.place had)

pub overflow_add-digits : goal.overflow_add-digits
overflow_add-digits c =
    let below : c.args.self.now.1 < 2 ^ 32 = omega (arith, c.digits.ensures, c.digits.type_inv) in
    omega (arith, whole c, with_digit_fits c.args.self.now.1 c.args.place c.args.digit c.requires.place c.requires.digit below)

pub returns : goal.returns
returns c = c.new.ensures ∙ (λ i. (c.key.ensures i, whole (goal.at.returns c).After-from-2 i))
