use Rattle.std.proofs.Common.{◌≡◌, length, Ok, ◌∙◌, arith}
use Rattle.std.specs.Prelude.{IfOk}
use Rattle.std.proofs.lemmas.Result.{IfOk-weaker, on_err_weaker}
use Rattle.wire_codec.specs.Spelling.{frame}
use Rattle.wire_codec.specs.Judging.{judge}
use Rattle.wire_codec.specs.Code.Lent.{op_seen, judged_as}
use Rattle.wire_codec.specs.Answers.{judgement_of, TellsOf}
use Rattle.wire_codec.proofs.Fronts.{decode_tells, judged_only, judged_range, judged_frame}
use Rattle.wire_codec.proofs.front.decode_in.Goals as goal

pub decoded-requires : goal.decoded-requires
decoded-requires c =
    judged_range c.args.version c.args.bytes.now c.judge.result (λ i. omega (arith, c.type_inv.bytes i)) c.judge.ensures.exact

answer : (c : goal.After-decoded) → IfOk c.decoded.result (λ d. judgement_of d ≡ judge c.args.version c.args.bytes.now)
answer c =
    IfOk-weaker c.decoded.result (λ d. judgement_of d ≡ judged_as op_seen c.judge.result)
    (λ d. judgement_of d ≡ judge c.args.version c.args.bytes.now)
    (λ d e. e ∙ c.judge.ensures.exact) c.decoded.ensures.exact

pub returns-clause-exact : goal.returns-clause-exact
returns-clause-exact c = answer c

pub returns-clause-tells : goal.returns-clause-tells
returns-clause-tells c =
    IfOk-weaker c.decoded.result (λ d. judgement_of d ≡ judge c.args.version c.args.bytes.now) (TellsOf c.args.version c.args.bytes.now)
    (λ d e. decode_tells c.args.version c.args.bytes.now d (λ i. omega (arith, c.type_inv.bytes i)) e) (answer c)

pub returns-clause-only : goal.returns-clause-only
returns-clause-only c = λ o rest well fits e.
    IfOk-weaker c.decoded.result (λ d. judgement_of d ≡ judge c.args.version c.args.bytes.now)
    (λ d. judgement_of d ≡ Ok (o, length (frame c.args.version o)))
    (λ d is. is ∙ judged_only c.args.version c.args.bytes.now o rest well fits e) (answer c)

pub returns-clause-memory : goal.returns-clause-memory
returns-clause-memory c =
    on_err_weaker c.decoded.result (judged_frame c.args.version c.args.bytes.now c.judge.result (λ i. omega (arith, c.type_inv.bytes i))
    c.judge.ensures.exact) c.decoded.ensures.memory
