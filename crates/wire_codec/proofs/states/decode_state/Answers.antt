use Rattle.std.proofs.Common.{◌≡◌, length, Ok, ◌∙◌, arith}
use Rattle.std.specs.Prelude.{IfOk}
use Rattle.std.proofs.lemmas.Result.{IfOk-weaker, on_err_weaker}
use Rattle.wire_codec.specs.Code.Lent.{state_as}
use Rattle.wire_codec.specs.States.{state_bytes, judge_state, state_judgement_of, TellsOfState}
use Rattle.wire_codec.proofs.StateFronts.{state_only, state_tells, state_counts, judged_state}
use Rattle.wire_codec.proofs.states.decode_state.Goals as goal

pub decoded-requires : goal.decoded-requires
decoded-requires c = state_counts c.args.bytes.now c.judge.result (λ i. omega (arith, c.type_inv.bytes i)) c.judge.ensures

answer : (c : goal.After-decoded) → IfOk c.decoded.result (λ d. state_judgement_of d ≡ judge_state c.args.bytes.now)
answer c =
    IfOk-weaker c.decoded.result (λ d. state_judgement_of d ≡ state_as c.judge.result)
    (λ d. state_judgement_of d ≡ judge_state c.args.bytes.now)
    (λ d e. e ∙ c.judge.ensures) c.decoded.ensures.exact

pub returns-clause-tells : goal.returns-clause-tells
returns-clause-tells c =
    IfOk-weaker c.decoded.result (λ d. state_judgement_of d ≡ judge_state c.args.bytes.now) (TellsOfState c.args.bytes.now)
    (λ d e. state_tells c.args.bytes.now d (λ i. omega (arith, c.type_inv.bytes i)) e) (answer c)

pub returns-clause-only : goal.returns-clause-only
returns-clause-only c = λ s rest is e.
    IfOk-weaker c.decoded.result (λ d. state_judgement_of d ≡ judge_state c.args.bytes.now)
    (λ d. state_judgement_of d ≡ Ok (s, length (state_bytes s)))
    (λ d same. same ∙ state_only c.args.bytes.now s rest is e) (answer c)

pub returns-clause-memory : goal.returns-clause-memory
returns-clause-memory c =
    on_err_weaker c.decoded.result (judged_state c.args.bytes.now c.judge.result (λ i. omega (arith, c.type_inv.bytes i)) c.judge.ensures)
    c.decoded.ensures.memory
