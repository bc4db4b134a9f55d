use Rattle.std.proofs.Common.{◌≡◌, length, Ok, ◌∙◌, arith}
use Rattle.std.specs.Prelude.{IfOk}
use Rattle.std.proofs.lemmas.Result.{IfOk-weaker, on_err_weaker}
use Rattle.wire_codec.specs.declared.version.Version.TheVariants.{Two}
use Rattle.wire_codec.specs.Spelling.{context_bytes}
use Rattle.wire_codec.specs.Code.Lent.{context_as}
use Rattle.wire_codec.specs.Contexts.{judge_context, context_judgement_of}
use Rattle.wire_codec.proofs.ContextJudgement.{context_only, told_of, context_counts, judged_context}
use Rattle.wire_codec.proofs.lone_contexts.decode_context.Goals as goal

pub decoded-requires : goal.decoded-requires
decoded-requires c = context_counts c.args.bytes.now c.judge.result (λ i. omega (arith, c.type_inv.bytes i)) c.judge.ensures

answer : (c : goal.After-decoded) → IfOk c.decoded.result (λ d. context_judgement_of d ≡ judge_context c.args.bytes.now)
answer c =
    IfOk-weaker c.decoded.result (λ d. context_judgement_of d ≡ context_as c.judge.result)
    (λ d. context_judgement_of d ≡ judge_context c.args.bytes.now)
    (λ d e. e ∙ c.judge.ensures) c.decoded.ensures.exact

pub returns-clause-tells : goal.returns-clause-tells
returns-clause-tells c =
    told_of c.args.bytes.now c.decoded.result (λ i. omega (arith, c.type_inv.bytes i)) c.decoded.ensures.asks (answer c)

pub returns-clause-only : goal.returns-clause-only
returns-clause-only c = λ s rest is e.
    IfOk-weaker c.decoded.result (λ d. context_judgement_of d ≡ judge_context c.args.bytes.now)
    (λ d. context_judgement_of d ≡ Ok (s, length (context_bytes Two s)))
    (λ d same. same ∙ context_only c.args.bytes.now s rest is e) (answer c)

pub returns-clause-memory : goal.returns-clause-memory
returns-clause-memory c =
    on_err_weaker c.decoded.result
    (judged_context c.args.bytes.now c.judge.result (λ i. omega (arith, c.type_inv.bytes i)) c.judge.ensures)
    c.decoded.ensures.memory
