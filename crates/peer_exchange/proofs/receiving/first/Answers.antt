use Rattle.std.proofs.Common.{inl, inr, sym, ◌∙◌, ap}
use Rattle.wire_codec.specs.Answers.{judgement_of}
use Rattle.peer_exchange.proofs.Receivings.{none_at_end, decoded_first, decoded_never}
use Rattle.peer_exchange.proofs.receiving.first.Goals as goal

pub returns-then-ends-clause-first : goal.returns-then-ends-clause-first
returns-then-ends-clause-first c = λ os are. none_at_end c.args.bytes.now os (sym c.ends.ensures ∙ c.if-ends.true) are

pub unreachable-requires : goal.unreachable-requires
unreachable-requires c =
    let are = c.requires in
    let there = sym c.ends.ensures ∙ c.if-ends.false in
    elim c.in-More.is [
      | inl m ↦ decoded_never c.args.bytes.now _ there (λ o rest well e. ap judgement_of (sym m.1)
          ∙ c.in_ok-op.ensures.only o rest well e) are.0 are.1
      | inr b ↦ decoded_never c.args.bytes.now _ there (λ o rest well e. ap judgement_of (sym b.2)
          ∙ c.in_ok-op.ensures.only o rest well e) are.0 are.1
    ]

pub returns-clause-first : goal.returns-clause-first
returns-clause-first c = λ os are.
    decoded_first c.args.bytes.now c.in-Got.op c.in-Got.used (sym c.ends.ensures ∙ c.if-ends.false)
    (λ o rest well e. ap judgement_of (sym c.in-Got.is) ∙ c.in_ok-op.ensures.only o rest well e) os are
