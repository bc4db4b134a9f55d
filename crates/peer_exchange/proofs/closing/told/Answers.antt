use Rattle.std.proofs.Common.{◌≡◌, ◌∙◌, sym, ap, drop, arith, inl, inr}
use Rattle.wire_codec.specs.declared.fault.Unread.TheVariants as unread
use Rattle.wire_codec.specs.Reading.{fault}
use Rattle.wire_codec.specs.States.{judge_state, state_judgement_of}
use Rattle.wire_codec.proofs.CallerLemmas.{IsBytes}
use Rattle.peer_exchange.proofs.SecondMessages.{second_long, second_tells, second_refuses}
use Rattle.peer_exchange.proofs.closing.told.Goals as goal

pub split_at-requires : goal.split_at-requires
split_at-requires c = second_long c.args.second.now c.requires.whole

pub unreachable-requires : goal.unreachable-requires
unreachable-requires c =
    let read : state_judgement_of c.in_ok-vector.field-0 ≡ judge_state (drop 8 c.args.second.now) =
    c.in_ok-vector.ensures.exact ∙ ap judge_state c.split_at.ensures.back in
    elim c.in-More.is [
      | inl m ↦ second_refuses c.args.second.now (unread.More m.0) c.requires.whole (sym read ∙ ap state_judgement_of m.1)
      | inr b ↦ second_refuses c.args.second.now (unread.Bad (fault b.0 b.1)) c.requires.whole (sym read ∙ ap state_judgement_of b.2)
    ]

pub returns : goal.returns
returns c =
    let read : state_judgement_of c.in_ok-vector.field-0 ≡ judge_state (drop 8 c.args.second.now) =
    c.in_ok-vector.ensures.exact ∙ ap judge_state c.split_at.ensures.back in
    let fits : IsBytes c.args.second.now = λ i. omega (arith, c.type_inv.second i) in
    second_tells c.args.second.now c.in-Got.vector.set c.in-Got.used fits c.requires.whole (sym read ∙ ap state_judgement_of c.in-Got.is)
