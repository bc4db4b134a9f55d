use Rattle.std.proofs.Common.{sym, ◌∙◌, arith}
use Rattle.wire_codec.proofs.CallerLemmas.{IsBytes}
use Rattle.peer_exchange.proofs.Going.{stands_says, stands_on}
use Rattle.peer_exchange.proofs.measuring.go_on.Goals as goal

pub returns-in-Says-clause-value : goal.returns-in-Says-clause-value
returns-in-Says-clause-value c =
    let fits : IsBytes c.args.bytes.now = λ i. omega (arith, c.type_inv.bytes i) in
    c.in-Says.ensures ∙ sym (stands_says c.args.which c.args.bytes.now _ fits c.loop-next.invariant)

pub loop-next-preserved : goal.loop-next-preserved
loop-next-preserved c = stands_on _ _ _ _ c.loop-next.invariant c.in-On.ensures.0
