use Rattle.std.proofs.Common.{arith}
use Rattle.wire_codec.proofs.CallerLemmas.{IsBytes}
use Rattle.peer_exchange.proofs.Asking.{asks_more}
use Rattle.peer_exchange.proofs.reader.asks.Goals as goal

pub returns : goal.returns
returns c =
    let fits : IsBytes c.args.bytes.now = λ i. omega (arith, c.type_inv.bytes i) in
    λ k. asks_more c.args.which c.args.bytes.now k fits
