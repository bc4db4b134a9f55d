use Rattle.std.proofs.Common.{arith}
use Rattle.wire_codec.proofs.CallerLemmas.{IsBytes}
use Rattle.peer_exchange.proofs.Asking.{not_past_at}
use Rattle.peer_exchange.proofs.reader.ends_here.Goals as goal

pub returns : goal.returns
returns c =
    let fits : IsBytes c.args.all.now = λ i. omega (arith, c.type_inv.all i) in
    not_past_at c.args.which c.args.all.now c.args.before fits
