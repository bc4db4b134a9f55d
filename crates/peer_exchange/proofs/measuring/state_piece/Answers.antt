use Rattle.std.proofs.Common.{arith}
use Rattle.wire_codec.proofs.CallerLemmas.{IsBytes}
use Rattle.peer_exchange.proofs.Staying.{state_fits}
use Rattle.peer_exchange.proofs.measuring.state_piece.Goals as goal

pub returns-clause-fits : goal.returns-clause-fits
returns-clause-fits c =
    let fits : IsBytes c.args.bytes.now = λ i. omega (arith, c.type_inv.bytes i) in
    rw (c.stated.ensures, c.scan_state.ensures.exact) (state_fits c.args.frames c.args.bytes.now fits)
