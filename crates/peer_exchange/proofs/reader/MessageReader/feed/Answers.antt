use Rattle.std.proofs.Common.{rules}
use Rattle.peer_exchange.proofs.Asking.{fed_past}
use Rattle.peer_exchange.proofs.reader.MessageReader.feed.Goals as goal

pub returns-clause-not_past : goal.returns-clause-not_past
returns-clause-not_past c =
    rw (← c.self.view_is) (fed_past c.self.inside.which c.self.inside.bytes.items _ _ c.args.piece.now _ c.deref.ensures.value
    c.in_ok-extend_from_slice.ensures.items (search rules) c.ends_here.ensures)
