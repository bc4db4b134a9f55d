use Rattle.std.proofs.Common.{sym, subst, arith}
use Rattle.tombstone_text.specs.Cells.{HasRoomFor}
use Rattle.tombstone_text.proofs.Rooms.{room_past}
use Rattle.tombstone_text.proofs.cells.Cells.reserve.Goals as goal

pub returns-else-cover-len-clause-room : goal.returns-else-cover-len-clause-room
returns-else-cover-len-clause-room c =
    subst (λ a. HasRoomFor c.args.self.now a) (sym c.in-Cover.is)
    (room_past c.args.self.now c.in-Cover.cover c.known.ensures.chunks
    (omega (arith, c.len-in-Cover.ensures, c.if-cover-len.false)))
