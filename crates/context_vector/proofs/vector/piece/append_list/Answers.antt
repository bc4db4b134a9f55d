use Rattle.context_vector.proofs.Parts.{joined_last}
use Rattle.context_vector.proofs.vector.piece.append_list.Goals as goal

pub returns : goal.returns
returns g c =
    let last = joined_last c.reserve.new.self.items c.in_ok-new.field-0 in
    cc (c.in_ok-reserve.ensures.items, c.in_ok-new.ensures)
