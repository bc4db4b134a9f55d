use Rattle.std.proofs.Common.{sym, ◌∙◌}
use Rattle.context_vector.proofs.Parts.{are_the_same, joined_last}
use Rattle.context_vector.proofs.vector.piece.put_like.Goals as goal

pub returns-then-are_equal : goal.returns-then-are_equal
returns-then-are_equal g c =
    let equal = sym c.are_equal.ensures ∙ c.if-are_equal.true in
    let same = are_the_same g.T.PartialEq.eq g.met.T.Element.exact c.args.part.now c.as_slice.result.now equal in
    let last = joined_last c.reserve.new.self.items c.in_ok-try_clone.field-0 in
    cc (c.in_ok-reserve.ensures.items, c.in_ok-try_clone.ensures)
