use Rattle.std.proofs.Common.{◌≡◌, ◌<◌, length, slice_get, Some, sym, ap, ◌∙◌, subst, arith}
use Rattle.std.proofs.lemmas.Result.{on_ok_weaker}
use Rattle.tombstone_text.specs.Cells.{HasGaps}
use Rattle.tombstone_text.proofs.Rooms.{room_by}
use Rattle.tombstone_text.proofs.cells.Cells.reserve_mark.Goals as goal

pub returns-in-By-Some-clause-room : goal.returns-in-By-Some-clause-room
returns-in-By-Some-clause-room c =
    let t = c.reserve_deleters.new.self in
    let p = c.args.cover.now.place in
    let x = c.in-By-Some.cell in
    let at : slice_get t.cells p ≡ Some x =
    ap (λ cs. slice_get cs p) c.reserve_deleters.ensures.cells ∙ sym c.cell.ensures ∙ c.in-By-Some.is-1 in
    let long = ap (λ ds. length ds) c.deleters-deleters.ensures.deleters in
    let gaps =
    subst (λ ds. HasGaps ds t.room.gaps p) (sym c.reserve_deleters.ensures.chunks)
    (subst (λ ns. HasGaps c.make_gaps.new.self.chunks ns p) (sym c.reserve_deleters.ensures.gaps) c.in_ok-make_gaps.ensures.gaps) in
    on_ok_weaker c.reserve_deleters.result
    (λ (room : length c.deleters-deleters.result.now < t.room.deleters).
    room_by t c.args.cover.now c.in-By-Some.name-0 c.in-By-Some.generation-0 x c.in-By-Some.is-0 at (omega (arith, room, long)) gaps)
    c.reserve_deleters.ensures.room
