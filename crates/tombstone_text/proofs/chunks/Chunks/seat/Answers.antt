use Rattle.std.proofs.Common.{◌+◌, ◌-◌, length, refl, ap, subst, arith}
use Rattle.tombstone_text.specs.Sums.{IsPart}
use Rattle.tombstone_text.specs.Code.Cells.{IsSeat}
use Rattle.tombstone_text.specs.Code.Chunks.{bodies}
use Rattle.tombstone_text.proofs.Chunked as chunked
use Rattle.tombstone_text.proofs.chunks.Chunks.seat.Goals as goal

pub find-i-requires : goal.find-i-requires
find-i-requires c =
    let all = chunked.text-len _ _ _ _ c.self.invariant.0 in
    let seen = ap (λ v. length v.cells) c.self.view_is in
    let some = c.if-place-eq0.false in
    omega arith

pub returns-else-place-eq0 : goal.returns-else-place-eq0
returns-else-place-eq0 c =
    let cs = (bodies c.self.inside.list.items) in
    let part =
    subst (λ ls. IsPart ls c.find-i.result.0 c.find-i.result.1 (c.args.place - 1)) c.self.invariant.0.lens_are c.find-i.ensures in
    let some = c.if-place-eq0.false in
    let seat : IsSeat cs c.find-i.result.0 (c.find-i.result.1 + 1) c.args.place =
    chunked.seat_behind cs c.find-i.result.0 c.find-i.result.1 (c.find-i.result.1 + 1) (c.args.place - 1) c.args.place part refl
    (omega arith) in
    subst (λ ds. IsSeat ds c.find-i.result.0 (c.find-i.result.1 + 1) c.args.place) (ap (λ v. v.chunks) c.self.view_is) seat
