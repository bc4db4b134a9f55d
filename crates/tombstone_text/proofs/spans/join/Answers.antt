use Rattle.std.proofs.Common.{◌≡◌, ℕ, suc, ◌+◌, ◌-◌, ◌<◌, ◌∷◌, [], length, set, take, refl, sym, ap, ◌∙◌, subst, arith}
use Rattle.ttf_form.specs.Cells.{put_in}
use Rattle.tombstone_text.specs.Chunks.{flat}
use Rattle.tombstone_text.specs.Code.Spans.{AreFilled, IsNext, after, cells_in, pieces, run_from}
use Rattle.tombstone_text.proofs.Chunked.{filled_set}
use Rattle.tombstone_text.proofs.Following.{length-run, run_more}
use Rattle.tombstone_text.proofs.Pieces.{pieces_long, pieces_set, piece_read, flat_grown}
use Rattle.tombstone_text.proofs.Shown.{read_same}
use Rattle.tombstone_text.proofs.spans.join.Goals as goal

pub join-requires : goal.join-requires
join-requires c =
    let ss = c.args.spans.now.items in
    let lt : c.args.i - 1 < length ss = let some = c.if-i-eq0.false in omega arith in
    subst (λ x. IsNext x c.args.ins.now)
    (read_same ss (c.args.i - 1) c.index.result.now c.index_mut-span.result.now lt c.index.ensures c.index_mut-span.ensures.value)
    (c.is_before.ensures c.if-is_before.true)

pub returns-then-is_before-clause-joined : goal.returns-then-is_before-clause-joined
returns-then-is_before-clause-joined c _ =
    let ss = c.args.spans.now.items in
    let k : ℕ = c.args.i - 1 in
    let x = c.index_mut-span.result.now in
    let y = c.join.new.self in
    let p : ℕ = length (flat (take c.args.i (pieces ss))) in
    let next : c.args.i ≡ suc k = let some = c.if-i-eq0.false in omega arith in
    let lt : k < length ss = omega arith in
    let read = c.index_mut-span.ensures.value in
    let is : IsNext x c.args.ins.now =
    subst (λ z. IsNext z c.args.ins.now) (read_same ss k c.index.result.now x lt c.index.ensures read)
    (c.is_before.ensures c.if-is_before.true) in
    let new = after x.first x.count ∷ [] in
    ap (λ cs. flat cs) (pieces_set ss k y)
    ∙ ap (λ z. flat (set (pieces ss) k (run_from z.first z.count))) c.join.ensures
    ∙ ap (λ d. flat (set (pieces ss) k d)) (sym (run_more x.first x.count (x.count + 1) (omega arith)))
    ∙ flat_grown (pieces ss) k c.args.i p (run_from x.first x.count) new (omega (arith, lt, pieces_long ss)) (piece_read ss k x lt read)
    next refl
    ∙ ap (λ d. put_in p d (cells_in ss)) (sym is.next)

pub returns-then-is_before-clause-filled : goal.returns-then-is_before-clause-filled
returns-then-is_before-clause-filled c =
    let ss = c.args.spans.now.items in
    let y = c.join.new.self in
    let more = ap (λ v. v.count) c.join.ensures in
    subst AreFilled (sym (pieces_set ss (c.args.i - 1) y))
    (filled_set (pieces ss) (c.args.i - 1) (run_from y.first y.count) c.requires.filled
    (omega (arith, more, length-run y.first y.count)))
