use Rattle.std.proofs.Common.{◌+◌, ◌<◌, ℕ, List, ap, arith, length, ◌∙◌}
use Rattle.tombstone_text.proofs.CallerLemmas.{beside_count, beside_at}
use Rattle.past_view.proofs.Stretches.{length_more, front_few, letter_there}
use Rattle.past_view.proofs.player.char_at.Goals as goal

pub overflow_cast-len : goal.overflow_cast-len
overflow_cast-len c =
    let cs = c.args.cells.now.chunks in
    let ts = c.args.cells.now.texts in
    let i = c.loop-i.i in
    let lt : i < length cs = omega (arith, c.chunk_count-i-end.ensures, c.loop-i-test.true) in
    let size = ap (λ (l : List ℕ). length l) c.chunk_text-letters.ensures ∙ beside_at ts cs i c.known.ensures.beside lt in
    let more = length_more cs i lt in
    let front = front_few cs (i + 1) in
    let whole = ap length c.known.ensures.chunks in
    let most = c.known.ensures.most in
    record { fits = omega (arith, size, more, front, whole, most) }

pub returns-then-place-at : goal.returns-then-place-at
returns-then-place-at c =
    let ts = c.args.cells.now.texts in
    let i = c.loop-i.i in
    let count = beside_count ts c.args.cells.now.chunks c.known.ensures.beside in
    let lt : i < length ts = omega (arith, count, c.chunk_count-i-end.ensures, c.loop-i-test.true) in
    letter_there ts c.args.cells.now.text c.chunk_text-letters.result.now i c.loop-i.at c.args.place c.index-letters-place.result
    c.known.ensures.texts lt
    c.loop-i.invariant.0 c.loop-i.invariant.1 c.chunk_text-letters.ensures c.if-place-at.true
    c.index-letters-place.is
