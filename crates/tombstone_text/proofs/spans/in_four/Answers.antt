use Rattle.std.proofs.Common.{◌≡◌, ℕ, ◌+◌, ◌<◌, List, length, take, get_or, ap, ◌∙◌, arith}
use Rattle.tombstone_text.specs.Chunks.{flat}
use Rattle.tombstone_text.specs.Code.Spans.{SpanData, pieces}
use Rattle.tombstone_text.proofs.Pieces.{pieces_long, piece_count}
use Rattle.tombstone_text.proofs.Searches.{length-more}
use Rattle.tombstone_text.proofs.spans.in_four.Goals as goal

-- in front of the next span are the cells in front of a span, and its own
next : (ss : List SpanData) (i j n : ℕ) (x : SpanData) → i < length ss → x ≡ get_or ss i x → n ≡ x.count → j ≡ i + 1
    → length (flat (take j (pieces ss))) ≡ length (flat (take i (pieces ss))) + n
next ss i j n x lt read count is =
    ap (λ k. length (flat (take k (pieces ss)))) is
    ∙ omega (arith, length-more (pieces ss) i (omega (arith, lt, pieces_long ss)), piece_count ss i x lt read, count)

pub returns : goal.returns
returns c =
    let ss = c.args.spans.now in
    let i = c.args.i in
    let lt = c.requires in
    omega (
      arith,
      next ss i (i + 1) c.count.result c.index-spans-i.result (omega (arith, lt)) c.index-spans-i.is c.count.ensures.count (omega arith),
      next ss (i + 1) (i + 2) c.count-2.result c.index-spans-i-2.result (omega (arith, lt)) c.index-spans-i-2.is c.count-2.ensures.count
          (omega arith),
      next ss (i + 2) (i + 3) c.count-3.result c.index-spans-i-3.result (omega (arith, lt)) c.index-spans-i-3.is c.count-3.ensures.count
          (omega arith),
      next ss (i + 3) (i + 4) c.count-4.result c.index-spans-i-4.result (omega (arith, lt)) c.index-spans-i-4.is c.count-4.ensures.count
          (omega arith),
    )
