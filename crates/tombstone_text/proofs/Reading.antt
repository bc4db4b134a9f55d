-- The cells that are left of a reading of spans.
use Rattle.std.proofs.Common.{◌≡◌, ℕ, zero, suc, ◌<◌, List, [], ◌∷◌, ◌++◌, drop, refl, arith}
use Rattle.std.proofs.lemmas.List.{drop_at}
use Rattle.ttf_form.specs.Cells.{CellData}
use Rattle.tombstone_text.specs.Chunks.{flat}
use Rattle.tombstone_text.specs.Code.Spans.{AreFilled, AreLeft, IsWithinFirst, SpanData, after, cells_in, next_of, pieces, run_from}
use Rattle.tombstone_text.proofs.Following.{length-run}

-- the first cell behind so many of a span, and the others
run_behind : (c : CellData) (k n : ℕ) (ys : List CellData) → k < n
    → drop k (run_from c n ++ ys) ≡ after c k ∷ drop (suc k) (run_from c n ++ ys)
run_behind c k zero ys lt = absurd (omega (arith, lt))
run_behind c zero (suc n) ys lt = refl
run_behind c (suc k) (suc n) ys lt = run_behind (next_of c) k n ys (omega (arith, lt))

pub left_first : (s : SpanData) (ss : List SpanData) (k : ℕ) → AreLeft (s ∷ ss) k
    → drop k (cells_in (s ∷ ss)) ≡ after s.first k ∷ drop (suc k) (cells_in (s ∷ ss))
left_first s ss k l = run_behind s.first k s.count (flat (pieces ss)) l.within

-- with the last cell of a span read, the others are left
pub left_others : (s : SpanData) (ss : List SpanData) (k : ℕ) → k ≡ s.count → drop k (cells_in (s ∷ ss)) ≡ cells_in ss
left_others s ss k e =
    drop_at (run_from s.first s.count) (flat (pieces ss)) k (omega (arith, length-run s.first s.count, e))

-- of the spans after the first none was read
pub others_left : (s : SpanData) (ss : List SpanData) (k : ℕ) → AreLeft (s ∷ ss) k → AreLeft ss 0
others_left s ss k l = record { filled = l.filled.1; within = first ss l.filled.1 }
  where
    first : (ts : List SpanData) → AreFilled (pieces ts) → IsWithinFirst ts 0
    first [] f = tt
    first (t ∷ ts) f = omega (arith, f.0, length-run t.first t.count)
