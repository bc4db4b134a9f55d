use Rattle.std.proofs.Common.{◌≡◌, suc, ◌+◌, ◌∷◌, Some, drop, slice_get, sym, ap, ◌∙◌, subst, arith}
use Rattle.tombstone_text.specs.Code.Spans.{AreLeft, cells_in}
use Rattle.tombstone_text.proofs.Reading.{left_first, left_others}
use Rattle.tombstone_text.proofs.chunk_cells.ChunkCells.next.Goals as goal
use Rattle.tombstone_text.proofs.chunk_cells.ChunkCells.next.Goals.{then-self-count, else-self-count}

pub returns-after-self-count-clause-first : goal.returns-after-self-count-clause-first
returns-after-self-count-clause-first c =
    let at = c.self.inside.at in
    let left = subst (λ ss. AreLeft ss at) c.in-Some.ensures.cases.0 c.self.invariant in
    ap (λ d. Some d) c.cell-cell.ensures
    ∙ ap (λ xs. slice_get xs 0) (sym (left_first c.in-Some.span.now c.in-Some.others.now at left)
    ∙ ap (λ ss. drop at (cells_in ss)) (sym c.in-Some.ensures.cases.0) ∙ c.self.view_is)

pub returns-after-self-count-clause-rest : goal.returns-after-self-count-clause-rest
returns-after-self-count-clause-rest c =
    let at = c.self.inside.at in
    let s = c.in-Some.span.now in
    let others = c.in-Some.others.now in
    let left = subst (λ ss. AreLeft ss at) c.in-Some.ensures.cases.0 c.self.invariant in
    let step : suc at ≡ at + 1 = omega arith in
    let behind =
    ap (λ xs. drop 1 xs) (sym (left_first s others at left) ∙ ap (λ ss. drop at (cells_in ss)) (sym c.in-Some.ensures.cases.0)
    ∙ c.self.view_is) in
    elim c.if-self-count.branch [
      | then-self-count w ↦ w.self-is ∙ ap (λ ss. drop (at + 1) (cells_in ss)) c.in-Some.ensures.cases.0
          ∙ ap (λ n. drop n (cells_in (s ∷ others))) (sym step) ∙ behind
      | else-self-count w ↦ w.self-is
          ∙ sym (left_others s others (suc at) (omega (arith, left.within, w.if-self-count.false, c.count-count.ensures.count))) ∙ behind
    ]
