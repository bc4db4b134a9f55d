use Rattle.std.proofs.Common.{◌≤◌, ◌<◌, ◌++◌, ◌∷◌, ◌≡◌, ℕ, List, [], take, length, get_or, ap, ap₂, ◌∙◌, sym, append_assoc, arith}
use Rattle.std.proofs.lemmas.List.{take_all, length-drop}
use Rattle.ttf_form.specs.Cells.{CellData}
use Rattle.past_view.specs.Code.PastCells.{past_text}
use Rattle.past_view.proofs.PastText.{past_text_more, left_first, left_rest}
use Rattle.past_view.proofs.past.push_chunk.Goals as goal

pub next_cell-requires : goal.next_cell-requires
next_cell-requires c =
    let xs = get_or c.args.cells.now.chunks c.args.chunk [] in
    omega (
      arith,
      c.loop-i-test.true,
      ap (λ (s : List ℕ). length s) c.chunk_text-text.ensures,
      c.requires.beside,
      ap (λ (l : List CellData). length l) c.loop-i.invariant.1,
      length-drop c.loop-i.i xs,
    )

pub loop-i-preserved : goal.loop-i-preserved
loop-i-preserved c =
    let v = c.args.at.now.set in
    let xs = get_or c.args.cells.now.chunks c.args.chunk [] in
    let ts = get_or c.args.cells.now.texts c.args.chunk [] in
    let k = c.loop-i.i in
    let x = c.next_cell.result in
    let t = c.index-text-i.result in
    let there : x ≡ get_or xs k x = left_first xs c.loop-i.left k x c.loop-i.invariant.1 c.next_cell.ensures.first in
    let beside : t ≡ get_or ts k t = c.index-text-i.is ∙ ap (λ (s : List ℕ). get_or s k t) c.chunk_text-text.ensures in
    let lt : k < length xs =
    omega (arith, c.loop-i-test.true, ap (λ (s : List ℕ). length s) c.chunk_text-text.ensures, c.requires.beside) in (
      c.in_ok-push_cell.ensures.ok
          ∙ ap (λ (bs : List ℕ). bs ++ past_text v (x ∷ []) (t ∷ [])) c.loop-i.invariant.0
          ∙ append_assoc c.args.out.now.items (past_text v (take k xs) (take k ts)) (past_text v (x ∷ []) (t ∷ []))
          ∙ ap (λ (bs : List ℕ). c.args.out.now.items ++ bs)
          (sym (past_text_more v xs ts k x t c.requires.beside lt there beside)),
      left_rest xs c.loop-i.left c.next_cell.new.left k c.loop-i.invariant.1 c.next_cell.ensures.rest,
    )

pub returns-clause-ok : goal.returns-clause-ok
returns-clause-ok c =
    let v = c.args.at.now.set in
    let xs = get_or c.args.cells.now.chunks c.args.chunk [] in
    let ts = get_or c.args.cells.now.texts c.args.chunk [] in
    let done : length ts ≤ c.loop-i.i =
    omega (arith, c.loop-i-test.false, ap (λ (s : List ℕ). length s) c.chunk_text-text.ensures) in
    c.loop-i.invariant.0
    ∙ ap₂ (λ (ys : List CellData) (us : List ℕ). c.args.out.now.items ++ past_text v ys us)
    (take_all c.loop-i.i xs (omega (arith, done, c.requires.beside))) (take_all c.loop-i.i ts done)
