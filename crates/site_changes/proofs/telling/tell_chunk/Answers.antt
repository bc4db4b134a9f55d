use Rattle.std.proofs.Common.{◌++◌, ◌+◌, ℕ, List, [], length, take, get_or, ap, sym, subst, ◌∙◌, arith}
use Rattle.std.proofs.lemmas.List.{length-drop, length-map}
use Rattle.ttf_form.specs.Cells.{CellData}
use Rattle.tombstone_text.specs.Chunks.{flat, flag_of, shown_in}
use Rattle.change_list.specs.declared.change.Change.{Change}
use Rattle.change_list.specs.Told.{told, HasRoom}
use Rattle.site_changes.specs.Code.Marks.{marks_of}
use Rattle.site_changes.proofs.Chunks.{first_at, flag_small, shown_few, front_more, front_short, flag_there, left_rest}
use Rattle.site_changes.proofs.Marks.{marks_room, flag_more, told_one}
use Rattle.site_changes.proofs.telling.tell_chunk.Goals as goal

pub next_cell-requires : goal.next_cell-requires
next_cell-requires c =
    let xs = get_or c.args.cells.now.chunks c.args.chunk [] in
    omega (
      arith,
      c.loop-i-test.true,
      ap (λ (l : List ℕ). length l) c.chunk_flags-flags.ensures.flags,
      length-map xs flag_of,
      ap (λ (l : List CellData). length l) c.loop-i.invariant.2,
      length-drop c.loop-i.i xs,
    )

pub tell_cell-requires : goal.tell_cell-requires
tell_cell-requires c =
    let cs = c.args.cells.now.chunks in
    let there =
    first_at (get_or cs c.args.chunk []) c.loop-i.left c.loop-i.i c.next_cell.result c.loop-i.invariant.2 c.next_cell.ensures.first in
    let ds = flat (take c.args.chunk cs) ++ take c.loop-i.i (get_or cs c.args.chunk []) in
    let short =
    front_short cs c.args.chunk c.loop-i.i c.next_cell.result c.requires.there there c.args.cells.now.cells
    c.known.ensures.chunks in
    subst (λ (n : ℕ). HasRoom n c.loop-i.changes.items) (sym c.loop-i.invariant.1)
    (subst (λ (ts : List Change). HasRoom (shown_in ds) ts) (sym c.loop-i.invariant.0)
    (marks_room c.args.at.now ds (omega (arith, short, c.known.ensures.most))))

pub overflow_add-place : goal.overflow_add-place
overflow_add-place c =
    let cs = c.args.cells.now.chunks in
    let there =
    first_at (get_or cs c.args.chunk []) c.loop-i.left c.loop-i.i c.next_cell.result c.loop-i.invariant.2 c.next_cell.ensures.first in
    let x = c.next_cell.result in
    let ds = flat (take c.args.chunk cs) ++ take c.loop-i.i (get_or cs c.args.chunk []) in
    record {
      fits = omega (
        arith,
        c.loop-i.invariant.1,
        shown_few ds,
        front_short cs c.args.chunk c.loop-i.i x c.requires.there there c.args.cells.now.cells c.known.ensures.chunks,
        c.known.ensures.most,
        c.from-place.ensures,
        flag_there cs c.args.chunk c.loop-i.i x c.requires.there there c.chunk_flags-flags.result.now
            c.chunk_flags-flags.ensures.flags,
        flag_small x,
      );
    }

pub loop-i-preserved : goal.loop-i-preserved
loop-i-preserved c =
    let v = c.args.at.now in
    let cs = c.args.cells.now.chunks in
    let there =
    first_at (get_or cs c.args.chunk []) c.loop-i.left c.loop-i.i c.next_cell.result c.loop-i.invariant.2 c.next_cell.ensures.first in
    let x = c.next_cell.result in
    let ds = flat (take c.args.chunk cs) ++ take c.loop-i.i (get_or cs c.args.chunk []) in
    let more = front_more cs c.args.chunk c.loop-i.i x c.requires.there there in
    let flag =
    c.from-place.ensures
    ∙ flag_there cs c.args.chunk c.loop-i.i x c.requires.there there c.chunk_flags-flags.result.now
    c.chunk_flags-flags.ensures.flags in (
      told_one v ds x c.loop-i.changes.items c.tell_cell.new.changes.items c.loop-i.place c.loop-i.invariant.0 c.loop-i.invariant.1
          c.in_ok-tell_cell.ensures
          ∙ ap (λ (l : List CellData). told (marks_of v l)) (sym more),
      ap (λ (n : ℕ). c.loop-i.place + n) flag
          ∙ ap (λ (n : ℕ). n + flag_of x) c.loop-i.invariant.1
          ∙ sym (flag_more ds x)
          ∙ ap (λ (l : List CellData). shown_in l) (sym more),
      left_rest (get_or cs c.args.chunk []) c.loop-i.left c.next_cell.new.left c.loop-i.i c.loop-i.invariant.2 c.next_cell.ensures.rest,
    )
