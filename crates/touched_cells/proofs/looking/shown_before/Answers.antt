use Rattle.std.proofs.Common.{ℕ, List, [], take, length, get_or, ap, sym, ◌∙◌, arith}
use Rattle.lane_rank.specs.Ones.{ones_of}
use Rattle.ttf_form.specs.Cells.{CellData}
use Rattle.tombstone_text.proofs.CallerLemmas.{ones-flags}
use Rattle.touched_cells.proofs.Spots.{spot_few}
use Rattle.touched_cells.proofs.looking.shown_before.Goals as goal

pub ones_before-requires-clause-all : goal.ones_before-requires-clause-all
ones_before-requires-clause-all c =
    c.chunk_shown.ensures
    ∙ sym (ones-flags (get_or c.args.cells.now.chunks c.args.chunk []))
    ∙ ap ones_of (sym c.chunk_flags.ensures.flags)

pub overflow_add-result : goal.overflow_add-result
overflow_add-result c =
    record {
      fits = omega (
        arith,
        c.shown_start-front.ensures,
        c.ones_before.ensures ∙ ap (λ (fs : List ℕ). ones_of (take c.args.at fs)) c.chunk_flags.ensures.flags,
        spot_few c.args.cells.now.chunks c.args.chunk c.args.at c.requires.chunk c.requires.at,
        ap (λ (l : List CellData). length l) c.known.ensures.chunks,
        c.known.ensures.most,
      );
    }
