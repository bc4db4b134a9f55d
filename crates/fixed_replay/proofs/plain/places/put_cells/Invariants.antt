use Rattle.std.proofs.Common.{◌≡◌, ◌-◌}
use Rattle.ttf_form.specs.Cells.{put_in}
use Rattle.context_diff.specs.Replays.{run_of}
use Rattle.fixed_replay.proofs.plain.places.put_cells.Given as goal

-- the cells from this offset on are put
abbrev pub invariant-loop-offset : goal.invariant-loop-offset
invariant-loop-offset l =
    l.cells.items ≡ put_in l.place (run_of l.inserted.name l.offset (l.inserted.len - l.offset)) l.fn.cells.items
