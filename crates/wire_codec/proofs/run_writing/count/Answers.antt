use Rattle.std.proofs.Common.{length, ap, sym, ◌∙◌}
use Rattle.wire_codec.proofs.RunWriting.{empty_runs, first_runs}
use Rattle.wire_codec.proofs.run_writing.count.Goals as goal

pub returns-in-empty : goal.returns-in-empty
returns-in-empty c = sym (ap length (empty_runs c.args.listing c.args.entries.now c.in-empty.len_below))

pub returns-in-len1-up : goal.returns-in-len1-up
returns-in-len1-up c =
    c.count_from.ensures
    ∙ ap length (first_runs c.args.listing c.args.entries.now c.first-item.result c.single.result c.in-len1-up.len_at_least c.first-item.is
    c.single.ensures)
