use Rattle.std.proofs.Common.{◌≡◌, ◌<◌, ◌≤◌, ◌^◌, length, sym, ap, subst, arith}
use Rattle.context_diff.specs.Histories.{all_cells}
use Rattle.context_diff.specs.declared.op.TheConstants.{PLACES}
use Rattle.checkpoint_codec.specs.Spelled.{IsSpelled}
use Rattle.checkpoint.proofs.Limits.{history_spelled}
use Rattle.checkpoint.proofs.flattening.write.Goals as goal

pub write_checkpoint-requires : goal.write_checkpoint-requires
write_checkpoint-requires c =
    let h = c.args.site.now.history in
    let fs = c.args.site.now.forms in
    let cells = c.known-2.ensures.cells in
    let same_cells : all_cells c.book.result.now.ops ≡ all_cells h = ap all_cells c.book.ensures in
    let room : all_cells h ≤ PLACES = omega (arith, cells, same_cells) in
    let short = c.known-2.ensures.short in
    let same_len : length c.book.result.now.ops ≡ length h = ap length c.book.ensures in
    let long : length h < 2 ^ 32 = omega (arith, short, same_len) in
    let is = c.histories_have_checkpoints.ensures h fs c.known.ensures.history c.known.ensures.forms room in
    subst IsSpelled (sym c.in_ok-checkpoint.ensures) (history_spelled h fs is long c.requires.names c.requires.groups)
