use Rattle.std.proofs.Common.{ap, ◌∙◌}
use Rattle.cotpad_c.specs.Operations.{original_told}
use Rattle.cotpad_c.proofs.ToldInFront.{told_more}
use Rattle.cotpad_c.proofs.ranges.tell_all.Goals as goal

pub loop-i-preserved : goal.loop-i-preserved
loop-i-preserved c =
    told_more original_told c.args.names.now c.args.out.now c.loop-i.out c.loop-i.i c.index-names-i.result c.original_told.result
    c.loop-i-test.true c.requires c.loop-i.invariant (c.original_told.ensures ∙ ap original_told c.index-names-i.is)
