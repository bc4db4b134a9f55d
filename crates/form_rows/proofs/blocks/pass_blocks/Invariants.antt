use Rattle.form_rows.proofs.Turns.{IsPassingBlocks}
use Rattle.form_rows.proofs.blocks.pass_blocks.Given as goal

abbrev pub invariant-loop-x : goal.invariant-loop-x
invariant-loop-x g l = IsPassingBlocks g.F.Include.over g.F.Include.place g.F.Include.extent l.fn.form l.fn.blocks l.f l.x-index l.blocks
