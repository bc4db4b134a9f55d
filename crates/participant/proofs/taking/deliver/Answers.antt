use Rattle.context_diff.specs.Ops.{data_of}
use Rattle.cot_site.specs.Sites.{state_of}
use Rattle.participant.proofs.Later.{later_taken}
use Rattle.participant.proofs.taking.deliver.Goals as goal

pub returns-then-takes-clause-later : goal.returns-then-takes-clause-later
returns-then-takes-clause-later c =
    later_taken (state_of c.args.site.now) (state_of c.deliver.new.self) (state_of c.settle_after.new.site) (data_of c.args.op.now)
    c.in-Ok.ensures.effect c.settle_after.ensures.later
