use Rattle.cot_site.proofs.Executions.{popped}
use Rattle.cot_site.proofs.replica.take_back.Goals as goal

pub returns-clause-ops : goal.returns-clause-ops
returns-clause-ops c h o grown = popped h c.pop.new.self.ops c.args.book.now.ops o c.pop.result grown c.pop.ensures.none c.pop.ensures.ops
