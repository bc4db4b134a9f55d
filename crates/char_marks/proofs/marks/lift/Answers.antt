use Rattle.std.proofs.Common.{◌<◌, ◌≤◌, arith}
use Rattle.op_name.specs.declared.member.TheConstants.{GENERATIONS}
use Rattle.context_vector.specs.Contexts.{entry_in}
use Rattle.char_marks.proofs.Lifting.{lifted_by}
use Rattle.char_marks.proofs.marks.lift.Goals as goal

pub returns-clause-ok : goal.returns-clause-ok
returns-clause-ok c =
    let old = c.args.raised.now.set in
    let less : entry_in old.entries c.args.name.now < c.args.generation = omega (arith, c.if-generation-entry.false, c.entry.ensures) in
    let most : c.args.generation ≤ GENERATIONS = omega (arith, c.ranges.generation) in
    lifted_by c.args.name.now c.args.generation old c.raise.new.self.set c.known.ensures c.known-3.ensures c.known-2.ensures most less
    c.in_ok-raise.ensures.raised
