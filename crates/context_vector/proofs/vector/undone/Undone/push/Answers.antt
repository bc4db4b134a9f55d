use Rattle.std.proofs.Common.{ap, ◌∙◌, arith}
use Rattle.context_vector.specs.Code.Undone.{set_entry}
use Rattle.context_vector.proofs.Undone.{set_some, put_last}
use Rattle.context_vector.proofs.vector.undone.Undone.push.Goals as goal

pub returns-clause-pushed : goal.returns-clause-pushed
returns-clause-pushed c =
    let n = c.args.name in let g = c.args.generation in let es = c.args.self.now.items in
    c.set.ensures
    ∙ (ap (set_entry n g) c.in_ok-reserve.ensures.same
    ∙ (set_some n g es (omega (arith, c.requires.least)) ∙ put_last n g es c.requires.last))
