use Rattle.cot_site.specs.Sites.{state_of}
use Rattle.cot_site.proofs.LocalOps.{turn_ready}
use Rattle.cot_site.proofs.Made.{turned_made, make_answer}
use Rattle.cot_site.proofs.site.Site.turn.Goals as goal

pub make-requires-clause-own : goal.make-requires-clause-own
make-requires-clause-own c = c.in_ok-context.ensures.0

pub make-requires-clause-next : goal.make-requires-clause-next
make-requires-clause-next c =
    let s = state_of c.args.self.now in
    turn_ready s c.known.ensures.history c.known.ensures.number c.number.result c.args.name c.args.generation c.in_ok-context.context.set
    c.number.ensures c.requires.known c.requires.generation c.requires.below c.in_ok-context.ensures.0 c.in_ok-context.ensures.1

pub returns-clause-answer : goal.returns-clause-answer
returns-clause-answer c =
    let s = state_of c.args.self.now in
    let made =
    turned_made s c.number.result c.args.name c.args.generation c.in_ok-context.context.set c.number.ensures c.requires.generation
    c.in_ok-context.ensures.0 c.in_ok-context.ensures.1 in
    make_answer _ _ c.make.result made c.make.ensures.op c.make.ensures.memory
