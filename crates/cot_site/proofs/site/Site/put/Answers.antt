use Rattle.cot_site.specs.Sites.{state_of}
use Rattle.cot_site.proofs.LocalOps.{insert_ready}
use Rattle.cot_site.proofs.Made.{insert_made, make_answer}
use Rattle.cot_site.proofs.site.Site.put.Goals as goal

pub make-requires-clause-own : goal.make-requires-clause-own
make-requires-clause-own c = c.requires.context

pub make-requires-clause-next : goal.make-requires-clause-next
make-requires-clause-next c =
    insert_ready (state_of c.args.self.now) c.known.ensures.history c.known.ensures.number c.args.v c.args.head.name c.args.head.place
    c.args.head.context.set c.args.text c.requires c.known-2.ensures

pub returns-clause-answer : goal.returns-clause-answer
returns-clause-answer c =
    let made =
    insert_made (state_of c.args.self.now) c.args.v c.args.head.name c.args.head.place c.args.head.context.set c.args.text c.requires in
    make_answer _ _ c.make.result made c.make.ensures.op c.make.ensures.memory
