use Rattle.past_view.proofs.Splices.{marked_once}
use Rattle.past_view.proofs.Turns.{there_is}
use Rattle.past_view.proofs.player.marks_one.Goals as goal

pub returns-in-Own : goal.returns-in-Own
returns-in-Own c = λ known cs apart lt.
    let there = there_is cs c.args.cover.now.place lt in
    marked_once c.args.cover.now.mark c.args.cover.now.place cs there.0 (apart known) there.1
