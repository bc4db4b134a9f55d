use Rattle.context_diff.specs.Ops.{data_of}
use Rattle.cot_site.specs.Sites.{state_of}
use Rattle.participant.specs.Edits.{made_by}
use Rattle.participant.specs.Reached.{at}
use Rattle.participant.proofs.Later.{done_after, later_made, longer_by_one}
use Rattle.participant.proofs.edits.do_edit.Goals as goal

pub returns-in-Ok-clause-done : goal.returns-in-Ok-clause-done
returns-in-Ok-clause-done c =
    let s = state_of c.args.site.now in
    done_after (made_by c.args.edit.now s) s (state_of c.make.new.site) c.args.released.now.items (data_of c.in-Ok.op)
    c.release_after.result
    (at c.release_after.new.site c.release_after.new.released.items) c.in-Ok.ensures.answer c.in-Ok.ensures.made
    c.release_after.ensures.done

pub returns-in-Ok-clause-later : goal.returns-in-Ok-clause-later
returns-in-Ok-clause-later c =
    later_made (state_of c.args.site.now) (state_of c.make.new.site) (state_of c.release_after.new.site) (data_of c.in-Ok.op)
    c.in-Ok.ensures.made c.release_after.ensures.later

pub returns-in-Ok-clause-longer : goal.returns-in-Ok-clause-longer
returns-in-Ok-clause-longer c = λ made.
    longer_by_one (state_of c.args.site.now) (state_of c.make.new.site) (state_of c.release_after.new.site) (data_of c.in-Ok.op)
    c.in-Ok.ensures.made c.release_after.ensures.later
