use Rattle.std.proofs.Common.{arith}
use Rattle.context_diff.specs.Ops.{data_of}
use Rattle.cot_site.specs.Sites.{state_of}
use Rattle.participant.specs.declared.edits.Edit.TheVariants.{Insert}
use Rattle.participant.specs.Edits.{made_by}
use Rattle.participant.specs.Reached.{at}
use Rattle.participant.proofs.Later.{cells_later, done_after, later_made, longer_by_one, run_room}
use Rattle.participant.proofs.edits.do_insert.Goals as goal

pub returns-in-Ok-clause-done : goal.returns-in-Ok-clause-done
returns-in-Ok-clause-done c =
    let s = state_of c.args.site.now in
    done_after (made_by (Insert c.args.place c.args.text.now) s) s (state_of c.insert_run.new.self) c.args.released.now.items
    (data_of c.in-Ok.op) c.release_after.result
    (at c.release_after.new.site c.release_after.new.released.items) c.in-Ok.ensures.answer c.in-Ok.ensures.made
    c.release_after.ensures.done

pub returns-in-Ok-clause-later : goal.returns-in-Ok-clause-later
returns-in-Ok-clause-later c =
    later_made (state_of c.args.site.now) (state_of c.insert_run.new.self) (state_of c.release_after.new.site) (data_of c.in-Ok.op)
    c.in-Ok.ensures.made c.release_after.ensures.later

pub returns-in-Ok-clause-longer : goal.returns-in-Ok-clause-longer
returns-in-Ok-clause-longer c = λ made.
    longer_by_one (state_of c.args.site.now) (state_of c.insert_run.new.self) (state_of c.release_after.new.site) (data_of c.in-Ok.op)
    c.in-Ok.ensures.made c.release_after.ensures.later

pub returns-in-Ok-clause-room : goal.returns-in-Ok-clause-room
returns-in-Ok-clause-room c =
    let s = state_of c.args.site.now in
    let o = data_of c.in-Ok.op in
    let room = run_room s c.args.place c.args.text.now o c.in-Ok.ensures.answer in
    let more =
    cells_later s (state_of c.insert_run.new.self) (state_of c.release_after.new.site) o
    c.in-Ok.ensures.made c.release_after.ensures.later in
    grind (arith, room, more)
