use Rattle.std.proofs.Common.{refl, ap, ◌∙◌}
use Rattle.context_vector.specs.Vectors.{lowered}
use Rattle.trace_explain.specs.Listings.{listed_next, stepped}
use Rattle.trace_explain.specs.Code.Listed.{data_of}
use Rattle.trace_explain.proofs.DerivedForms.{short_history, room}
use Rattle.trace_explain.proofs.Turned.{has_two, joined_forms, line_put, step_pushed, turn_joined}
use Rattle.trace_explain.proofs.tasks.join.Goals as goal

pub take_two-left-requires : goal.take_two-left-requires
take_two-left-requires c =
    has_two c.args.book.now.ops (short_history c.args.book.now.ops c.known.ensures.valid c.known.ensures.cells) c.args.key c.args.over
    c.args.work.now.tasks c.args.work.now.done c.requires.tasks

pub include-form-requires : goal.include-form-requires
include-form-requires c =
    let s = short_history c.args.book.now.ops c.known.ensures.valid c.known.ensures.cells in
    let j = joined_forms c.args.book.now.ops s c.args.key c.args.over c.take_two-left.result.0 c.take_two-left.result.1
    c.args.work.now.tasks c.args.work.now.done c.take_two-left.new.self.done c.take_two-left.ensures.done c.requires.tasks in
    room c.args.book.now.ops s c.args.key.member c.args.over (lowered c.args.key.context c.args.over) c.take_two-left.result.0.form
    c.take_two-left.result.1.form j.left j.over

pub returns : goal.returns
returns c =
    let s = short_history c.args.book.now.ops c.known.ensures.valid c.known.ensures.cells in
    turn_joined c.args.book.now.ops s c.args.key c.args.over c.take_two-left.result.0 c.take_two-left.result.1 c.take_two-left.new.self.done
    c.args.work.now c.put.new.self (data_of c.args.listing.now) (data_of c.push.new.self) c.requires.derived
    c.take_two-left.ensures.done c.requires.tasks
    (step_pushed c.args.book.now.ops (data_of c.args.listing.now) (data_of c.push.new.self) c.args.key c.take_two-left.result.0
    c.take_two-left.result.1 c.member_in.result c.include-form.result c.next-listed.result c.member_in.ensures c.include-form.ensures
    c.next-listed.ensures c.in_ok-push.ensures.lines c.in_ok-push.ensures.served)
    (line_put c.args.work.now c.take_two-left.new.self c.put.new.self c.next-listed.result
    (stepped c.args.book.now.ops (data_of c.args.listing.now) c.take_two-left.result.0 c.take_two-left.result.1)
    c.take_two-left.new.self.done c.take_two-left.ensures.tasks refl
    (c.next-listed.ensures ∙ ap (listed_next (data_of c.args.listing.now)) c.include-form.ensures) c.in_ok-put.ensures)
