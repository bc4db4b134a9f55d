use Rattle.std.proofs.Common.{refl, sym, ap, subst, ◌≡◌, true, ◌∙◌}
use Rattle.op_name.specs.declared.member.Member.{Member}
use Rattle.context_diff.specs.Histories.{is_known}
use Rattle.undo_group.specs.BaseForms.{base_form}
use Rattle.trace_explain.specs.Listings.{based, listed_next}
use Rattle.trace_explain.specs.Code.Listed.{data_of}
use Rattle.trace_explain.proofs.DerivedForms.{short_history}
use Rattle.trace_explain.proofs.Turned.{base_pushed, line_put, turn_based}
use Rattle.trace_explain.proofs.tasks.list_base.Goals as goal

pub base_of-form-requires : goal.base_of-form-requires
base_of-form-requires c =
    subst (λ (m : Member). is_known c.args.book.now.ops m ≡ true) (sym c.member_in-member.ensures) c.requires.tasks.0.known

pub returns : goal.returns
returns c =
    let s = short_history c.args.book.now.ops c.known.ensures.valid c.known.ensures.cells in
    let form = c.base_of-form.ensures ∙ ap (base_form c.args.book.now.ops) c.member_in-member.ensures in
    turn_based c.args.book.now.ops s c.args.key c.args.work.now c.put.new.self (data_of c.args.listing.now) (data_of c.push.new.self)
    c.requires.derived c.requires.tasks c.requires.new c.requires.here
    (base_pushed c.args.book.now.ops (data_of c.args.listing.now) (data_of c.push.new.self) c.args.key c.member_in-member.result
    c.base_of-form.result c.next-listed.result c.member_in-member.ensures c.base_of-form.ensures c.next-listed.ensures
    c.in_ok-push.ensures.lines c.in_ok-push.ensures.served)
    (line_put c.args.work.now c.args.work.now c.put.new.self c.next-listed.result
    (based c.args.book.now.ops (data_of c.args.listing.now) c.args.key) c.args.work.now.done refl refl
    (c.next-listed.ensures ∙ ap (listed_next (data_of c.args.listing.now)) form) c.in_ok-put.ensures)
