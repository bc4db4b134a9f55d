use Rattle.std.proofs.Common.{sym, subst, ◌∙◌}
use Rattle.op_name.specs.declared.member.Member.{Member}
use Rattle.op_name.specs.Members.{IsMember}
use Rattle.context_vector.specs.Contexts.{ContextData, IsNextMember, raised}
use Rattle.transform_rec.proofs.CallerLemmas.{added_next, known_generation}
use Rattle.trace_explain.specs.Traces.{pair}
use Rattle.trace_explain.specs.Code.Tasks.{IsFormAt}
use Rattle.trace_explain.proofs.DerivedForms.{room, short_history}
use Rattle.trace_explain.proofs.ExecutedForms.{left_derived, over_added, over_derived, step_row_derived}
use Rattle.trace_explain.proofs.checking.step_row.Goals as goal

pub include-requires : goal.include-requires
include-requires c =
    let s = short_history c.args.book.now.ops c.known.ensures.valid c.known.ensures.cells in
    let y = c.may_include.ensures.0 c.if-not-may_include.false in
    room c.args.book.now.ops s c.args.member.now c.args.b.now.at.member c.args.a.now.at.context c.args.a.now.form c.args.b.now.form
    (left_derived c.args.book.now.ops c.args.a.now c.args.member.now y.0 c.requires.left)
    (over_derived c.args.book.now.ops c.args.a.now c.args.b.now y.1 c.requires.over)

pub add_reserved-requires-clause-member : goal.add_reserved-requires-clause-member
add_reserved-requires-clause-member c =
    let s = short_history c.args.book.now.ops c.known.ensures.valid c.known.ensures.cells in
    let y = c.may_include.ensures.0 c.if-not-may_include.false in
    subst IsMember (sym c.member_in-x.ensures)
    (known_generation c.args.book.now.ops c.known.ensures.valid c.args.b.now.at.member
    (over_added c.args.book.now.ops s c.args.a.now c.args.b.now y.1 c.requires.over).known)

pub add_reserved-requires-clause-next : goal.add_reserved-requires-clause-next
add_reserved-requires-clause-next c =
    let s = short_history c.args.book.now.ops c.known.ensures.valid c.known.ensures.cells in
    let y = c.may_include.ensures.0 c.if-not-may_include.false in
    let next =
    added_next c.args.book.now.ops c.known.ensures.valid c.args.a.now.at.context c.args.b.now.at.member
    (over_added c.args.book.now.ops s c.args.a.now c.args.b.now y.1 c.requires.over) in
    let set = c.reserve.ensures.same ∙ (c.in_ok-context.ensures ∙ c.context_in.ensures) in
    subst (λ (m : Member). IsNextMember c.reserve.new.self.set m) (sym c.member_in-x.ensures)
    (subst (λ (d : ContextData). IsNextMember d c.args.b.now.at.member) (sym set) next)

pub returns-clause-derived : goal.returns-clause-derived
returns-clause-derived c =
    let s = short_history c.args.book.now.ops c.known.ensures.valid c.known.ensures.cells in
    let y = c.may_include.ensures.0 c.if-not-may_include.false in
    let set = c.reserve.ensures.same ∙ (c.in_ok-context.ensures ∙ c.context_in.ensures) in
    let grown = c.add_reserved.ensures.added ∙ (λ i. raised (set i) (c.member_in-x.ensures i)) in
    let form = sym (c.is_same.ensures.0 c.if-not-is_same.false) ∙ c.include.ensures in
    subst (λ (d : ContextData). IsFormAt c.args.book.now.ops (pair c.args.member.now d) c.args.form.now) (sym grown)
    (step_row_derived c.args.book.now.ops s c.args.a.now c.args.b.now c.args.member.now c.args.form.now c.requires.left c.requires.over
    (record { member = y.0; equal = y.1; other = y.2; lacks = y.3; form = form }))
