use Rattle.std.proofs.Common.{sym, subst, ◌∙◌}
use Rattle.std.proofs.lemmas.Bool.{both_ways}
use Rattle.context_vector.specs.Contexts.{ContextData}
use Rattle.context_diff.specs.Histories.{is_known}
use Rattle.trace_explain.specs.Traces.{pair}
use Rattle.trace_explain.specs.Code.Tasks.{IsFormAt}
use Rattle.trace_explain.proofs.CheckedLines.{known_from}
use Rattle.trace_explain.proofs.ExecutedForms.{base_row_derived}
use Rattle.trace_explain.proofs.checking.base_row.Goals as goal

pub base_of-requires : goal.base_of-requires
base_of-requires c =
    sym (known_from c.args.book.now.ops c.args.book.now.have c.have.result.now c.args.member.now c.contains.result c.known.ensures.valid
    c.known.ensures.have c.have.ensures c.contains.ensures) ∙ c.if-not-contains.false

pub returns-then-not-contains-clause-wrong : goal.returns-then-not-contains-clause-wrong
returns-then-not-contains-clause-wrong c _ r i =
    both_ways (is_known c.args.book.now.ops c.args.member.now)
    (sym (known_from c.args.book.now.ops c.args.book.now.have c.have.result.now c.args.member.now c.contains.result
    c.known.ensures.valid c.known.ensures.have c.have.ensures c.contains.ensures) ∙ c.if-not-contains.true) i.0

pub returns-then-not-is_same-clause-wrong : goal.returns-then-not-is_same-clause-wrong
returns-then-not-is_same-clause-wrong c _ r i =
    both_ways c.is_same.result c.if-not-is_same.true (c.is_same.ensures.1 (c.base_of.ensures ∙ sym i.1))

pub base_context-requires : goal.base_context-requires
base_context-requires c =
    sym (known_from c.args.book.now.ops c.args.book.now.have c.have.result.now c.args.member.now c.contains.result c.known.ensures.valid
    c.known.ensures.have c.have.ensures c.contains.ensures) ∙ c.if-not-contains.false

pub returns-clause-right : goal.returns-clause-right
returns-clause-right c = (
  sym (known_from c.args.book.now.ops c.args.book.now.have c.have.result.now c.args.member.now c.contains.result c.known.ensures.valid
      c.known.ensures.have c.have.ensures c.contains.ensures) ∙ c.if-not-contains.false,
  sym (c.is_same.ensures.0 c.if-not-is_same.false) ∙ c.base_of.ensures,
  λ i. record { at = pair c.args.member.now (c.in_ok-context.ensures.value i); form = c.args.form.now },
)

pub returns-clause-derived : goal.returns-clause-derived
returns-clause-derived c =
    let known =
    sym (known_from c.args.book.now.ops c.args.book.now.have c.have.result.now c.args.member.now c.contains.result c.known.ensures.valid
    c.known.ensures.have c.have.ensures c.contains.ensures) ∙ c.if-not-contains.false in
    subst (λ (d : ContextData). IsFormAt c.args.book.now.ops (pair c.args.member.now d) c.args.form.now) (sym c.in_ok-context.ensures.value)
    (base_row_derived c.args.book.now.ops c.known.ensures.valid c.args.member.now c.args.form.now known
    (sym (c.is_same.ensures.0 c.if-not-is_same.false) ∙ c.base_of.ensures))
