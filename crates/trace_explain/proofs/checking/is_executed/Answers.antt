use Rattle.std.proofs.Common.{sym, ap, subst, ◌∙◌, ◌≡◌, true}
use Rattle.std.proofs.lemmas.Bool.{both_ways}
use Rattle.op_name.specs.declared.member.Member.{Member}
use Rattle.context_diff.specs.Histories.{is_known}
use Rattle.form_cache.specs.Keys.{KeyData}
use Rattle.trace_explain.proofs.DerivedForms.{form_added, short_history}
use Rattle.trace_explain.proofs.checking.is_executed.Goals as goal

pub context_before-requires : goal.context_before-requires
context_before-requires c =
    let s = short_history c.args.book.now.ops c.known.ensures.valid c.known.ensures.cells in
    subst (λ (m : Member). is_known c.args.book.now.ops m ≡ true) (sym c.member_in.ensures ∙ c.are_same.ensures.0 c.if-not-are_same.false)
    (form_added c.args.book.now.ops s c.args.last.now.at c.args.last.now.form c.requires).known

pub returns-then-not-are_same : goal.returns-then-not-are_same
returns-then-not-are_same c = (
  λ t. absurd (cc),
  λ e. absurd (both_ways c.are_same.result c.if-not-are_same.true
      (c.are_same.ensures.1 (c.member_in.ensures ∙ ap (λ (k : KeyData). k.member) e))),
)

pub returns : goal.returns
returns c = (
  λ t. λ i. record {
    member = (sym c.member_in.ensures ∙ c.are_same.ensures.0 c.if-not-are_same.false) i;
    context =
        (sym c.context_in.ensures ∙ (c.are_equal.ensures.0 t ∙ c.in_ok-to.ensures.value)) i;
  },
  λ e. c.are_equal.ensures.1 (c.context_in.ensures ∙ (ap (λ (k : KeyData). k.context) e ∙ sym c.in_ok-to.ensures.value)),
)
