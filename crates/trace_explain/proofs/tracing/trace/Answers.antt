use Rattle.std.proofs.Common.{refl, sym, ◌∙◌}
use Rattle.std.proofs.lemmas.Bool.{both_ways}
use Rattle.context_diff.specs.Histories.{is_known}
use Rattle.trace_explain.proofs.CheckedLines.{known_from, on_err_of}
use Rattle.trace_explain.proofs.tracing.trace.Goals as goal

pub returns-then-not-contains-clause-found : goal.returns-then-not-contains-clause-found
returns-then-not-contains-clause-found c = (
  λ t. absurd (cc),
  λ e. absurd (both_ways (is_known c.args.book.now.ops c.args.m.now)
      (sym (known_from c.args.book.now.ops c.args.book.now.have c.have.result.now c.args.m.now c.contains.result c.known.ensures.valid
      c.known.ensures.have c.have.ensures c.contains.ensures) ∙ c.if-not-contains.true) e),
)

pub listed-requires : goal.listed-requires
listed-requires c =
    sym (known_from c.args.book.now.ops c.args.book.now.have c.have.result.now c.args.m.now c.contains.result c.known.ensures.valid
    c.known.ensures.have c.have.ensures c.contains.ensures) ∙ c.if-not-contains.false

pub returns-clause-found : goal.returns-clause-found
returns-clause-found c = (
  λ t. sym (known_from c.args.book.now.ops c.args.book.now.have c.have.result.now c.args.m.now c.contains.result c.known.ensures.valid
      c.known.ensures.have c.have.ensures c.contains.ensures) ∙ c.if-not-contains.false,
  λ e. refl,
)

pub returns-in_err-listing-clause-needed : goal.returns-in_err-listing-clause-needed
returns-in_err-listing-clause-needed c =
    let book = c.args.book.now in
    let there = known_from book.ops book.have c.have.result.now c.args.m.now c.contains.result in
    let known = there c.known.ensures.valid c.known.ensures.have c.have.ensures c.contains.ensures in
    on_err_of c.from_residual.result (sym known ∙ c.if-not-contains.false)

pub returns-in_err-extend_from_slice-clause-needed : goal.returns-in_err-extend_from_slice-clause-needed
returns-in_err-extend_from_slice-clause-needed c =
    let book = c.args.book.now in
    let there = known_from book.ops book.have c.have.result.now c.args.m.now c.contains.result in
    let known = there c.known.ensures.valid c.known.ensures.have c.have.ensures c.contains.ensures in
    on_err_of c.from_residual-in_err-extend_from_slice.result (sym known ∙ c.if-not-contains.false)
