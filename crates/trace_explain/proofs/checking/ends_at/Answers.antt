use Rattle.std.proofs.Common.{refl, Bool, ◌≡◌}
use Rattle.std.specs.Prelude.{IsTrue, ◌↔◌, length}
use Rattle.trace_explain.specs.Traces.{context_before, pair}
use Rattle.trace_explain.specs.Code.Checked.{EndsAt}
use Rattle.trace_explain.proofs.CheckedLines.{ends_at_row, ends_from, ends_row, if_ok_map}
use Rattle.trace_explain.proofs.ExecutedForms.{row_derived}
use Rattle.trace_explain.proofs.checking.ends_at.Goals as goal

pub is_executed-requires : goal.is_executed-requires
is_executed-requires c =
    row_derived c.args.book.now.ops c.args.rows.now (length c.args.rows.now) c.in-Some.last.now c.requires c.in-Some.ensures.there

pub returns-in-Some-clause-exact : goal.returns-in-Some-clause-exact
returns-in-Some-clause-exact c =
    if_ok_map c.is_executed.result (λ (b : Bool). IsTrue b
    ↔ (c.in-Some.last.now.at ≡ pair c.args.m.now (context_before c.args.book.now.ops c.args.m.now)))
    (λ (b : Bool). IsTrue b ↔ EndsAt c.args.book.now.ops c.args.m.now c.args.rows.now)
    (λ b e. (
      λ t. ends_from c.args.book.now.ops c.args.m.now c.args.rows.now c.in-Some.last.now c.in-Some.ensures.there (e.0 t),
      λ t. e.1 (ends_at_row c.args.book.now.ops c.args.m.now c.args.rows.now c.in-Some.last.now c.in-Some.ensures.there t),
    ))
    c.is_executed.ensures

pub returns-in-None-clause-exact : goal.returns-in-None-clause-exact
returns-in-None-clause-exact c =
    (λ t. absurd (cc), λ e. absurd (c.in-None.ensures.none refl e.last (ends_row c.args.book.now.ops c.args.m.now c.args.rows.now e)))
