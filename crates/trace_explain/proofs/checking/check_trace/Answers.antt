use Rattle.std.proofs.Common.{sym, ap, subst, ◌∙◌, arith, Bool, List, [], ◌∷◌, ◌++◌}
use Rattle.std.specs.Prelude.{IsTrue, ◌↔◌}
use Rattle.trace_explain.specs.declared.row.Row.{Row}
use Rattle.trace_explain.specs.Traces.{IsLine, IsTrace}
use Rattle.trace_explain.specs.Code.Checked.{AreDerivedRows, EndsAt}
use Rattle.trace_explain.proofs.CheckedLines.{if_ok_map, right_from_end, right_next, right_to_end}
use Rattle.trace_explain.proofs.checking.check_trace.Goals as goal

pub row_of-requires : goal.row_of-requires
row_of-requires c =
    subst (λ (xs : List Row). AreDerivedRows c.args.book.now.ops xs) (sym c.deref.ensures.value) c.loop-line.invariant.derived

pub loop-line-preserved : goal.loop-line-preserved
loop-line-preserved c =
    right_next c.args.book.now.ops c.args.lines.now c.loop-line.rows.items c.push_reserved.new.self.items c.loop-line.line-index
    c.line-item.result c.in-Some.row (omega arith) c.line-item.is c.loop-line.invariant
    (subst (λ (xs : List Row). IsLine c.args.book.now.ops xs c.line-item.result c.in-Some.row) c.deref.ensures.value
    (rw c.in-Some.is at c.in_ok-row.ensures.right))
    (rw c.in-Some.is at c.in_ok-row.ensures.derived)
    (c.push_reserved.ensures.items ∙ ap (λ (xs : List Row). xs ++ (c.in-Some.row ∷ [])) c.in_ok-reserve-in-Some.ensures.items)

pub ends_at-requires : goal.ends_at-requires
ends_at-requires c =
    subst (λ (xs : List Row). AreDerivedRows c.args.book.now.ops xs) (sym c.deref-2.ensures.value) c.loop-line.invariant.derived

pub returns-clause-exact : goal.returns-clause-exact
returns-clause-exact c =
    if_ok_map c.ends_at.result (λ (b : Bool). IsTrue b ↔ EndsAt c.args.book.now.ops c.args.m.now c.deref-2.result.now)
    (λ (b : Bool). IsTrue b ↔ IsTrace c.args.book.now.ops c.args.m.now c.args.lines.now)
    (λ b e. (
      λ t. right_to_end c.args.book.now.ops c.args.lines.now c.args.m.now c.loop-line.rows.items c.loop-line.line-index (omega arith)
          c.loop-line.invariant (subst (λ (xs : List Row). EndsAt c.args.book.now.ops c.args.m.now xs) c.deref-2.ensures.value (e.0 t)),
      λ t. e.1 (subst (λ (xs : List Row). EndsAt c.args.book.now.ops c.args.m.now xs) (sym c.deref-2.ensures.value)
          (right_from_end c.args.book.now.ops c.args.lines.now c.args.m.now c.loop-line.rows.items c.loop-line.line-index (omega arith)
          c.loop-line.invariant t)),
    ))
    c.ends_at.ensures.exact
