use Rattle.std.proofs.Common.{◌≡◌, ℕ, ◌+◌, ◌∙◌, drop, ap, sym, arith}
use Rattle.std.specs.Prelude.{fold}
use Rattle.form_rows.specs.Stretches.{place_after}
use Rattle.form_rows.proofs.Moved.{moved_next, moved_end}
use Rattle.form_rows.proofs.passages.moved_by_each.Goals as goal

pub loop-i-preserved : goal.loop-i-preserved
loop-i-preserved c =
    let fs = c.args.executed.now in
    ap (λ (p : ℕ). fold place_after p (drop (c.loop-i.i + 1) fs)) c.place_after-now.ensures
    ∙ (sym (moved_next c.loop-i.now fs c.loop-i.i c.index-executed-i.result c.loop-i-test.true c.index-executed-i.is) ∙ c.loop-i.invariant)

pub returns : goal.returns
returns c = sym (moved_end c.loop-i.now c.args.executed.now c.loop-i.i (omega (arith, c.loop-i-test.false))) ∙ c.loop-i.invariant
