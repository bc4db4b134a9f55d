use Rattle.std.proofs.Common.{◌≡◌, ℕ, ◌*◌, ◌≤◌, ◌∙◌, drop, take, length, sym, ap, arith, rules}
use Rattle.std.specs.Prelude.{fold}
use Rattle.std.proofs.lemmas.List.{length-take-le}
use Rattle.form_rows.specs.declared.passages.TheConstants.{STRETCH}
use Rattle.form_rows.specs.Stretches.{place_after}
use Rattle.form_rows.proofs.Thresholds.{whole_stretches}
use Rattle.form_rows.proofs.Moved.{moved_near}
use Rattle.form_rows.proofs.passages.Passages.moved.Goals as goal

pub overflow_mul-first : goal.overflow_mul-first
overflow_mul-first c =
    let some =
    whole_stretches c.args.self.now c.args.executed.now c.first_stretch-first.result c.count.result c.requires c.count.ensures
    c.if-count-first.false in
    search (rules, some)

pub slice_bounds-moved_by_each-end : goal.slice_bounds-moved_by_each-end
slice_bounds-moved_by_each-end c =
    let some =
    whole_stretches c.args.self.now c.args.executed.now c.first_stretch-first.result c.count.result c.requires c.count.ensures
    c.if-count-first.false in
    sym (length-take-le (STRETCH * c.first_stretch-first.result) c.args.executed.now some)

pub returns : goal.returns
returns c =
    let fs = c.args.executed.now in
    let end = STRETCH * c.first_stretch-first.result in
    let some =
    whole_stretches c.args.self.now fs c.first_stretch-first.result c.count.result c.requires c.count.ensures c.if-count-first.false in
    c.moved_from_stretch.ensures
    ∙ (ap (λ (p : ℕ). fold place_after p (drop end fs)) c.moved_by_each-near.ensures
    ∙ moved_near c.args.place fs c.args.from end c.first_stretch-first.ensures.from some)
