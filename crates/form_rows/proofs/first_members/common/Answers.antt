use Rattle.std.proofs.Common.{◌≡◌, ◌-◌, ◌∙◌, ℕ, take, sym, ap, arith}
use Rattle.form_rows.specs.Lacking.{lacking}
use Rattle.form_rows.proofs.Choices.{in_take}
use Rattle.form_rows.proofs.Prefixes.{lacking_step, lacking_none, lacked_insert, lacked_other, some_put}
use Rattle.form_rows.proofs.first_members.common.Goals as goal

pub loop-lacked-init : goal.loop-lacked-init
loop-lacked-init c = record {
  within = let e = c.last_place-i.ensures in omega arith;
  rest = c.requires ∙ ap (λ (n : ℕ). lacking (take n c.args.book.now.ops) c.args.context.now.set) (sym c.last_place-i.ensures);
  count = c.count-count.ensures.count;
}

pub overflow_sub-lacked : goal.overflow_sub-lacked
overflow_sub-lacked c =
    let i = c.loop-lacked.i in
    let low = c.if-i-gt0.true in
    let at = c.loop-lacked.invariant.rest in
    let step =
    lacking_step c.args.book.now.ops c.args.context.now.set i (i - 1) (omega arith) c.loop-lacked.invariant.within c.cells_at-cells.result
    (λ o there. c.cells_at-cells.ensures o there ∙ sym (lacked_insert c.args.context.now.set o
    (sym (c.lacks_insert.ensures.lacks o there) ∙ c.if-lacks_insert.true))) in
    omega (arith, step, at)

pub loop-lacked-preserved-then-lacks_insert : goal.loop-lacked-preserved-then-lacks_insert
loop-lacked-preserved-then-lacks_insert c =
    let i = c.loop-lacked.i in
    let le = c.loop-lacked.invariant.within in
    let low = c.if-i-gt0.true in
    let at = c.loop-lacked.invariant.rest in
    let step =
    lacking_step c.args.book.now.ops c.args.context.now.set i (i - 1) (omega arith) le c.cells_at-cells.result
    (λ o there. c.cells_at-cells.ensures o there ∙ sym (lacked_insert c.args.context.now.set o
    (sym (c.lacks_insert.ensures.lacks o there) ∙ c.if-lacks_insert.true))) in
    record { within = omega arith; rest = omega (arith, step, at); count = c.lacks_insert.ensures.count }

pub loop-lacked-preserved : goal.loop-lacked-preserved
loop-lacked-preserved c =
    let i = c.loop-lacked.i in
    let le = c.loop-lacked.invariant.within in
    let low = c.if-i-gt0.true in
    let at = c.loop-lacked.invariant.rest in
    let step =
    lacking_step c.args.book.now.ops c.args.context.now.set i (i - 1) (omega arith) le 0
    (λ o there. sym (lacked_other c.args.context.now.set o (sym (c.lacks_insert.ensures.lacks o there) ∙ c.if-lacks_insert.false))) in
    record { within = omega arith; rest = omega (arith, step, at); count = c.lacks_insert.ensures.count }

pub returns-after-loop-lacked-clause-has : goal.returns-after-loop-lacked-clause-has
returns-after-loop-lacked-clause-has c o there insert =
    let low = c.loop-lacked-test.false in
    let none : c.loop-lacked.lacked ≡ 0 = omega arith in
    let h = c.args.book.now.ops in
    lacking_none (take c.loop-lacked.i h) c.args.context.now.set
    (λ p i. some_put h c.known.ensures.valid p (in_take p h c.loop-lacked.i i)) (sym c.loop-lacked.invariant.rest ∙ none) o there insert
