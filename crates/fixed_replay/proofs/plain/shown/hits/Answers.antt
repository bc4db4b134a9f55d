use Rattle.std.proofs.Common.{◌+◌, ◌<◌, Bool, drop, ap, sym, ◌∙◌, arith}
use Rattle.op_name.specs.NameData.{NameData}
use Rattle.op_name.specs.declared.member.Member.TheVariants.{Original}
use Rattle.context_vector.specs.Contexts.{has}
use Rattle.fixed_replay.proofs.Standing.{stands_among, stands_past, stands_here, stands_later, stands_end}
use Rattle.fixed_replay.proofs.plain.shown.hits.Goals as goal
use Rattle.fixed_replay.proofs.plain.shown.hits.Goals.{then-is_in+else-before-eq0, else-is_in}

pub returns-then-before-eq0 : goal.returns-then-before-eq0
returns-then-before-eq0 c =
    let sees : NameData → Bool = λ n. has c.args.context.now.set (Original n) in
    let x = c.other-item.result in
    c.is.ensures ∙ sym (c.loop-other.invariant
    ∙ stands_here sees c.args.cell.now c.loop-other.before c.args.cells.now c.loop-other.other-index x c.loop-other-test.true
    c.other-item.is (sym c.is_in.ensures ∙ c.if-is_in.true) c.if-before-eq0.true)

pub loop-other-preserved : goal.loop-other-preserved
loop-other-preserved c =
    let sees : NameData → Bool = λ n. has c.args.context.now.set (Original n) in
    let cell = c.args.cell.now in
    let cells = c.args.cells.now in
    let i = c.loop-other.other-index in
    let before = c.loop-other.before in
    let x = c.other-item.result in
    elim c.if-is_in.branch [
      | then-is_in+else-before-eq0 w ↦
          let some : 0 < before = let other = w.if-before-eq0.false in omega arith in
          c.loop-other.invariant
          ∙ (stands_later sees cell before cells i x c.loop-other-test.true c.other-item.is (sym c.is_in.ensures ∙ w.if-is_in.true)
          some
          ∙ ap (λ n. stands_among sees cell n (drop (i + 1) cells)) (sym w.before-is))
      | else-is_in w ↦
          c.loop-other.invariant
          ∙ (stands_past sees cell before cells i x c.loop-other-test.true c.other-item.is (sym c.is_in.ensures ∙ w.if-is_in.false)
          ∙ ap (λ n. stands_among sees cell n (drop (i + 1) cells)) (sym w.before-is))
    ]

pub returns : goal.returns
returns c =
    let sees : NameData → Bool = λ n. has c.args.context.now.set (Original n) in
    sym (c.loop-other.invariant ∙ stands_end sees c.args.cell.now c.loop-other.before c.args.cells.now c.loop-other.other-index
    c.loop-other-test.false)
