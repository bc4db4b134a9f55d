use Rattle.std.proofs.Common.{◌≡◌, true, false, ap, sym, ◌∙◌}
use Rattle.op_name.specs.declared.member.Member.TheVariants.{Original}
use Rattle.context_vector.specs.Contexts.{has}
use Rattle.char_marks.specs.Code.Strays.{first_stray}
use Rattle.char_marks.proofs.Strays.{stray_here, stray_next, stray_end}
use Rattle.char_marks.proofs.mark.first_stray.Goals as goal

pub returns-then-not-contains : goal.returns-then-not-contains
returns-then-not-contains c =
    let v = c.args.context.now.set in
    let lacks : has v (Original c.in-Some.undone.0) ≡ false = sym c.contains.ensures ∙ c.if-not-contains.true in
    sym (c.loop-undone.invariant ∙ stray_here v c.loop-undone.left c.in-Some.undone c.in-Some.ensures.first lacks)

pub loop-undone-init : goal.loop-undone-init
loop-undone-init c = ap (first_stray c.args.context.now.set) (sym c.names_read-left.ensures)

pub loop-undone-preserved : goal.loop-undone-preserved
loop-undone-preserved c =
    let v = c.args.context.now.set in
    let there : has v (Original c.in-Some.undone.0) ≡ true = sym c.contains.ensures ∙ c.if-not-contains.false in
    c.loop-undone.invariant
    ∙ stray_next v c.loop-undone.left c.next.new.self c.in-Some.undone c.in-Some.ensures.first c.next.ensures.rest there

pub returns : goal.returns
returns c = sym (c.loop-undone.invariant ∙ stray_end c.args.context.now.set c.loop-undone.left c.in_default.ensures.first)
