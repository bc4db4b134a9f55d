use Rattle.std.proofs.Common.{◌∙◌, List, sym, ap, subst, arith}
use Rattle.form_rows.specs.RowSets.{form_after, row_after, PassFits}
use Rattle.form_rows.proofs.Turns.{blocks_one, blocks_on}
use Rattle.form_rows.proofs.blocks.pass_blocks.Goals as goal

pub pass-f-requires : goal.pass-f-requires
pass-f-requires g c =
    subst (λ (l : List g.row.F.Denot). PassFits g.F.Include.over g.F.Include.place g.F.Include.extent c.loop-x.f l) c.x-item.is
    (blocks_one g.F.Include.over g.F.Include.place g.F.Include.extent c.args.form c.args.blocks.now c.loop-x.f c.x-item.result
    c.loop-x.x-index c.loop-x.blocks (omega (arith, c.loop-x.auto.blocks, c.loop-x-test.true)) c.x-item.is c.loop-x.invariant)

pub loop-x-preserved : goal.loop-x-preserved
loop-x-preserved g c =
    blocks_on g.F.Include.over g.F.Include.place g.F.Include.extent c.args.form c.args.blocks.now c.loop-x.f c.pass-f.result c.x-item.result
    c.pass-f.new.self c.loop-x.x-index c.loop-x.blocks (omega (arith, c.loop-x.auto.blocks, c.loop-x-test.true)) c.x-item.is
    (c.pass-f.ensures.form ∙ ap (λ (l : List g.row.F.Denot). form_after g.F.Include.over c.loop-x.f l) (sym c.x-item.is))
    (c.pass-f.ensures.row ∙ ap (λ (l : List g.row.F.Denot). row_after g.F.Include.over c.loop-x.f l) (sym c.x-item.is)) c.loop-x.invariant
