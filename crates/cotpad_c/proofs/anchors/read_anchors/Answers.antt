use Rattle.std.proofs.Common.{List, map, ap, ◌∙◌, arith}
use Rattle.std.proofs.lemmas.List.{take_all}
use Rattle.cotpad_c.specs.declared.anchors.CotpadAnchor.{CotpadAnchor}
use Rattle.cotpad_c.specs.Code.{anchor_or_nowhere}
use Rattle.cotpad_c.proofs.Listed.{listed_more}
use Rattle.cotpad_c.proofs.anchors.read_anchors.Goals as goal

pub loop-anchor-preserved : goal.loop-anchor-preserved
loop-anchor-preserved c =
    listed_more anchor_or_nowhere c.args.given.now c.loop-anchor.anchor-index _ c.loop-anchor.anchors.items c.add_anchor.new.anchors.items
    (omega (arith, c.loop-anchor-test.true)) c.loop-anchor.invariant c.in_ok-add_anchor.ensures

pub returns : goal.returns
returns c =
    c.loop-anchor.invariant
    ∙ ap (λ (l : List CotpadAnchor). map anchor_or_nowhere l)
    (take_all c.loop-anchor.anchor-index c.args.given.now (omega (arith, c.loop-anchor-test.false)))
