use Rattle.std.proofs.Common.{List, map, ap, ◌∙◌, arith}
use Rattle.std.proofs.lemmas.List.{take_all}
use Rattle.site_anchors.specs.declared.anchors.Anchor.{Anchor}
use Rattle.site_anchors.specs.Anchors.{place_told}
use Rattle.site_anchors.proofs.Listed.{told_more}
use Rattle.site_anchors.proofs.many.places_of.Goals as goal

pub loop-anchor-preserved : goal.loop-anchor-preserved
loop-anchor-preserved c =
    told_more c.args.site.now.history c.args.anchors.now c.loop-anchor.anchor-index c.anchor-item.result c.loop-anchor.places.items
    c.add_place.new.places.items c.place_seen.result (omega (arith, c.loop-anchor-test.true)) c.anchor-item.is c.loop-anchor.invariant
    c.place_seen.ensures c.in_ok-add_place.ensures

pub returns : goal.returns
returns c =
    c.loop-anchor.invariant
    ∙ ap (λ (l : List Anchor). map (place_told c.args.site.now.history) l)
    (take_all c.loop-anchor.anchor-index c.args.anchors.now (omega (arith, c.loop-anchor-test.false)))
