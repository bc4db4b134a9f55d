use Rattle.cotpad_c.specs.Anchors.{place_number}
use Rattle.cotpad_c.proofs.ToldInFront.{told_more}
use Rattle.cotpad_c.proofs.anchors.tell_all.Goals as goal

pub loop-i-preserved : goal.loop-i-preserved
loop-i-preserved c =
    told_more place_number c.args.found.now c.args.places.now c.loop-i.places c.loop-i.i _ c.place_number.result c.loop-i-test.true
    c.requires c.loop-i.invariant c.place_number.ensures
