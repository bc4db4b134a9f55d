use Rattle.site_anchors.proofs.Told.{answer_none, answer_within}
use Rattle.site_anchors.proofs.anchors.place_of.Goals as goal

pub returns-clause-none : goal.returns-clause-none
returns-clause-none c = answer_none c.args.site.now.history c.args.anchor.now c.place_seen.result c.place_seen.ensures

pub returns-clause-within : goal.returns-clause-within
returns-clause-within c =
    answer_within c.args.site.now.history c.args.anchor.now c.place_seen.result c.known.ensures.history c.place_seen.ensures
