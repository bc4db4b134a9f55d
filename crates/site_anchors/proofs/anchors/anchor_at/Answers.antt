use Rattle.site_anchors.specs.declared.anchors.Side.TheVariants.{Left, Right}
use Rattle.site_anchors.proofs.Told.{anchors_end, answer_back}
use Rattle.site_anchors.proofs.anchors.anchor_at.Goals as goal

pub returns-in-Left-clause-back : goal.returns-in-Left-clause-back
returns-in-Left-clause-back c =
    answer_back c.args.site.now.history Left c.args.place c.left_of.result c.known.ensures.history c.left_of.ensures

pub returns-in-Right-clause-none : goal.returns-in-Right-clause-none
returns-in-Right-clause-none c = anchors_end c.args.site.now.history Right c.args.place c.right_of.result c.right_of.ensures

pub returns-in-Right-clause-back : goal.returns-in-Right-clause-back
returns-in-Right-clause-back c =
    answer_back c.args.site.now.history Right c.args.place c.right_of.result c.known.ensures.history c.right_of.ensures
