use Rattle.std.proofs.Common.{◌∙◌, ap}
use Rattle.site_answers.specs.declared.local.Local.TheVariants.{PlaceOut}
use Rattle.cot_site.proofs.Views.{character_count}
use Rattle.cot_site.proofs.site.Site.place_out.Goals as goal

pub returns : goal.returns
returns c = ap (PlaceOut c.args.v) (c.visible_len.ensures ∙ character_count c.args.self.now.history)
