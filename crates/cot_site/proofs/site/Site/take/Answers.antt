use Rattle.std.proofs.Common.{◌<◌, sym, subst, length}
use Rattle.cot_site.specs.Sites.{SiteData, AllFormed}
use Rattle.cot_site.proofs.Waiting.{removed_formed}
use Rattle.cot_site.proofs.site.Site.take.Goals as goal

pub take-requires : goal.take-requires
take-requires c = subst (λ (s : SiteData). c.args.place < length s.waiting) (sym c.self.view_is) c.requires

pub invariant_of-self : goal.invariant_of-self
invariant_of-self c =
    (c.self.invariant.0, subst AllFormed (sym c.take.ensures.others) (removed_formed c.self.inside.pool c.args.place c.self.invariant.1))
